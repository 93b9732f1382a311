-- The elements and the running sums of lists in descending order.
use Rattle.std.proofs.Common.{List, [], arith, drop, get_or, inl, inr, refl, suc, zero, ℕ, ◌+◌, ◌<◌, ◌∷◌, ◌≡◌, ◌≤◌}
use Rattle.std.proofs.lemmas.Bool.{cases_lt}
use Rattle.std.specs.List.{AllByRecursion}
use Rattle.degree_sequences.proofs.RunningSums.{running_sum-add, running_sum-mono, running_sum-suc}
use Rattle.degree_sequences.specs.Descending.{IsDescending, trimmed}
use Rattle.degree_sequences.specs.RunningSums.{running_sum}

pub IsDescending-cons : (x : ℕ) (s : List ℕ) → get_or s 0 0 ≤ x → IsDescending s → IsDescending (x ∷ s)
IsDescending-cons x s h fall zero = h
IsDescending-cons x s h fall (suc r) = fall r

pub descends_to : (s : List ℕ) → IsDescending s → (i j : ℕ) → i ≤ j → get_or s j 0 ≤ get_or s i 0
descends_to s fall i zero h = let e : i ≡ zero = omega arith in rw e (omega arith)
descends_to s fall i (suc j) h = elim (cases_lt j i) [
  | inl k ↦ (let e : i ≡ suc j = omega arith in rw e (omega arith))
  | inr k ↦ omega (arith, fall j, descends_to s fall i j k)
]

pub running_sum-tail : (m : ℕ) (ms : List ℕ) → IsDescending (m ∷ ms) → (r : ℕ) → running_sum ms r ≤ running_sum (m ∷ ms) r
running_sum-tail m ms fall zero = omega arith
running_sum-tail m [] fall (suc r) = omega arith
running_sum-tail m (k ∷ ms) fall (suc r) = omega (arith, fall 0, running_sum-tail k ms (λ i. fall (suc i)) r)

pub IsDescending-from_sums : (s : List ℕ) → ((r : ℕ) → running_sum s (suc (suc r)) + running_sum s r ≤ running_sum s (suc r) + running_sum s (suc r)) → IsDescending s
IsDescending-from_sums s h r = omega (arith, h r, running_sum-suc s r, running_sum-suc s (suc r))

pub sums_are_concave : (s : List ℕ) → IsDescending s → (r : ℕ) → running_sum s (suc (suc r)) + running_sum s r ≤ running_sum s (suc r) + running_sum s (suc r)
sums_are_concave s fall r = omega (arith, fall r, running_sum-suc s r, running_sum-suc s (suc r))

pub sums_from_later_are_less : (u : List ℕ) → IsDescending u → (a b y : ℕ) → a ≤ b → running_sum (drop b u) y ≤ running_sum (drop a u) y
sums_from_later_are_less u fall zero zero y h = omega arith
sums_from_later_are_less [] fall zero (suc b) y h = omega arith
sums_from_later_are_less (x ∷ u) fall zero (suc b) y h = omega (arith, sums_from_later_are_less u (λ r. fall (suc r)) zero b y (omega arith), running_sum-tail x u fall y)
sums_from_later_are_less u fall (suc a) zero y h = absurd (omega arith)
sums_from_later_are_less [] fall (suc a) (suc b) y h = omega arith
sums_from_later_are_less (x ∷ u) fall (suc a) (suc b) y h = sums_from_later_are_less u (λ r. fall (suc r)) a b y (omega arith)

pub sums_of_windows : (u : List ℕ) → IsDescending u → (a b x y : ℕ) → a ≤ b → y ≤ x → running_sum u (b + y) + running_sum u a ≤ running_sum u (a + x) + running_sum u b
sums_of_windows u fall a b x y h k = omega (arith, running_sum-add u b y, running_sum-add u a x, sums_from_later_are_less u fall a b y h, running_sum-mono (drop a u) y x k)

pub same_by_sums : (s t : List ℕ) → AllByRecursion (λ x. 0 < x) s → AllByRecursion (λ x. 0 < x) t → ((r : ℕ) → running_sum s r ≡ running_sum t r) → s ≡ t
same_by_sums [] [] ps pt same = refl
same_by_sums [] (y ∷ t) ps pt same = absurd (omega (arith, same 1, pt.0))
same_by_sums (x ∷ s) [] ps pt same = absurd (omega (arith, same 1, ps.0))
same_by_sums (x ∷ s) (y ∷ t) ps pt same =
    let e : x ≡ y = omega (arith, same 1) in
    rw (e, same_by_sums s t ps.1 pt.1 (λ r. omega (arith, same (suc r), e))) refl

pub zero_first_trims_all : (s : List ℕ) → IsDescending s → get_or s 0 0 ≤ 0 → trimmed s ≡ []
zero_first_trims_all [] fall h = refl
zero_first_trims_all (zero ∷ s) fall h = rw (zero_first_trims_all s (λ r. fall (suc r)) (fall 0)) refl
zero_first_trims_all (suc x ∷ s) fall h = absurd (omega arith)

pub trimmed_positive : (s : List ℕ) → IsDescending s → AllByRecursion (λ x. 0 < x) (trimmed s)
trimmed_positive [] fall = tt
trimmed_positive (zero ∷ s) fall = rw (zero_first_trims_all s (λ r. fall (suc r)) (fall 0)) tt
trimmed_positive (suc x ∷ s) fall = (omega arith, trimmed_positive s (λ r. fall (suc r)))
