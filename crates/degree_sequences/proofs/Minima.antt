-- Lists that are given by their running sums (`with_running_sums`): the lesser of two lists, and a list whose running sums are capped at a number.
use Rattle.std.proofs.Common.{List, add-zero, ap, arith, inl, inr, length, map, max, min, refl, suc, zero, ℕ, ◌+◌, ◌-◌, ◌∙◌, ◌≡◌, ◌≤◌}
use Rattle.std.proofs.lemmas.Bool.{cases_lt}
use Rattle.std.proofs.lemmas.List.{length-map}
use Rattle.std.specs.List.{range_with_len}
use Rattle.std.proofs.lemmas.List.FromFn.{length-range_with_len}
use Rattle.degree_sequences.proofs.FallingLists.{IsDescending-from_sums, sums_are_concave}
use Rattle.degree_sequences.proofs.RunningSums.{running_sum-mono, running_sum-past, running_sum-trimmed}
use Rattle.degree_sequences.specs.Descending.{IsDescending}
use Rattle.degree_sequences.specs.RunningSums.{capped_at, lesser, running_sum, with_running_sums}

abbrev pub steps : (ℕ → ℕ) → ℕ → ℕ → List ℕ
steps f a n = map (λ r. f (suc r) - f r) (range_with_len a n)

pub running_sum-steps : (f : ℕ → ℕ) → ((r : ℕ) → f r ≤ f (suc r)) → (a n r : ℕ) → r ≤ n → f a + running_sum (steps f a n) r ≡ f (a + r)
running_sum-steps f up a n zero h = simp add-zero
running_sum-steps f up a zero (suc r) h = absurd (omega arith)
running_sum-steps f up a (suc n) (suc r) h =
    let ih : f (a + 1) + running_sum (steps f (a + 1) n) r ≡ f (a + 1 + r) = running_sum-steps f up (a + 1) n r (omega arith) in
    let here : a + 1 ≡ suc a = omega arith in
    let there : a + 1 + r ≡ a + suc r = omega arith in
    omega (arith, ih, ap f here, ap f there, up a)

pub length-with_running_sums : (f : ℕ → ℕ) (n : ℕ) → length (with_running_sums f n) ≡ n
length-with_running_sums f n = length-map (range_with_len 0 n) (λ r. f (suc r) - f r) ∙ length-range_with_len 0 n

pub running_sum-with_running_sums : (f : ℕ → ℕ) (n : ℕ) → ((r : ℕ) → f r ≤ f (suc r)) → f 0 ≡ 0 → ((r : ℕ) → n ≤ r → f r ≡ f n) → (r : ℕ) → running_sum (with_running_sums f n) r ≡ f r
running_sum-with_running_sums f n up none stays r = elim (cases_lt n r) [
  | inl h ↦ (let len : length (with_running_sums f n) ≡ n = length-with_running_sums f n in
      let whole : f 0 + running_sum (with_running_sums f n) n ≡ f (0 + n) = running_sum-steps f up 0 n n (omega arith) in
      let e : 0 + n ≡ n = omega arith in
      omega (arith, running_sum-past (with_running_sums f n) r (omega arith), running_sum-past (with_running_sums f n) n (omega arith), whole, ap f e, stays r (omega arith)))
  | inr h ↦ (let part : f 0 + running_sum (with_running_sums f n) r ≡ f (0 + r) = running_sum-steps f up 0 n r h in
      let e : 0 + r ≡ r = omega arith in
      omega (arith, part, ap f e))
]

pub running_sum-lesser : (s t : List ℕ) (r : ℕ) → running_sum (lesser s t) r ≡ min (running_sum s r) (running_sum t r)
running_sum-lesser s t r =
    let n : ℕ = max (length s) (length t) in
    let f : ℕ → ℕ = λ r. min (running_sum s r) (running_sum t r) in
    running_sum-trimmed (with_running_sums f n) r ∙
    running_sum-with_running_sums f n
    (λ r. omega (arith, running_sum-mono s r (suc r) (omega arith), running_sum-mono t r (suc r) (omega arith)))
    refl
    (λ r h. omega (arith, running_sum-past s r (omega arith), running_sum-past t r (omega arith), running_sum-past s n (omega arith), running_sum-past t n (omega arith)))
    r

pub running_sum-capped_at : (s : List ℕ) (n r : ℕ) → running_sum (capped_at s n) r ≡ min (running_sum s r) n
running_sum-capped_at s n r =
    let f : ℕ → ℕ = λ r. min (running_sum s r) n in
    running_sum-trimmed (with_running_sums f (length s)) r ∙
    running_sum-with_running_sums f (length s)
    (λ r. omega (arith, running_sum-mono s r (suc r) (omega arith)))
    (omega arith)
    (λ r h. omega (arith, running_sum-past s r (omega arith), running_sum-past s (length s) (omega arith)))
    r

pub IsDescending-lesser : (s t : List ℕ) → IsDescending s → IsDescending t → IsDescending (lesser s t)
IsDescending-lesser s t fs ft = IsDescending-from_sums (lesser s t)
    (λ r. omega (arith, running_sum-lesser s t r, running_sum-lesser s t (suc r), running_sum-lesser s t (suc (suc r)), sums_are_concave s fs r, sums_are_concave t ft r))

pub IsDescending-capped_at : (s : List ℕ) (n : ℕ) → IsDescending s → IsDescending (capped_at s n)
IsDescending-capped_at s n fs = IsDescending-from_sums (capped_at s n)
    (λ r. omega (arith, running_sum-capped_at s n r, running_sum-capped_at s n (suc r), running_sum-capped_at s n (suc (suc r)), sums_are_concave s fs r, running_sum-mono s r (suc r) (omega arith)))
