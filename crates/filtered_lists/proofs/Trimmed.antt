-- The running sums of a list determine the list, up to zeros at its end.
use Rattle.std.proofs.Common.{◌≡◌, ℕ, zero, suc, ◌<◌, min, max, List, [], ◌∷◌, length, refl, ap, sym, ◌∙◌, arith}
use Rattle.std.specs.List.{All, AllByRecursion}
use Rattle.std.proofs.lemmas.List.Elements.{recursion_from_All}
use Rattle.degree_sequences.proofs.Minima.{running_sum-lesser}
use Rattle.degree_sequences.proofs.RunningSums.{running_sum-trimmed}
use Rattle.degree_sequences.specs.Descending.{cons_unless_zero_at_end, trimmed}
use Rattle.degree_sequences.specs.RunningSums.{running_sum, lesser, with_running_sums}

zero_sums : (t : List ℕ) → ((r : ℕ) → running_sum t r ≡ 0) → trimmed t ≡ []
zero_sums [] h = refl
zero_sums (y ∷ t) h =
    let first : y ≡ 0 = omega (arith, h 1) in
    rw (zero_sums t (λ r. omega (arith, h (suc r))), first) refl

pub same_sums : (s t : List ℕ) → ((r : ℕ) → running_sum s r ≡ running_sum t r) → trimmed s ≡ trimmed t
same_sums [] t h = sym (zero_sums t (λ r. sym (h r) ∙ nothing r))
  where
    nothing : (r : ℕ) → running_sum [] r ≡ 0
    nothing zero = refl
    nothing (suc r) = refl
same_sums (x ∷ s) [] h = zero_sums (x ∷ s) (λ r. h r ∙ nothing r)
  where
    nothing : (r : ℕ) → running_sum [] r ≡ 0
    nothing zero = refl
    nothing (suc r) = refl
same_sums (x ∷ s) (y ∷ t) h =
    let first : x ≡ y = omega (arith, h 1) in
    rw (first, same_sums s t (λ r. omega (arith, h (suc r)))) refl

trimmed_of_positive : (s : List ℕ) → AllByRecursion (λ x. 0 < x) s → trimmed s ≡ s
trimmed_of_positive [] h = refl
trimmed_of_positive (zero ∷ s) h = absurd (omega (arith, h.0))
trimmed_of_positive (suc x ∷ s) h = ap (cons_unless_zero_at_end (suc x)) (trimmed_of_positive s h.1)

pub trimmed-positive : (s : List ℕ) → All (λ x. 0 < x) s → trimmed s ≡ s
trimmed-positive s h = trimmed_of_positive s (recursion_from_All (λ x. 0 < x) s h)

trimmed_is_trimmed : (s : List ℕ) → trimmed (trimmed s) ≡ trimmed s
trimmed_is_trimmed s = same_sums (trimmed s) s (running_sum-trimmed s)

trimmed_of_lesser : (s t : List ℕ) → trimmed (lesser s t) ≡ lesser s t
trimmed_of_lesser s t = trimmed_is_trimmed (with_running_sums (λ r. min (running_sum s r) (running_sum t r)) (max (length s) (length t)))

pub is_lesser : (list s t : List ℕ) → All (λ x. 0 < x) list → ((r : ℕ) → running_sum list r ≡ min (running_sum s r) (running_sum t r)) → list ≡ lesser s t
is_lesser list s t positive h =
    sym (trimmed-positive list positive) ∙ same_sums list (lesser s t) (λ r. h r ∙ sym (running_sum-lesser s t r)) ∙ trimmed_of_lesser s t

pub lesser_self : (s : List ℕ) → All (λ x. 0 < x) s → lesser s s ≡ s
lesser_self s positive = sym (is_lesser s s s positive (λ r. omega arith))
