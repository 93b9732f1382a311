-- If a list sums to at most 2^48, each element fits 64 bits, and arithmetic that saturates is exact.
use Rattle.std.proofs.Common.{◌≡◌, ℕ, ◌+◌, ◌<◌, ◌≤◌, ◌^◌, max, List, [], ◌∷◌, map, refl, ap, ◌∙◌, sum, arith}
use Rattle.std.specs.List.{AllByRecursion}
use Rattle.std.proofs.lemmas.List.Sums.{sum_by-cons}
use Rattle.degree_sequences.specs.ByRank.{rank_maximum, rank_sum}
use Rattle.degree_sequences.specs.RunningSums.{capped_at, lesser}
use Rattle.degree_sequences.specs.Saturation.{saturated}
use Rattle.degree_sequences.proofs.ByRank.{sum-rank_sum}
use Rattle.degree_sequences.proofs.Minima.{running_sum-capped_at, running_sum-lesser}
use Rattle.degree_sequences.proofs.RunningSums.{sum-above}

pub elements_within : (s : List ℕ) (n : ℕ) → sum s ≤ n → AllByRecursion (λ x. x ≤ n) s
elements_within [] n h = tt
elements_within (x ∷ s) n h = (omega (arith, h, sum_by-cons (λ (y : ℕ). y) x s), elements_within s n (omega (arith, h, sum_by-cons (λ (y : ℕ). y) x s)))

elements_are_below_2_64 : (s : List ℕ) → AllByRecursion (λ x. x ≤ 2 ^ 48) s → AllByRecursion (λ x. x < 2 ^ 64) s
elements_are_below_2_64 [] all = tt
elements_are_below_2_64 (x ∷ s) all = (omega (arith, all.0), elements_are_below_2_64 s all.1)

pub fits_within : (s : List ℕ) → sum s ≤ 2 ^ 48 → AllByRecursion (λ x. x < 2 ^ 64) s
fits_within s h = elements_are_below_2_64 s (elements_within s (2 ^ 48) h)

unsaturated : (s : List ℕ) → AllByRecursion (λ x. x ≤ 2 ^ 48) s → map saturated s ≡ s
unsaturated [] all = refl
unsaturated (x ∷ s) all =
    let same : saturated x ≡ x = omega (arith, all.0) in
    ap (λ y. y ∷ map saturated s) same ∙ ap (λ (t : List ℕ). x ∷ t) (unsaturated s all.1)

-- ---- the sum of two lists

pub sum_exact : (s t both : List ℕ) → sum s + sum t ≤ 2 ^ 48 → both ≡ map saturated (rank_sum s t) → both ≡ rank_sum s t
sum_exact s t both small is =
    is ∙ unsaturated (rank_sum s t) (elements_within (rank_sum s t) (2 ^ 48) (omega (arith, small, sum-rank_sum s t)))

pub sum_fits : (s t both : List ℕ) → sum s + sum t ≤ 2 ^ 48 → both ≡ map saturated (rank_sum s t) → AllByRecursion (λ x. x < 2 ^ 64) both
sum_fits s t both small is =
    fits_within both (omega (arith, small, ap sum (sum_exact s t both small is), sum-rank_sum s t))

-- ---- the lesser of two lists, and a list that is cut: each element fits 64 bits

pub lesser_fits : (s t both : List ℕ) → sum s ≤ 2 ^ 48 → both ≡ lesser s t → AllByRecursion (λ x. x < 2 ^ 64) both
lesser_fits s t both small is =
    let below : sum (lesser s t) ≤ sum s = sum-above s (lesser s t) (λ r. omega (arith, running_sum-lesser s t r)) in
    fits_within both (omega (arith, small, ap sum is, below))

pub cut_fits : (s cut_list : List ℕ) (n : ℕ) → sum s ≤ 2 ^ 48 → cut_list ≡ capped_at s n → AllByRecursion (λ x. x < 2 ^ 64) cut_list
cut_fits s cut_list n small is =
    let below : sum (capped_at s n) ≤ sum s = sum-above s (capped_at s n) (λ r. omega (arith, running_sum-capped_at s n r)) in
    fits_within cut_list (omega (arith, small, ap sum is, below))

-- ---- the greater of two lists

maximum_within : (s t : List ℕ) → sum (rank_maximum s t) ≤ sum s + sum t
maximum_within [] t = omega arith
maximum_within (x ∷ s) [] = omega arith
maximum_within (x ∷ s) (y ∷ t) =
    omega (
      arith,
      maximum_within s t,
      sum_by-cons (λ (z : ℕ). z) x s,
      sum_by-cons (λ (z : ℕ). z) y t,
      sum_by-cons (λ (z : ℕ). z) (max x y) (rank_maximum s t),
    )

maximum_elements : (s t : List ℕ) (n : ℕ) → AllByRecursion (λ x. x ≤ n) s → AllByRecursion (λ x. x ≤ n) t → AllByRecursion (λ x. x ≤ n) (rank_maximum s t)
maximum_elements [] t n a b = b
maximum_elements (x ∷ s) [] n a b = a
maximum_elements (x ∷ s) (y ∷ t) n a b = (omega (arith, a.0, b.0), maximum_elements s t n a.1 b.1)

pub record AreSmallLists (s t these others both : List ℕ) : Type 0 where
  pub first : s ≡ these
  pub second : t ≡ others
  pub first_small : sum s ≤ 2 ^ 48
  pub second_small : sum t ≤ 2 ^ 48
  pub is_saturated : both ≡ map saturated (rank_maximum s t)

pub maximum_exact : (s t these others both : List ℕ) → AreSmallLists s t these others both → both ≡ rank_maximum these others
maximum_exact s t these others both are =
    are.is_saturated
    ∙ unsaturated (rank_maximum s t) (maximum_elements s t (2 ^ 48) (elements_within s (2 ^ 48) are.first_small) (elements_within t (2 ^ 48) are.second_small))
    ∙ ap (λ (a : List ℕ). rank_maximum a t) are.first
    ∙ ap (rank_maximum these) are.second

pub maximum_total : (s t these others both : List ℕ) (total : ℕ) → AreSmallLists s t these others both → total ≡ saturated (sum both)
    → (total ≡ sum (rank_maximum these others)) × (total ≤ 2 ^ 49) × (sum both ≡ total)
maximum_total s t these others both total are is =
    let same : sum both ≡ sum (rank_maximum these others) = ap sum (maximum_exact s t these others both are) in
    let most : sum both ≤ 2 ^ 49 =
    omega (arith, same, maximum_within these others, ap sum are.first, ap sum are.second, are.first_small, are.second_small) in
    (omega (arith, same, most, is), omega (arith, most, is), omega (arith, most, is))
