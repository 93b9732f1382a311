-- Laws of the rank-wise product, sum and maximum. They say what the elements are, that the result is in descending order, and that products are
-- monotone.
use Rattle.std.proofs.Common.{List, [], arith, get_or, length, max, refl, suc, sum, sym, zero, ℕ, ◌*◌, ◌+◌, ◌∷◌, ◌≡◌, ◌≤◌}
use Rattle.std.proofs.Math.Nat.{mul-le-mul, mul-zero, mul_comm, zero-mul}
use Rattle.std.specs.List.{AllByRecursion, AllZip}
use Rattle.std.proofs.lemmas.List.Sums.{sum_by-cons}
use Rattle.degree_sequences.proofs.FallingLists.{IsDescending-from_sums, sums_are_concave}
use Rattle.degree_sequences.proofs.Summation.{sum_below, sum_below-list, sum_below-mul-le, sum_below-product, sum_below-same}
use Rattle.degree_sequences.specs.ByRank.{rank_maximum, rank_product, rank_product_with, rank_product_of, rank_sum}
use Rattle.degree_sequences.specs.Descending.{IsDescending}
use Rattle.degree_sequences.specs.RunningSums.{HasHigherSums, running_sum}

pub get_or-rank_product : (a b : List ℕ) (i : ℕ) → get_or (rank_product a b) i 0 ≡ get_or a i 0 * get_or b i 0
get_or-rank_product [] b i = sym (zero-mul (get_or b i 0))
get_or-rank_product (x ∷ a) [] i = sym (mul-zero (get_or (x ∷ a) i 0))
get_or-rank_product (x ∷ a) (y ∷ b) zero = refl
get_or-rank_product (x ∷ a) (y ∷ b) (suc i) = get_or-rank_product a b i

pub length-rank_product-le : (s t : List ℕ) → length (rank_product s t) ≤ length s
length-rank_product-le [] t = omega arith
length-rank_product-le (x ∷ s) [] = omega arith
length-rank_product-le (x ∷ s) (y ∷ t) = omega (arith, length-rank_product-le s t)

pub IsDescending-rank_product : (s t : List ℕ) → IsDescending s → IsDescending t → IsDescending (rank_product s t)
IsDescending-rank_product s t fs ft r = omega (arith, get_or-rank_product s t r, get_or-rank_product s t (suc r), mul-le-mul (fs r) (ft r))

pub IsDescending-rank_product_with : (s : List ℕ) (ss : List (List ℕ)) → IsDescending s → AllByRecursion IsDescending ss → IsDescending (rank_product_with s ss)
IsDescending-rank_product_with s [] f all = f
IsDescending-rank_product_with s (t ∷ ts) f all = IsDescending-rank_product s (rank_product_with t ts) f (IsDescending-rank_product_with t ts all.0 all.1)

pub rank_product-above : (s t s' t' : List ℕ) → IsDescending t → IsDescending s' → HasHigherSums s s' → HasHigherSums t t' → HasHigherSums (rank_product s t) (rank_product s' t')
rank_product-above s t s' t' ft fs' above_s above_t n =
    let at_s : ℕ → ℕ = λ r. get_or s r 0 in
    let at_t : ℕ → ℕ = λ r. get_or t r 0 in
    let at_s' : ℕ → ℕ = λ r. get_or s' r 0 in
    let at_t' : ℕ → ℕ = λ r. get_or t' r 0 in
    let one : sum_below (λ r. at_s' r * at_t' r) n ≤ at_s' 0 * 0 + sum_below (λ r. at_s' r * at_t r) n =
    sum_below-mul-le n at_s' at_t' at_t 0 fs' (λ r h. omega (arith, sum_below-list t' r, sum_below-list t r, above_t r)) in
    let turn : sum_below (λ r. at_s' r * at_t r) n ≡ sum_below (λ r. at_t r * at_s' r) n = sum_below-same (λ r. at_s' r * at_t r) (λ r. at_t r * at_s' r) n (λ r h. mul_comm (at_s' r) (at_t r)) in
    let two : sum_below (λ r. at_t r * at_s' r) n ≤ at_t 0 * 0 + sum_below (λ r. at_t r * at_s r) n =
    sum_below-mul-le n at_t at_s' at_s 0 ft (λ r h. omega (arith, sum_below-list s' r, sum_below-list s r, above_s r)) in
    let back : sum_below (λ r. at_t r * at_s r) n ≡ sum_below (λ r. at_s r * at_t r) n = sum_below-same (λ r. at_t r * at_s r) (λ r. at_s r * at_t r) n (λ r h. mul_comm (at_t r) (at_s r)) in
    omega (arith, one, turn, two, back, sum_below-product s t n, sum_below-product s' t' n)

pub rank_product_with-above : (s : List ℕ) (ss : List (List ℕ)) (t : List ℕ) (ts : List (List ℕ)) → IsDescending s → AllByRecursion IsDescending ss → IsDescending t → AllByRecursion IsDescending ts
    → HasHigherSums s t → AllZip HasHigherSums ss ts → HasHigherSums (rank_product_with s ss) (rank_product_with t ts)
rank_product_with-above s [] t [] fs fss ft fts one all = one
rank_product_with-above s [] t (t' ∷ ts) fs fss ft fts one all = absurd all
rank_product_with-above s (s' ∷ ss) t [] fs fss ft fts one all = absurd all
rank_product_with-above s (s' ∷ ss) t (t' ∷ ts) fs fss ft fts one all =
    rank_product-above s (rank_product_with s' ss) t (rank_product_with t' ts) (IsDescending-rank_product_with s' ss fss.0 fss.1) ft one
    (rank_product_with-above s' ss t' ts fss.0 fss.1 fts.0 fts.1 all.0 all.1)

pub rank_product_of-above : (ss ts : List (List ℕ)) → AllByRecursion IsDescending ss → AllByRecursion IsDescending ts → AllZip HasHigherSums ss ts
    → HasHigherSums (rank_product_of ss) (rank_product_of ts)
rank_product_of-above [] [] fss fts all = λ r. omega arith
rank_product_of-above [] (t ∷ ts) fss fts all = absurd all
rank_product_of-above (s ∷ ss) [] fss fts all = absurd all
rank_product_of-above (s ∷ ss) (t ∷ ts) fss fts all = rank_product_with-above s ss t ts fss.0 fss.1 fts.0 fts.1 all.0 all.1

pub running_sum-rank_sum : (s t : List ℕ) (r : ℕ) → running_sum (rank_sum s t) r ≡ running_sum s r + running_sum t r
running_sum-rank_sum s t zero = refl
running_sum-rank_sum [] t (suc r) = omega arith
running_sum-rank_sum (x ∷ s) [] (suc r) = omega arith
running_sum-rank_sum (x ∷ s) (y ∷ t) (suc r) = omega (arith, running_sum-rank_sum s t r)

pub IsDescending-rank_sum : (s t : List ℕ) → IsDescending s → IsDescending t → IsDescending (rank_sum s t)
IsDescending-rank_sum s t fs ft = IsDescending-from_sums (rank_sum s t)
    (λ r. omega (arith, running_sum-rank_sum s t r, running_sum-rank_sum s t (suc r), running_sum-rank_sum s t (suc (suc r)), sums_are_concave s fs r, sums_are_concave t ft r))

pub get_or-rank_sum : (s t : List ℕ) (r : ℕ) → get_or (rank_sum s t) r 0 ≡ get_or s r 0 + get_or t r 0
get_or-rank_sum [] t r = omega arith
get_or-rank_sum (x ∷ s) [] r = omega arith
get_or-rank_sum (x ∷ s) (y ∷ t) zero = refl
get_or-rank_sum (x ∷ s) (y ∷ t) (suc r) = get_or-rank_sum s t r

pub sum-rank_sum : (s t : List ℕ) → sum (rank_sum s t) ≡ sum s + sum t
sum-rank_sum [] t = omega arith
sum-rank_sum (x ∷ s) [] = omega arith
sum-rank_sum (x ∷ s) (y ∷ t) =
    omega (
      arith,
      sum-rank_sum s t,
      sum_by-cons (λ (z : ℕ). z) x s,
      sum_by-cons (λ (z : ℕ). z) y t,
      sum_by-cons (λ (z : ℕ). z) (x + y) (rank_sum s t),
    )

pub get_or-rank_maximum : (s t : List ℕ) (r : ℕ) → get_or (rank_maximum s t) r 0 ≡ max (get_or s r 0) (get_or t r 0)
get_or-rank_maximum [] t r = omega arith
get_or-rank_maximum (x ∷ s) [] r = omega arith
get_or-rank_maximum (x ∷ s) (y ∷ t) zero = refl
get_or-rank_maximum (x ∷ s) (y ∷ t) (suc r) = get_or-rank_maximum s t r

pub IsDescending-rank_maximum : (s t : List ℕ) → IsDescending s → IsDescending t → IsDescending (rank_maximum s t)
IsDescending-rank_maximum s t fs ft r = omega (arith, fs r, ft r, get_or-rank_maximum s t r, get_or-rank_maximum s t (suc r))
