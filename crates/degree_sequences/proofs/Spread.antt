-- Running sums of a list whose sum is capped (`cut_with_zeros`), and of a list whose elements are spread over rows (`spread`).
use Rattle.std.proofs.Common.{List, [], ap, arith, false, get_or, inl, inr, leb, length, length-append, max, min, refl, replicate, suc, sum, sym, true, zero, ℕ, ◌*◌, ◌++◌, ◌+◌, ◌-◌, ◌<◌, ◌∙◌, ◌∷◌, ◌≡◌, ◌≤◌}
use Rattle.std.proofs.Math.Nat.{suc-mul, zero-mul}
use Rattle.std.proofs.lemmas.Bool.{cases_lt, le-leb, lt-leb}
use Rattle.std.proofs.lemmas.List.{length-replicate}
use Rattle.std.proofs.lemmas.List.Sums.{sum_by-cons}
use Rattle.degree_sequences.proofs.ByRank.{length-rank_product-le, rank_product-above}
use Rattle.degree_sequences.proofs.FallingLists.{IsDescending-from_sums, sums_are_concave}
use Rattle.degree_sequences.proofs.Ranks.{rank_pos}
use Rattle.degree_sequences.proofs.RunningSums.{running_sum-le-sum, running_sum-mono, running_sum-nil, running_sum-past}
use Rattle.degree_sequences.proofs.Summation.{sum_below, sum_below-product, sum_below-same}
use Rattle.degree_sequences.specs.ByRank.{rank_product}
use Rattle.degree_sequences.specs.Descending.{IsDescending}
use Rattle.degree_sequences.specs.Rank.{rank}
use Rattle.degree_sequences.specs.RunningSums.{HasHigherSums, running_sum}

-- `cut_with_zeros g m` has the first elements of g, cut so that they sum to at most m, and then zeros
abbrev pub cut_with_zeros : List ℕ → ℕ → List ℕ
cut_with_zeros [] m = []
cut_with_zeros (x ∷ g) m = min x m ∷ cut_with_zeros g (m - x)

pub running_sum-cut_with_zeros : (g : List ℕ) (m r : ℕ) → running_sum (cut_with_zeros g m) r ≡ min (running_sum g r) m
running_sum-cut_with_zeros g m zero = omega arith
running_sum-cut_with_zeros [] m (suc r) = omega arith
running_sum-cut_with_zeros (x ∷ g) m (suc r) = omega (arith, running_sum-cut_with_zeros g (m - x) r)

pub length-cut_with_zeros : (g : List ℕ) (m : ℕ) → length (cut_with_zeros g m) ≡ length g
length-cut_with_zeros [] m = refl
length-cut_with_zeros (x ∷ g) m = ap suc (length-cut_with_zeros g (m - x))

pub IsDescending-cut_with_zeros : (g : List ℕ) (m : ℕ) → IsDescending g → IsDescending (cut_with_zeros g m)
IsDescending-cut_with_zeros g m fall = IsDescending-from_sums (cut_with_zeros g m)
    (λ r. omega (arith, running_sum-cut_with_zeros g m r, running_sum-cut_with_zeros g m (suc r), running_sum-cut_with_zeros g m (suc (suc r)), sums_are_concave g fall r, running_sum-mono g r (suc r) (omega arith)))

abbrev pub tail_of : List ℕ → List ℕ
tail_of [] = []
tail_of (y ∷ v) = v

pub get_or-tail_of : (v : List ℕ) (i : ℕ) → get_or (tail_of v) i 0 ≡ get_or v (suc i) 0
get_or-tail_of [] i = refl
get_or-tail_of (y ∷ v) i = refl

pub IsDescending-tail_of : (v : List ℕ) → IsDescending v → IsDescending (tail_of v)
IsDescending-tail_of [] fall = λ r. omega arith
IsDescending-tail_of (y ∷ v) fall = λ r. fall (suc r)

-- `spread g v` repeats each element of v as often as the element of g at the same index says
abbrev pub spread : List ℕ → List ℕ → List ℕ
spread [] v = []
spread (x ∷ g) v = replicate x (get_or v 0 0) ++ spread g (tail_of v)

pub length-spread : (g v : List ℕ) → length (spread g v) ≡ sum g
length-spread [] v = refl
length-spread (x ∷ g) v =
    omega (arith, length-append (replicate x (get_or v 0 0)) (spread g (tail_of v)), length-replicate x (get_or v 0 0), length-spread g (tail_of v), sum_by-cons (λ (y : ℕ). y) x g)

pub get_or-front : (n x : ℕ) (s : List ℕ) (k : ℕ) → k < n → get_or (replicate n x ++ s) k 0 ≡ x
get_or-front zero x s k h = absurd (omega arith)
get_or-front (suc n) x s zero h = refl
get_or-front (suc n) x s (suc k) h = get_or-front n x s k (omega arith)

pub get_or-past : (n x : ℕ) (s : List ℕ) (k : ℕ) → n ≤ k → get_or (replicate n x ++ s) k 0 ≡ get_or s (k - n) 0
get_or-past zero x s k h = ap (λ i. get_or s i 0) (omega arith)
get_or-past (suc n) x s zero h = absurd (omega arith)
get_or-past (suc n) x s (suc k) h = get_or-past n x s k (omega arith) ∙ ap (λ i. get_or s i 0) (omega arith)

pub get_or-spread : (g v : List ℕ) (k : ℕ) → k < sum g → get_or (spread g v) k 0 ≡ get_or v (rank g (suc k) - 1) 0
get_or-spread [] v k h = absurd (omega arith)
get_or-spread (x ∷ g) v k h = elim (cases_lt k x) [
  | inl in_front ↦ (let e : leb (suc k) x ≡ true = le-leb (suc k) x (omega arith) in
      rw e (get_or-front x (get_or v 0 0) (spread g (tail_of v)) k in_front))
  | inr past ↦ (let e : leb (suc k) x ≡ false = lt-leb (suc k) x (omega arith) in
      let total : sum (x ∷ g) ≡ x + sum g = sum_by-cons (λ (y : ℕ). y) x g in
      let r : ℕ = rank g (suc (k - x)) in
      let pos : 0 < r = rank_pos g (suc (k - x)) (omega (arith, total)) (omega arith) in
      let same : suc k - x ≡ suc (k - x) = omega arith in
      let last : suc (r - 1) ≡ suc r - 1 = omega arith in
      rw (e, same)
      (get_or-past x (get_or v 0 0) (spread g (tail_of v)) k past ∙ get_or-spread g (tail_of v) (k - x) (omega (arith, total))
      ∙ get_or-tail_of v (r - 1) ∙ ap (λ i. get_or v i 0) last))
]

pub running_sum-front : (x y : ℕ) (s : List ℕ) (m : ℕ) → running_sum (replicate x y ++ s) m ≡ min x m * y + running_sum s (m - x)
running_sum-front zero y s m =
    let none : min zero m ≡ 0 = omega arith in
    let all : m - zero ≡ m = omega arith in
    omega (arith, ap (λ k. k * y) none, zero-mul y, ap (running_sum s) all)
running_sum-front (suc x) y s zero =
    let none : min (suc x) zero ≡ 0 = omega arith in
    let all : zero - suc x ≡ zero = omega arith in
    omega (arith, ap (λ k. k * y) none, zero-mul y, ap (running_sum s) all)
running_sum-front (suc x) y s (suc m) =
    let one : min (suc x) (suc m) ≡ suc (min x m) = omega arith in
    let rest : suc m - suc x ≡ m - x = omega arith in
    omega (arith, running_sum-front x y s m, ap (λ k. k * y) one, ap (running_sum s) rest, suc-mul (min x m) y)

pub sum_below-cut_with_zeros : (g v : List ℕ) (m : ℕ) → sum_below (λ r. get_or (cut_with_zeros g m) r 0 * get_or v r 0) (length g) ≡ running_sum (spread g v) m
sum_below-cut_with_zeros [] v m = sym (running_sum-nil m)
sum_below-cut_with_zeros (x ∷ g) v m =
    let same : sum_below (λ r. get_or (cut_with_zeros g (m - x)) r 0 * get_or v (suc r) 0) (length g) ≡ sum_below (λ r. get_or (cut_with_zeros g (m - x)) r 0 * get_or (tail_of v) r 0) (length g) =
    sum_below-same (λ r. get_or (cut_with_zeros g (m - x)) r 0 * get_or v (suc r) 0) (λ r. get_or (cut_with_zeros g (m - x)) r 0 * get_or (tail_of v) r 0) (length g)
    (λ r h. ap (λ k. get_or (cut_with_zeros g (m - x)) r 0 * k) (sym (get_or-tail_of v r))) in
    omega (arith, same, sum_below-cut_with_zeros g (tail_of v) (m - x), running_sum-front x (get_or v 0 0) (spread g (tail_of v)) m)

pub running_sum-cut_product-le : (g v : List ℕ) (m n : ℕ) → running_sum (rank_product (cut_with_zeros g m) v) n ≤ running_sum (spread g v) m
running_sum-cut_product-le g v m n =
    omega (
      arith,
      sum_below-cut_with_zeros g v m,
      sum_below-product (cut_with_zeros g m) v (length g),
      running_sum-le-sum (rank_product (cut_with_zeros g m) v) n,
      running_sum-past (rank_product (cut_with_zeros g m) v) (length g) (omega (arith, length-rank_product-le (cut_with_zeros g m) v, length-cut_with_zeros g m)),
    )

pub running_sum-spread : (g v : List ℕ) (m r : ℕ) → length g ≤ r → running_sum (rank_product (cut_with_zeros g m) v) r ≡ running_sum (spread g v) m
running_sum-spread g v m r h =
    omega (
      arith,
      sum_below-cut_with_zeros g v m,
      sum_below-product (cut_with_zeros g m) v (length g),
      running_sum-past (rank_product (cut_with_zeros g m) v) (length g) (omega (arith, length-rank_product-le (cut_with_zeros g m) v, length-cut_with_zeros g m)),
      running_sum-past (rank_product (cut_with_zeros g m) v) r (omega (arith, length-rank_product-le (cut_with_zeros g m) v, length-cut_with_zeros g m)),
    )

pub IsDescending-front : (x y : ℕ) (s : List ℕ) → get_or s 0 0 ≤ y → IsDescending s → IsDescending (replicate x y ++ s)
IsDescending-front zero y s h fall = fall
IsDescending-front (suc zero) y s h fall = λ r. step r
  where
    step : (r : ℕ) → get_or (y ∷ s) (suc r) 0 ≤ get_or (y ∷ s) r 0
    step zero = h
    step (suc r) = fall r
IsDescending-front (suc (suc x)) y s h fall = λ r. step (IsDescending-front (suc x) y s h fall) r
  where
    step : IsDescending (y ∷ (replicate x y ++ s)) → (r : ℕ) → get_or (y ∷ (y ∷ (replicate x y ++ s))) (suc r) 0 ≤ get_or (y ∷ (y ∷ (replicate x y ++ s))) r 0
    step ih zero = omega arith
    step ih (suc r) = ih r

pub spread-head : (g v : List ℕ) (m : ℕ) → IsDescending v → get_or v 0 0 ≤ m → get_or (spread g v) 0 0 ≤ m
spread-head [] v m fall h = omega arith
spread-head (zero ∷ g) v m fall h = spread-head g (tail_of v) m (λ r. tail_falls v fall r) (omega (arith, h, get_or-tail_of v 0, fall 0))
  where
    tail_falls : (v : List ℕ) → IsDescending v → IsDescending (tail_of v)
    tail_falls [] fall = λ r. omega arith
    tail_falls (y ∷ v) fall = λ r. fall (suc r)
spread-head (suc x ∷ g) v m fall h = h

pub IsDescending-spread : (g v : List ℕ) → IsDescending v → IsDescending (spread g v)
IsDescending-spread [] v fall = λ r. omega arith
IsDescending-spread (x ∷ g) v fall = IsDescending-front x (get_or v 0 0) (spread g (tail_of v))
    (spread-head g (tail_of v) (get_or v 0 0) (IsDescending-tail_of v fall) (omega (arith, get_or-tail_of v 0, fall 0)))
    (IsDescending-spread g (tail_of v) (IsDescending-tail_of v fall))

pub spread-above : (g v g' v' : List ℕ) → IsDescending v → IsDescending g' → HasHigherSums g g' → HasHigherSums v v' → HasHigherSums (spread g v) (spread g' v')
spread-above g v g' v' fv fg' above_g above_v m =
    let n : ℕ = max (length g) (length g') in
    omega (
      arith,
      running_sum-spread g v m n (omega arith),
      running_sum-spread g' v' m n (omega arith),
      rank_product-above (cut_with_zeros g m) v (cut_with_zeros g' m) v' fv (IsDescending-cut_with_zeros g' m fg')
          (λ r. omega (arith, running_sum-cut_with_zeros g m r, running_sum-cut_with_zeros g' m r, above_g r)) above_v n,
    )
