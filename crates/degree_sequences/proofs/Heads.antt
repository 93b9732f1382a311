-- Each element of a list has a head (`heads`). The head is at least the element, and near it.
use Rattle.std.proofs.Common.{List, [], arith, get_or, inl, inr, ltb, refl, suc, zero, ℕ, ◌*◌, ◌+◌, ◌<◌, ◌∷◌, ◌≡◌, ◌≤◌, ◌⊎◌}
use Rattle.std.proofs.Math.Nat.{add-mul, mul-le-mul_left, mul-le-mul_right, mul-zero}
use Rattle.std.proofs.lemmas.Bool.{cases_lt, cond_both, ltb-false, ltb-true}
use Rattle.degree_sequences.proofs.FallingLists.{IsDescending-cons}
use Rattle.degree_sequences.specs.Compression.{heads_from}
use Rattle.degree_sequences.specs.Descending.{IsDescending}

pub heads-above : (k h : ℕ) (s : List ℕ) → IsDescending s → get_or s 0 0 ≤ h → (i : ℕ) → get_or s i 0 ≤ get_or (heads_from k h s) i 0
heads-above k h [] fall below i = omega arith
heads-above k h (x ∷ s) fall below zero = cond_both (ltb ((k + 1) * x) (k * h)) x h (λ y. x ≤ get_or (y ∷ heads_from k y s) 0 0)
    (λ e. omega arith)
    (λ e. below)
heads-above k h (x ∷ s) fall below (suc i) = cond_both (ltb ((k + 1) * x) (k * h)) x h (λ y. get_or s i 0 ≤ get_or (y ∷ heads_from k y s) (suc i) 0)
    (λ e. heads-above k x s (λ r. fall (suc r)) (fall 0) i)
    (λ e. heads-above k h s (λ r. fall (suc r)) (omega (arith, fall 0)) i)

pub heads-near : (k h : ℕ) (s : List ℕ) (i : ℕ) → k * get_or (heads_from k h s) i 0 ≤ (k + 1) * get_or s i 0
heads-near k h [] i = omega (arith, mul-zero k)
heads-near k h (x ∷ s) zero = cond_both (ltb ((k + 1) * x) (k * h)) x h (λ y. k * get_or (y ∷ heads_from k y s) 0 0 ≤ (k + 1) * x)
    (λ e. mul-le-mul_right x (omega arith))
    (λ e. ltb-false ((k + 1) * x) (k * h) e)
heads-near k h (x ∷ s) (suc i) = cond_both (ltb ((k + 1) * x) (k * h)) x h (λ y. k * get_or (y ∷ heads_from k y s) (suc i) 0 ≤ (k + 1) * get_or s i 0)
    (λ e. heads-near k x s i)
    (λ e. heads-near k h s i)

pub heads-head : (k h : ℕ) (s : List ℕ) → get_or s 0 0 ≤ h → get_or (heads_from k h s) 0 0 ≤ h
heads-head k h [] below = omega arith
heads-head k h (x ∷ s) below = cond_both (ltb ((k + 1) * x) (k * h)) x h (λ y. get_or (y ∷ heads_from k y s) 0 0 ≤ h) (λ e. below) (λ e. omega arith)

pub heads-fall : (k h : ℕ) (s : List ℕ) → IsDescending s → get_or s 0 0 ≤ h → IsDescending (heads_from k h s)
heads-fall k h [] fall below = λ r. omega arith
heads-fall k h (x ∷ s) fall below = cond_both (ltb ((k + 1) * x) (k * h)) x h (λ y. IsDescending (y ∷ heads_from k y s))
    (λ e. IsDescending-cons x (heads_from k x s) (heads-head k x s (fall 0)) (heads-fall k x s (λ r. fall (suc r)) (fall 0)))
    (λ e. IsDescending-cons h (heads_from k h s) (heads-head k h s (omega (arith, fall 0))) (heads-fall k h s (λ r. fall (suc r)) (omega (arith, fall 0))))

pub new_head_is_lower : (k x h : ℕ) → (k + 1) * x < k * h → x < h
new_head_is_lower k x h less = elim (cases_lt x h) [
  | inl lower ↦ lower
  | inr higher ↦ absurd (omega (arith, mul-le-mul_left k higher, add-mul k 1 x))
]

pub heads-le : (k h : ℕ) (s : List ℕ) (j : ℕ) → get_or (heads_from k h s) j 0 ≤ h
heads-le k h [] j = omega arith
heads-le k h (x ∷ s) zero = cond_both (ltb ((k + 1) * x) (k * h)) x h (λ y. get_or (y ∷ heads_from k y s) 0 0 ≤ h)
    (λ e. omega (arith, new_head_is_lower k x h (ltb-true ((k + 1) * x) (k * h) e))) (λ e. omega arith)
heads-le k h (x ∷ s) (suc j) = cond_both (ltb ((k + 1) * x) (k * h)) x h (λ y. get_or (y ∷ heads_from k y s) (suc j) 0 ≤ h)
    (λ e. omega (arith, new_head_is_lower k x h (ltb-true ((k + 1) * x) (k * h) e), heads-le k x s j)) (λ e. heads-le k h s j)

-- v is the head h, or as far below h as a new head has to be
abbrev pub IsHeadOrNewHead : ℕ → ℕ → ℕ → Type 0
IsHeadOrNewHead k v h = (v ≡ h) ⊎ ((k + 1) * v < k * h)

pub still_far_below : (k v x h : ℕ) → v ≤ x → (k + 1) * x < k * h → (k + 1) * v < k * h
still_far_below k v x h below less = omega (arith, mul-le-mul_left (k + 1) below)

pub heads-later : (k h : ℕ) (s : List ℕ) (j : ℕ) → 0 < k * h → IsHeadOrNewHead k (get_or (heads_from k h s) j 0) h
heads-later k h [] j pos = inr (omega (arith, mul-zero (k + 1)))
heads-later k h (x ∷ s) zero pos = cond_both (ltb ((k + 1) * x) (k * h)) x h (λ y. IsHeadOrNewHead k (get_or (y ∷ heads_from k y s) 0 0) h)
    (λ e. inr (ltb-true ((k + 1) * x) (k * h) e)) (λ e. inl refl)
heads-later k h (x ∷ s) (suc j) pos = cond_both (ltb ((k + 1) * x) (k * h)) x h (λ y. IsHeadOrNewHead k (get_or (y ∷ heads_from k y s) (suc j) 0) h)
    (λ e. inr (still_far_below k (get_or (heads_from k x s) j 0) x h (heads-le k x s j) (ltb-true ((k + 1) * x) (k * h) e))) (λ e. heads-later k h s j pos)

pub heads-between : (k h : ℕ) (s : List ℕ) (i j : ℕ) → i ≤ j → 0 < k * get_or (heads_from k h s) i 0
    → IsHeadOrNewHead k (get_or (heads_from k h s) j 0) (get_or (heads_from k h s) i 0)
heads-between k h [] i j le pos = absurd (omega (arith, mul-zero k))
heads-between k h (x ∷ s) zero zero le pos = inl refl
heads-between k h (x ∷ s) zero (suc j) le pos = cond_both (ltb ((k + 1) * x) (k * h)) x h (λ y. 0 < k * get_or (y ∷ heads_from k y s) 0 0 → IsHeadOrNewHead k (get_or (y ∷ heads_from k y s) (suc j) 0) (get_or (y ∷ heads_from k y s) 0 0))
    (λ e pos. heads-later k x s j pos) (λ e pos. heads-later k h s j pos) pos
heads-between k h (x ∷ s) (suc i) zero le pos = absurd (omega arith)
heads-between k h (x ∷ s) (suc i) (suc j) le pos = cond_both (ltb ((k + 1) * x) (k * h)) x h (λ y. 0 < k * get_or (y ∷ heads_from k y s) (suc i) 0 → IsHeadOrNewHead k (get_or (y ∷ heads_from k y s) (suc j) 0) (get_or (y ∷ heads_from k y s) (suc i) 0))
    (λ e pos. heads-between k x s i j (omega arith) pos) (λ e pos. heads-between k h s i j (omega arith) pos) pos
