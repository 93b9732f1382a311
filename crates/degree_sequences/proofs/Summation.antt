-- Sums of functions of ranks, and summation by parts.
use Rattle.std.proofs.Common.{List, [], ap, arith, get_or, refl, suc, zero, zero-add, ℕ, ◌*◌, ◌+◌, ◌-◌, ◌<◌, ◌∙◌, ◌∷◌, ◌≡◌, ◌≤◌}
use Rattle.std.proofs.Math.Nat.{mul-le-mul_right, mul-zero, zero-mul}
use Rattle.degree_sequences.specs.ByRank.{rank_product}
use Rattle.degree_sequences.specs.RunningSums.{running_sum}

abbrev pub sum_below : (ℕ → ℕ) → ℕ → ℕ
sum_below f zero = 0
sum_below f (suc n) = f 0 + sum_below (λ r. f (suc r)) n

pub sum_below-zero : (n : ℕ) → sum_below (λ r. 0) n ≡ 0
sum_below-zero zero = refl
sum_below-zero (suc n) = rw zero-add (sum_below-zero n)

pub sum_below-same : (f g : ℕ → ℕ) (n : ℕ) → ((r : ℕ) → r < n → f r ≡ g r) → sum_below f n ≡ sum_below g n
sum_below-same f g zero h = refl
sum_below-same f g (suc n) h =
    omega (arith, h 0 (omega arith), sum_below-same (λ r. f (suc r)) (λ r. g (suc r)) n (λ r k. h (suc r) (omega arith)))

pub sum_below-list : (s : List ℕ) (n : ℕ) → sum_below (λ r. get_or s r 0) n ≡ running_sum s n
sum_below-list s zero = refl
sum_below-list [] (suc n) = rw zero-add (sum_below-zero n)
sum_below-list (x ∷ s) (suc n) = ap (λ k. x + k) (sum_below-list s n)

-- Summation by parts. Suppose that the sums of b are at most the sums of c, plus d. Then this stays true if b and c are weighted by a
-- non-increasing function
pub sum_below-mul-le : (n : ℕ) (a b c : ℕ → ℕ) (d : ℕ) → ((r : ℕ) → a (suc r) ≤ a r) → ((r : ℕ) → r ≤ n → sum_below b r ≤ d + sum_below c r)
    → sum_below (λ r. a r * b r) n ≤ a 0 * d + sum_below (λ r. a r * c r) n
sum_below-mul-le zero a b c d fall le = omega arith
sum_below-mul-le (suc n) a b c d fall le =
    let first : b 0 ≤ d + c 0 = omega (arith, le 1 (omega arith)) in
    let slack : b 0 + (d + c 0 - b 0) ≡ d + c 0 = omega arith in
    let ih : sum_below (λ r. a (suc r) * b (suc r)) n ≤ a 1 * (d + c 0 - b 0) + sum_below (λ r. a (suc r) * c (suc r)) n =
    sum_below-mul-le n (λ r. a (suc r)) (λ r. b (suc r)) (λ r. c (suc r)) (d + c 0 - b 0) (λ r. fall (suc r))
    (λ r h. omega (arith, le (suc r) (omega arith))) in
    omega (arith, ih, mul-le-mul_right (d + c 0 - b 0) (fall 0), ap (λ z. a 0 * z) slack)

pub sum_below-product : (s t : List ℕ) (n : ℕ) → sum_below (λ r. get_or s r 0 * get_or t r 0) n ≡ running_sum (rank_product s t) n
sum_below-product s t zero = refl
sum_below-product [] t (suc n) = sum_below-same (λ r. 0 * get_or t r 0) (λ r. 0) (suc n) (λ r h. zero-mul (get_or t r 0)) ∙ sum_below-zero (suc n)
sum_below-product (x ∷ s) [] (suc n) = sum_below-same (λ r. get_or (x ∷ s) r 0 * 0) (λ r. 0) (suc n) (λ r h. mul-zero (get_or (x ∷ s) r 0)) ∙ sum_below-zero (suc n)
sum_below-product (x ∷ s) (y ∷ t) (suc n) = ap (λ k. x * y + k) (sum_below-product s t n)
