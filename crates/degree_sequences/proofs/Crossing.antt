-- Two lines over ranks cross once. The lemmas say which line is lower before the crossing, and which is lower after it.
use Rattle.std.proofs.Common.{ap, arith, ℕ, ◌*◌, ◌+◌, ◌-◌, ◌/◌, ◌<◌, ◌≡◌, ◌≤◌}
use Rattle.std.proofs.Math.Nat.{div-mul-le_self, lt-div-mul-add, mul-le-mul_right}

pub before_crossing : (p q x y k : ℕ) → p ≤ q → y < x → k ≤ (q - p) / (x - y) → p + k * x ≤ q + k * y
before_crossing p q x y k first steep h =
    let d : ℕ = x - y in
    let e : x ≡ y + d = omega arith in
    omega (arith, ap (λ z. k * z) e, mul-le-mul_right d h, div-mul-le_self (q - p) d)

pub after_crossing : (p q x y k : ℕ) → p ≤ q → y < x → (q - p) / (x - y) < k → q + k * y ≤ p + k * x
after_crossing p q x y k first steep h =
    let d : ℕ = x - y in
    let e : x ≡ y + d = omega arith in
    let pos : 0 < d = omega arith in
    omega (arith, ap (λ z. k * z) e, mul-le-mul_right d h, lt-div-mul-add {a = q - p} pos)
