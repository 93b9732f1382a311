-- The number of binary digits of n is the least k with n < 2 ^ k. Counting leading zeros gives the same number.
use Rattle.std.proofs.Common.{◌≡◌, ℕ, zero, suc, ◌+◌, ◌*◌, ◌/◌, ◌^◌, ◌<◌, ◌≤◌, refl, ap, ◌∙◌, arith, inl, inr, w64}
use Rattle.std.proofs.Math.Nat.{pow-suc, pow-zero}
use Rattle.std.proofs.Math.Pow.{pow_mono}
use Rattle.std.proofs.lemmas.Nat.{leading_length}
use Rattle.std.proofs.lemmas.Bool.{cases_lt}
use Rattle.std.specs.Int.{leading_zeros}
use Rattle.piece_compress.specs.BinaryDigits.{digits_within, binary_digits}

below_power : (room n : ℕ) → n ≤ room → n < 2 ^ digits_within room n
below_power zero n h = omega (arith, pow-zero 2)
below_power (suc room) zero h = omega (arith, pow-zero 2)
below_power (suc room) (suc n) h =
    let q : ℕ = suc n / 2 in
    omega (arith, below_power room q (omega arith), pow-suc 2 (digits_within room q))

pub below_power_of_digits : (n : ℕ) → n < 2 ^ binary_digits n
below_power_of_digits n = below_power n n (omega arith)

half_above : (room n : ℕ) → n ≤ room → 0 < n → 2 ^ digits_within room n ≤ 2 * n
half_above zero n h pos = absurd (omega arith)
half_above (suc room) zero h pos = absurd (omega arith)
half_above (suc room) (suc n) h pos =
    let q : ℕ = suc n / 2 in
    elim (cases_lt 0 q) [
      | inl some ↦ omega (arith, half_above room q (omega arith) some, pow-suc 2 (digits_within room q))
      | inr none ↦ (let e : q ≡ zero = omega arith in
          let none_left : digits_within room q ≡ 0 = ap (digits_within room) e ∙ none_of room in
          omega (arith, pow-suc 2 (digits_within room q), ap (λ d. 2 ^ d) none_left, pow-zero 2))
    ]
  where
    none_of : (room : ℕ) → digits_within room zero ≡ 0
    none_of zero = refl
    none_of (suc room) = refl

digits_needed : (n : ℕ) → 2 ^ binary_digits n ≤ 2 * n + 1
digits_needed zero = omega (arith, pow-zero 2)
digits_needed (suc n) = omega (arith, half_above (suc n) (suc n) (omega arith) (omega arith))

fewer_digits : (n a b : ℕ) → n < 2 ^ a → 2 ^ b ≤ 2 * n + 1 → b ≤ a
fewer_digits n a b above within = elim (cases_lt a b) [
  | inl more ↦ absurd (let most : 2 ^ suc a ≤ 2 ^ b = pow_mono more in omega (arith, most, pow-suc 2 a))
  | inr h ↦ h
]

pub digits_counted : (n leading : ℕ) → n < 2 ^ 64 → leading ≡ leading_zeros w64 n → binary_digits n + leading ≡ 64
digits_counted n leading fits same =
    let counted = leading_length 64 n fits in
    let m : ℕ = counted.0 in
    let total : leading_zeros w64 n + m ≡ 64 = counted.1 in
    omega (
      arith,
      same,
      total,
      fewer_digits n m (binary_digits n) counted.2 (digits_needed n),
      fewer_digits n (binary_digits n) m (below_power_of_digits n) counted.3,
    )
