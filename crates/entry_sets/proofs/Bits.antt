-- These lemmas give a set's number and bits after an entry is removed or added.
use Rattle.std.proofs.Common.{◌≡◌, ℕ, zero, suc, ◌+◌, ◌-◌, ◌*◌, ◌/◌, ◌%◌, ◌^◌, ◌<◌, ◌≤◌, refl, ap, sym, ◌∙◌, arith, inl, inr}
use Rattle.std.specs.Int.{bit_at}
use Rattle.std.proofs.lemmas.Nat.Bits.{bit_at_lowest, bit_at-suc, bit_at_above}
use Rattle.std.proofs.lemmas.Bool.{cases_lt}
use Rattle.std.proofs.Math.Nat.{pow-suc}
use Rattle.std.proofs.lemmas.Nat.{pow_pos}

pub power_of_next : (x : ℕ) → 2 ^ suc x ≡ 2 * 2 ^ x
power_of_next x = omega (arith, pow-suc 2 x)

pub power_within : (entry set : ℕ) → bit_at set entry ≡ 1 → 2 ^ entry ≤ set
power_within entry set has = elim (cases_lt set (2 ^ entry)) [
  | inl below ↦ absurd (omega (arith, bit_at_above set entry entry below (omega arith)))
  | inr above ↦ above
]

pub set_without_is_less : (set entry : ℕ) → bit_at set entry ≡ 1 → set - 2 ^ entry < set
set_without_is_less set entry has = omega (arith, power_within entry set has, pow_pos entry)

pub entry_below : (n set entry : ℕ) → set < 2 ^ n → bit_at set entry ≡ 1 → entry < n
entry_below n set entry fits has = elim (cases_lt entry n) [
  | inl below ↦ below
  | inr above ↦ absurd (omega (arith, bit_at_above set n entry fits above))
]

half_without : (entry set : ℕ) → bit_at set (suc entry) ≡ 1 → (set - 2 ^ suc entry) / 2 ≡ set / 2 - 2 ^ entry
half_without entry set has = omega (arith, power_of_next entry, power_within (suc entry) set has)

pub bit_without_other : (entry set other : ℕ) → bit_at set entry ≡ 1 → (other ≡ entry → ⊥) → bit_at (set - 2 ^ entry) other ≡ bit_at set other
bit_without_other zero set zero has apart = absurd (apart refl)
bit_without_other zero set (suc other) has apart =
    let odd : set % 2 ≡ 1 = sym (bit_at_lowest set) ∙ has in
    let half : (set - 1) / 2 ≡ set / 2 = omega arith in
    bit_at-suc (set - 1) other ∙ ap (λ n. bit_at n other) half ∙ sym (bit_at-suc set other)
bit_without_other (suc entry) set zero has apart =
    let lowest : (set - 2 ^ suc entry) % 2 ≡ set % 2 = omega (arith, power_of_next entry, power_within (suc entry) set has) in
    bit_at_lowest (set - 2 ^ suc entry) ∙ lowest ∙ sym (bit_at_lowest set)
bit_without_other (suc entry) set (suc other) has apart =
    bit_at-suc (set - 2 ^ suc entry) other
    ∙ ap (λ n. bit_at n other) (half_without entry set has)
    ∙ bit_without_other entry (set / 2) other (sym (bit_at-suc set entry) ∙ has) (λ same. apart (ap suc same))
    ∙ sym (bit_at-suc set other)

pub bit_without_same : (entry set : ℕ) → bit_at set entry ≡ 1 → bit_at (set - 2 ^ entry) entry ≡ 0
bit_without_same zero set has =
    let odd : set % 2 ≡ 1 = sym (bit_at_lowest set) ∙ has in
    let even : (set - 1) % 2 ≡ 0 = omega arith in
    bit_at_lowest (set - 1) ∙ even
bit_without_same (suc entry) set has =
    bit_at-suc (set - 2 ^ suc entry) entry
    ∙ ap (λ n. bit_at n entry) (half_without entry set has)
    ∙ bit_without_same entry (set / 2) (sym (bit_at-suc set entry) ∙ has)

pub bit_added : (entry set : ℕ) → bit_at set entry ≡ 0 → bit_at (2 ^ entry + set) entry ≡ 1
bit_added zero set out =
    let even : set % 2 ≡ 0 = sym (bit_at_lowest set) ∙ out in
    let odd : (1 + set) % 2 ≡ 1 = omega arith in
    bit_at_lowest (1 + set) ∙ odd
bit_added (suc entry) set out =
    let half : (2 ^ suc entry + set) / 2 ≡ 2 ^ entry + set / 2 = omega (arith, power_of_next entry) in
    bit_at-suc (2 ^ suc entry + set) entry ∙ ap (λ n. bit_at n entry) half ∙ bit_added entry (set / 2) (sym (bit_at-suc set entry) ∙ out)
