-- A part of a set is a subset, as a number whose bits are among the set's bits. A loop goes over all parts, from the greatest number down.
use Rattle.std.proofs.Common.{◌≡◌, ℕ, zero, suc, ◌+◌, ◌-◌, ◌/◌, ◌%◌, ◌<◌, ◌≤◌, min, ap, arith, inl, inr}
use Rattle.std.specs.Int.{bit_at}
use Rattle.std.specs.Prelude.{bit_and}
use Rattle.std.proofs.lemmas.Nat.Bits.{bit_at_and, bit_at_lowest, bit_at-suc, same_from_bits}
use Rattle.std.proofs.lemmas.Nat.{and_le_l, and_shr}
use Rattle.std.proofs.lemmas.Bool.{cases_eq}

pub record IsPart (part set : ℕ) : Type 0 where
  pub has : (entry : ℕ) → bit_at part entry ≤ bit_at set entry

pub is_part_of_itself : (set : ℕ) → IsPart set set
is_part_of_itself set = record { has = λ entry. omega arith }

half : (part set : ℕ) → IsPart part set → IsPart (part / 2) (set / 2)
half part set is_part = record { has = λ entry. omega (arith, is_part.has (suc entry), bit_at-suc part entry, bit_at-suc set entry) }

lowest : (part set : ℕ) → IsPart part set → part % 2 ≤ set % 2
lowest part set is_part = omega (arith, is_part.has 0, bit_at_lowest part, bit_at_lowest set)

le_below : (n part set : ℕ) → part ≤ n → IsPart part set → part ≤ set
le_below zero part set h is_part = omega arith
le_below (suc n) part set h is_part = omega (arith, le_below n (part / 2) (set / 2) (omega arith) (half part set is_part), lowest part set is_part)

pub part_le : (part set : ℕ) → IsPart part set → part ≤ set
part_le part set is_part = le_below part part set (omega arith) is_part

pub bits_without : (part set entry : ℕ) → IsPart part set → bit_at (set - part) entry + bit_at part entry ≡ bit_at set entry
bits_without part set zero is_part = omega (arith, bit_at_lowest (set - part), bit_at_lowest part, bit_at_lowest set, part_le part set is_part, lowest part set is_part)
bits_without part set (suc entry) is_part =
    let halves : (set - part) / 2 ≡ set / 2 - part / 2 = omega (arith, part_le part set is_part, lowest part set is_part) in
    omega (
      arith,
      bit_at-suc (set - part) entry,
      bit_at-suc part entry,
      bit_at-suc set entry,
      ap (λ k. bit_at k entry) halves,
      bits_without (part / 2) (set / 2) entry (half part set is_part),
    )

pub common_part : (a set : ℕ) → IsPart (bit_and a set) set
common_part a set = record { has = λ entry. omega (arith, bit_at_and a set entry) }

pub part_of_itself : (part set : ℕ) → IsPart part set → bit_and part set ≡ part
part_of_itself part set is_part = same_from_bits (bit_and part set) part (λ entry. omega (arith, bit_at_and part set entry, is_part.has entry))

half_and : (a set : ℕ) → bit_and a set / 2 ≡ bit_and (a / 2) (set / 2)
half_and a set = and_shr a set 1

low_and : (a set : ℕ) → bit_and a set % 2 ≡ min (a % 2) (set % 2)
low_and a set = omega (arith, bit_at_and a set 0, bit_at_lowest (bit_and a set), bit_at_lowest a, bit_at_lowest set)

next_below : (n part set other : ℕ) → part ≤ n → IsPart part set → IsPart other set → other < part → other ≤ bit_and (part - 1) set
next_below zero part set other h is_part is_other below = absurd (omega arith)
next_below (suc n) part set other h is_part is_other below = elim (cases_eq (part % 2) 1) [
  | inl odd ↦ (let halves : (part - 1) / 2 ≡ part / 2 = omega arith in
      omega (arith, half_and (part - 1) set, ap (λ k. bit_and k (set / 2)) halves, part_of_itself (part / 2) (set / 2) (half part set is_part)))
  | inr even ↦ (let halves : (part - 1) / 2 ≡ part / 2 - 1 = omega arith in
      let less : other / 2 < part / 2 = omega arith in
      omega (
        arith,
        half_and (part - 1) set,
        ap (λ k. bit_and k (set / 2)) halves,
        low_and (part - 1) set,
        lowest other set is_other,
        next_below n (part / 2) (set / 2) (other / 2) (omega arith) (half part set is_part) (half other set is_other) less,
      ))
]

pub none_between : (part set other : ℕ) → IsPart part set → IsPart other set → other < part → other ≤ bit_and (part - 1) set
none_between part set other is_part is_other below = next_below part part set other (omega arith) is_part is_other below

pub next_less : (part set : ℕ) → 0 < part → bit_and (part - 1) set < part
next_less part set some = omega (arith, and_le_l (part - 1) set)
