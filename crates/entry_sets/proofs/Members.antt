-- These lemmas say which entries and which number a set has after `with` and `without`, and what `is_within` tests.
use Rattle.std.proofs.Common.{◌≡◌, ℕ, ◌+◌, ◌-◌, ◌*◌, ◌%◌, ◌^◌, ◌<◌, ◌≤◌, true, false, eqb, ltb, bit_and, bit_or, refl, ap, sym, ◌∙◌, pow_mono, w16, arith, inl, inr}
use Rattle.std.specs.Prelude.{◌&&◌, ◌||◌, ◌↔◌, not, IsTrue}
use Rattle.std.specs.Int.{bit_at, bit_not}
use Rattle.std.proofs.lemmas.Bool.{cases_Bool, cases_eq, cases_lt, eq-eqb, eqb-true, ne_eqb, lt-ltb, ltb-true}
use Rattle.std.proofs.lemmas.Nat.{and_le_l, or_disjoint}
use Rattle.std.proofs.lemmas.Nat.Bits.{bit_at-lt, bit_at_and, bit_at_clear_other, bit_at_clear_same, bit_at_set_other, bit_at_set_same, and_pow, same_from_bits_below}
use Rattle.std.proofs.Math.Bool.{or-true, or-false, and-false, and-true}
use Rattle.limits.specs.Profile.{greatest_entries}
use Rattle.entry_sets.specs.Sets.{IsSubset, has_entry}
use Rattle.entry_sets.proofs.Bits.{bit_without_other, bit_without_same}
use Rattle.entry_sets.proofs.Listing.{bit_has, has_bit}

-- `1 << entry` is taken modulo 2 ^ greatest_entries, which changes nothing as the entry is below greatest_entries
one_bit : (entry : ℕ) → entry < greatest_entries → 1 * 2 ^ entry % 2 ^ greatest_entries ≡ 2 ^ entry
one_bit entry low = omega (arith, powers)
  where
    powers : 2 ^ entry ≤ 2 ^ 15
    powers = let low : entry ≤ 15 = omega arith in pow_mono low

pub with_entries : (set entry other : ℕ) → entry < greatest_entries → has_entry (bit_or set (1 * 2 ^ entry % 2 ^ greatest_entries)) other ≡ (has_entry set other || eqb other entry)
with_entries set entry other low = elim (cases_eq other entry) [
  | inl same ↦ rw (same, bit_at_set_same w16 set entry low, lt-ltb entry greatest_entries low, eq-eqb entry entry refl) (sym (or-true (true && eqb (bit_at set entry) 1)))
  | inr apart ↦ rw (bit_at_set_other w16 set entry low other apart, ne_eqb other entry apart) (sym (or-false (has_entry set other)))
]

pub without_entries : (set entry other : ℕ) → entry < greatest_entries → has_entry (bit_and set (bit_not w16 (1 * 2 ^ entry % 2 ^ greatest_entries))) other ≡ (has_entry set other && not (eqb other entry))
without_entries set entry other low = elim (cases_lt other greatest_entries) [
  | inl small ↦ elim (cases_eq other entry) [
    | inl same ↦ rw (same, bit_at_clear_same w16 set entry low, eq-eqb entry entry refl) (and-false (ltb entry greatest_entries) ∙ sym (and-false (has_entry set entry)))
    | inr apart ↦ rw (bit_at_clear_other w16 set entry low other small apart, ne_eqb other entry apart) (sym (and-true (has_entry set other)))
  ]
  | inr large ↦ (let none : ltb other greatest_entries ≡ false = elim (cases_Bool (ltb other greatest_entries)) [ inl t ↦ absurd (omega (arith, ltb-true other greatest_entries t, large)) | inr n ↦ n ] in rw none refl)
]

pub with_number : (set entry : ℕ) → entry < greatest_entries → bit_at set entry ≡ 0 → bit_or set (1 * 2 ^ entry % 2 ^ greatest_entries) ≡ set + 2 ^ entry
with_number set entry low out =
    ap (bit_or set) (one_bit entry low)
    ∙ or_disjoint set (2 ^ entry) (and_pow set entry ∙ none)
  where
    none : bit_at set entry * 2 ^ entry ≡ 0
    none = rw out (omega arith)

pub without_number : (set entry : ℕ) → set < 2 ^ greatest_entries → entry < greatest_entries → bit_at set entry ≡ 1 → bit_and set (bit_not w16 (1 * 2 ^ entry % 2 ^ greatest_entries)) ≡ set - 2 ^ entry
without_number set entry fits low has =
    same_from_bits_below greatest_entries (bit_and set (bit_not w16 (1 * 2 ^ entry % 2 ^ greatest_entries))) (set - 2 ^ entry) (omega (arith, and_le_l set (bit_not w16 (1 * 2 ^ entry % 2 ^ greatest_entries)), fits)) (omega arith) at
  where
    at : (i : ℕ) → i < greatest_entries → bit_at (bit_and set (bit_not w16 (1 * 2 ^ entry % 2 ^ greatest_entries))) i ≡ bit_at (set - 2 ^ entry) i
    at i small = elim (cases_eq i entry) [
      | inl same ↦ rw same (bit_at_clear_same w16 set entry low ∙ sym (bit_without_same entry set has))
      | inr apart ↦ bit_at_clear_other w16 set entry low i small apart ∙ sym (bit_without_other entry set i has apart)
    ]

subset_if_and_is_same : (set other : ℕ) → bit_and set other ≡ set → IsSubset set other
subset_if_and_is_same set other is entry has =
    let bit : (entry < greatest_entries) × (bit_at set entry ≡ 1) = has_bit set entry has in
    bit_has other entry (bit.0, omega (arith, bit.1, ap (λ n. bit_at n entry) is, bit_at_and set other entry, bit_at-lt other entry))

and_is_same_if_subset : (set other : ℕ) → set < 2 ^ greatest_entries → IsSubset set other → bit_and set other ≡ set
and_is_same_if_subset set other fits within = same_from_bits_below greatest_entries (bit_and set other) set (omega (arith, and_le_l set other, fits)) fits at
  where
    at : (i : ℕ) → i < greatest_entries → bit_at (bit_and set other) i ≡ bit_at set i
    at i small = elim (cases_eq (bit_at set i) 1) [
      | inl one ↦ omega (arith, one, bit_at_and set other i, (has_bit other i (within i (bit_has set i (small, one)))).1)
      | inr none ↦ omega (arith, none, bit_at_and set other i, bit_at-lt set i)
    ]

pub is_subset_by_bits : (set other : ℕ) → set < 2 ^ greatest_entries → IsTrue (eqb (bit_and set other) set) ↔ IsSubset set other
is_subset_by_bits set other fits = (
  λ h. subset_if_and_is_same set other (eqb-true (bit_and set other) set h),
  λ h. eq-eqb (bit_and set other) set (and_is_same_if_subset set other fits h),
)
