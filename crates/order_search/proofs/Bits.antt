-- The number of entries of a set.
use Rattle.std.proofs.Common.{◌≡◌, ℕ, zero, suc, ◌+◌, ◌-◌, ◌^◌, ◌<◌, ◌≤◌, refl, ap, sym, ◌∙◌, arith, inl, inr}
use Rattle.std.specs.Int.{bit_at}
use Rattle.std.proofs.lemmas.Nat.Bits.{bit_at-zero, bit_at_ones, same_from_bits_below, bit_at-lt}
use Rattle.std.proofs.lemmas.Bool.{cases_eq}
use Rattle.entry_sets.proofs.Bits.{bit_without_other, bit_without_same}

abbrev pub size_below : ℕ → ℕ → ℕ
size_below zero set = 0
size_below (suc n) set = bit_at set n + size_below n set

size-without_later : (n entry set : ℕ) → n ≤ entry → bit_at set entry ≡ 1 → size_below n (set - 2 ^ entry) ≡ size_below n set
size-without_later zero entry set h has = refl
size-without_later (suc n) entry set h has =
    omega (arith, bit_without_other entry set n has (λ same. absurd (omega arith)), size-without_later n entry set (omega arith) has)

pub size-without : (n entry set : ℕ) → entry < n → bit_at set entry ≡ 1 → size_below n set ≡ suc (size_below n (set - 2 ^ entry))
size-without zero entry set h has = absurd (omega arith)
size-without (suc n) entry set h has = elim (cases_eq n entry) [
  | inl same ↦ omega (arith, size-without_later n entry set (omega arith) has, bit_without_same entry set has, has, ap (bit_at set) same, ap (bit_at (set - 2 ^ entry)) same)
  | inr apart ↦ omega (arith, bit_without_other entry set n has apart, size-without n entry set (omega arith) has)
]

size_all : (k n : ℕ) → k ≤ n → size_below k (2 ^ n - 1) ≡ k
size_all zero n h = refl
size_all (suc k) n h = omega (arith, bit_at_ones n k (omega arith), size_all k n (omega arith))

pub size-whole : (n : ℕ) → size_below n (2 ^ n - 1) ≡ n
size-whole n = size_all n n (omega arith)

pub size-none : (n : ℕ) → size_below n 0 ≡ 0
size-none zero = refl
size-none (suc n) = omega (arith, bit_at-zero n, size-none n)

no_bit : (n set : ℕ) → size_below n set ≡ 0 → (i : ℕ) → i < n → bit_at set i ≡ 0
no_bit zero set none i h = absurd (omega arith)
no_bit (suc n) set none i h = elim (cases_eq i n) [
  | inl same ↦ omega (arith, ap (bit_at set) same)
  | inr apart ↦ no_bit n set (omega arith) i (omega arith)
]

pub set_is_empty : (n set : ℕ) → set < 2 ^ n → size_below n set ≡ 0 → set ≡ 0
set_is_empty n set fits none = same_from_bits_below n set 0 fits (omega arith) (λ i h. no_bit n set none i h ∙ sym (bit_at-zero i))

pub some_entry : (n set : ℕ) → 0 < size_below n set → (entry : ℕ) × (bit_at set entry ≡ 1)
some_entry zero set some = absurd (omega arith)
some_entry (suc n) set some = elim (cases_eq (bit_at set n) 1) [
  | inl has ↦ (n, has)
  | inr out ↦ some_entry n set (omega (arith, bit_at-lt set n))
]

pub set_has_entry : (n set : ℕ) → 0 < set → set < 2 ^ n → (entry : ℕ) × (bit_at set entry ≡ 1)
set_has_entry n set some fits = elim (cases_eq (size_below n set) 0) [
  | inl none ↦ absurd (omega (arith, set_is_empty n set fits none))
  | inr more ↦ some_entry n set (omega arith)
]
