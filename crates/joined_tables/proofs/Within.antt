-- Facts about bounds of 64 bits. The greatest number of 64 bits, as a bound, excludes nothing.
use Rattle.std.proofs.Common.{ℕ, ◌+◌, ◌≤◌, min, inl, inr, arith}
use Rattle.std.proofs.lemmas.Bool.{cases_lt}
use Rattle.safebound_bounds.specs.Meaning.{in_64_bits, no_bound}
use Rattle.joined_tables.specs.Bounds.{IsWithin}

pub narrowed_within : (rows n : ℕ) → rows ≤ n → IsWithin rows (in_64_bits n)
narrowed_within rows n few = elim (cases_lt n no_bound) [
  | inl low ↦ inl (omega (arith, few, low))
  | inr high ↦ inr (omega (arith, high))
]

pub sum_within : (rows more x y : ℕ) → IsWithin rows x → IsWithin more y → IsWithin (rows + more) (in_64_bits (x + y))
sum_within rows more x y few others = elim few [
  | inl low ↦ elim others [
    | inl small ↦ narrowed_within (rows + more) (x + y) (omega (arith, low, small))
    | inr none ↦ inr (omega (arith, none))
  ]
  | inr none ↦ inr (omega (arith, none))
]

pub least_within : (rows x y : ℕ) → x ≤ no_bound → y ≤ no_bound → IsWithin rows x → IsWithin rows y → IsWithin rows (min x y)
least_within rows x y x_fits y_fits few others = elim few [
  | inl low ↦ elim others [
    | inl small ↦ inl (omega (arith, low, small))
    | inr none ↦ inl (omega (arith, low, none, x_fits))
  ]
  | inr none ↦ elim others [
    | inl small ↦ inl (omega (arith, small, none, y_fits))
    | inr neither ↦ inr (omega (arith, none, neither))
  ]
]

pub fewer_within : (rows more x : ℕ) → rows ≤ more → IsWithin more x → IsWithin rows x
fewer_within rows more x less few = elim few [
  | inl low ↦ inl (omega (arith, less, low))
  | inr none ↦ inr none
]
