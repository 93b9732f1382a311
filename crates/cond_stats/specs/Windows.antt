-- A stretch of a list of row numbers that has exactly those rows whose value passes a test.
use Rattle.std.specs.Prelude.{ℕ, ◌≡◌, ◌+◌, ◌<◌, ◌≤◌, Bool, true, false, List, length, slice_index}

-- Rows at the indexes from `from` to below `from + count` have values that pass. All other rows have values that fail
pub record IsWindow (column places : List ℕ) (passes : ℕ → Bool) (from count : ℕ) : Type 0 where
  pub ends : from + count ≤ length places
  pub inside : (i : ℕ) → from ≤ i → i < from + count → passes (slice_index column (slice_index places i)) ≡ true
  pub before : (i : ℕ) → i < from → passes (slice_index column (slice_index places i)) ≡ false
  pub after : (i : ℕ) → from + count ≤ i → i < length places → passes (slice_index column (slice_index places i)) ≡ false
