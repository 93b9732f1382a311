-- Offsets in bytes: how far a field was read, and where it ends.
use Rattle.std.specs.Prelude.{ℕ, ◌≡◌, ◌≤◌, ◌-◌, List, [], ◌++◌, length, take, drop}
use Rattle.plain_records.specs.Plain.{first_field}

-- the bytes from `at` up to `end` belong to the field that begins at `at`, and its rest begins at `end`
pub record FieldSoFar (bytes : List ℕ) (at end : ℕ) : Type 0 where
  pub from : at ≤ end
  pub within : end ≤ length bytes
  pub so_far : first_field (drop at bytes) ≡ take (end - at) (drop at bytes) ++ first_field (drop end bytes)

-- the field that begins at `at` ends just before byte `end`
pub record IsField (bytes : List ℕ) (at end : ℕ) : Type 0 where
  pub from : at ≤ end
  pub within : end ≤ length bytes
  pub is : first_field (drop at bytes) ≡ take (end - at) (drop at bytes)
  pub stops : first_field (drop end bytes) ≡ []
