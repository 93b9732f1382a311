-- The state of a sink or a store before and after a call.
use Rattle.std.specs.Prelude.{ℕ, List, Option}
use Rattle.base_io.specs.Files.{Files}

-- a sink before and after a call: the bytes that the sink took, if it tells them, and its count of faults
pub record Growth : Type 0 where
  pub taken_before : Option (List ℕ)
  pub taken_after : Option (List ℕ)
  pub faults_before : ℕ
  pub faults_after : ℕ

abbrev pub growth : {Sink : Type 0} → (Sink → Option (List ℕ)) → (Sink → ℕ) → Sink → Sink → Growth
growth taken faults before after = record {
  taken_before = taken before;
  taken_after = taken after;
  faults_before = faults before;
  faults_after = faults after;
}

-- a store before and after a call: the store's files, if it tells them, and its counts of faults and misses
pub record Reading : Type 0 where
  pub files : Option Files
  pub files_after : Option Files
  pub faults_before : ℕ
  pub faults_after : ℕ
  pub misses_before : ℕ
  pub misses_after : ℕ

abbrev pub reading : {Store : Type 0} → (Store → Option Files) → (Store → ℕ) → (Store → ℕ) → Store → Store → Reading
reading files faults misses before after = record {
  files = files before;
  files_after = files after;
  faults_before = faults before;
  faults_after = faults after;
  misses_before = misses before;
  misses_after = misses after;
}
