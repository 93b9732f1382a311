-- The first invalid element of an argument.
use Rattle.std.specs.Prelude.{ℕ, ◌<◌}

-- `place` is the first index below `count` whose element is invalid
pub record IsFirstWrong (IsValid : ℕ → Type 0) (count place : ℕ) : Type 0 where
  pub within : place < count
  pub wrong : ¬ IsValid place
  pub before : (i : ℕ) → i < place → IsValid i
