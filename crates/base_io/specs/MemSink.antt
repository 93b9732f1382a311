-- What a sink in memory is in contracts.
use Rattle.std.specs.Prelude.{ℕ, List}

-- the bytes taken, how many more bytes fit, the numbers of the calls that fail, and the counts of calls and faults
pub record Contents : Type 0 where
  pub taken : List ℕ
  pub room : ℕ
  pub fail_at : List ℕ
  pub calls : ℕ
  pub faults : ℕ
