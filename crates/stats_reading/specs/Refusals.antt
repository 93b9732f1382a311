-- The error of a file that is refused for a fault at a line.
use Rattle.std.specs.Prelude.{ℕ}
use Rattle.stats_file.specs.declared.types.StatsError.{StatsError}
use Rattle.stats_file.specs.declared.types.StatsError.TheVariants as error
use Rattle.stats_reading.specs.declared.fault.Fault.{Fault}
use Rattle.stats_reading.specs.declared.fault.Fault.TheVariants as fault

abbrev pub refusal_of : ℕ → Fault → StatsError
refusal_of line fault.Syntax = error.Syntax line
refusal_of line fault.Rule = error.Rule line
refusal_of line fault.NoMemory = error.NoMemory
