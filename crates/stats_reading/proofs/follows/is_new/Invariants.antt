use Rattle.std.proofs.Common.{◌≢◌, ℕ, ◌<◌, List, get_or}
use Rattle.stats_file.specs.declared.types.Datum.{Datum}
use Rattle.stats_reading.proofs.follows.is_new.Given as goal

abbrev pub invariant-loop-earlier : goal.invariant-loop-earlier
invariant-loop-earlier l = (k : ℕ) (d : Datum × List ℕ) → k < l.earlier-index → (get_or l.frequent k d).0 ≢ l.value
