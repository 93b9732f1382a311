use Rattle.std.proofs.Common.{◌≢◌, ℕ, ◌<◌, get_or}
use Rattle.stats_file.specs.declared.types.PairStats.{PairStats}
use Rattle.stats_reading.proofs.begins.place_of_joined.Given as goal

abbrev pub invariant-loop-i : goal.invariant-loop-i
invariant-loop-i l = (k : ℕ) (d : PairStats) → k < l.i → (get_or l.pairs k d).joined ≢ l.joined
