use Rattle.std.proofs.Common.{◌≡◌, ℕ, ◌<◌, false}
use Rattle.stats_file_bounds.specs.Entries.{HasStatsFromFile}
use Rattle.stats_file_bounds.specs.Found.{is_missing}
use Rattle.stats_file_bounds.proofs.Telling.{AreEach}
use Rattle.stats_file_bounds.proofs.stats.query_stats.Given as goal

abbrev pub invariant-loop-entry : goal.invariant-loop-entry
invariant-loop-entry l = AreEach (HasStatsFromFile l.query l.file) l.entry l.entries × ((k : ℕ) → k < l.entry → is_missing l.query l.file k ≡ false)
