use Rattle.std.proofs.Common.{◌≡◌, map, take}
use Rattle.std.specs.List.{All}
use Rattle.stats_file_bounds.specs.Entries.{AreStepsFromStatsFile}
use Rattle.stats_file_bounds.proofs.entry.list_columns.Given as goal

abbrev pub invariant-loop-column : goal.invariant-loop-column
invariant-loop-column l = (map (λ g. g.column) l.gathered ≡ take l.column-index l.columns) × All (AreStepsFromStatsFile l.section l.needs l.steps) l.gathered
