use Rattle.std.proofs.Common.{◌≡◌, ◌++◌, map, take}
use Rattle.stats_file_of_query.specs.ColumnPairs.{of_itself}
use Rattle.stats_file_of_query.proofs.needs.add_themselves.Given as goal

abbrev pub invariant-loop-column : goal.invariant-loop-column
invariant-loop-column l = l.pairs ≡ l.initial.pairs ++ map of_itself (take l.column-index l.columns)
