use Rattle.std.proofs.Common.{◌≡◌, ◌++◌, map, take}
use Rattle.stats_file_of_query.specs.ColumnPairs.{column_pair}
use Rattle.stats_file_of_query.proofs.needs.add_with_each.Given as goal

abbrev pub invariant-loop-column : goal.invariant-loop-column
invariant-loop-column l = l.pairs ≡ l.initial.pairs ++ map (column_pair l.filter) (take l.column-index l.joined)
