use Rattle.std.proofs.Common.{◌≡◌, ◌++◌, map, take}
use Rattle.stats_file_of_query.specs.Pairs.{pair_in_cells}
use Rattle.stats_file_of_query.proofs.pairs.add_each.Given as goal

abbrev pub invariant-loop-column : goal.invariant-loop-column
invariant-loop-column l = l.pairs ≡ l.initial.pairs ++ map (pair_in_cells l.pool l.cells l.accuracy l.filter) (take l.column-index l.joined)
