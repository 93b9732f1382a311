use Rattle.std.proofs.Common.{◌≡◌, length, map}
use Rattle.std.specs.List.{flat_map, range_with_len}
use Rattle.stats_file_of_query.specs.Files.{joined_with}
use Rattle.stats_file_of_query.specs.Pairs.{pair_in_cells}
use Rattle.stats_file_of_query.proofs.sections.stats_of_pairs.Given as goal

abbrev pub invariant-loop-filter : goal.invariant-loop-filter
invariant-loop-filter l = l.pairs ≡ flat_map (λ column. map (pair_in_cells l.pool l.cells l.accuracy column) (joined_with l.needed (length l.cells.kinds) column)) (range_with_len 0 l.filter)
