use Rattle.std.proofs.Common.{length, map}
use Rattle.stats_file_of_query.specs.Files.{joined_with}
use Rattle.stats_file_of_query.specs.Pairs.{pair_in_cells}
use Rattle.stats_file_of_query.proofs.Walks.{one_list}
use Rattle.stats_file_of_query.proofs.sections.stats_of_pairs.Goals as goal

pub loop-filter-preserved : goal.loop-filter-preserved
loop-filter-preserved c =
    one_list (λ column. map (pair_in_cells c.args.pool.now c.args.cells.now c.args.accuracy column) (joined_with c.args.needed.now (length c.args.cells.now.kinds) column))
    c.loop-filter.filter c.loop-filter.pairs c.add_pairs.new.pairs c.loop-filter.invariant c.in_ok-add_pairs.ensures
