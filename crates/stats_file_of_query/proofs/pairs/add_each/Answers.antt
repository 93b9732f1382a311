use Rattle.std.proofs.Common.{◌++◌, ◌∷◌, [], ap, ◌∙◌, arith}
use Rattle.stats_file_of_query.proofs.Adding.{one_pair_more}
use Rattle.stats_file_of_query.specs.Pairs.{pair_in_cells}
use Rattle.stats_file_of_query.proofs.Made.{are_its, column_in, column_in_columns, its_cells, column_length, its_kind}
use Rattle.stats_file_of_query.proofs.pairs.add_each.Goals as goal

pub get-requires : goal.get-requires
get-requires c = column_in_columns c.args.pool.now c.args.cells.now c.requires.cells c.args.filter c.requires.filter

pub new-requires-clause-cells : goal.new-requires-clause-cells
new-requires-clause-cells c =
    are_its c.args.pool.now c.args.cells.now c.requires.cells c.args.filter c.requires.filter c.get-kind.result.now c.as_slice.result.now
    (its_kind c.args.pool.now c.args.cells.now c.requires.cells c.args.filter c.requires.filter c.get-kind.result.now c.get-kind.ensures)
    (its_cells c.args.pool.now c.args.cells.now c.requires.cells c.args.filter c.requires.filter c.get.result.now c.as_slice.result.now c.get.ensures c.as_slice.ensures)

pub new-requires-clause-rows : goal.new-requires-clause-rows
new-requires-clause-rows c =
    omega (
      arith,
      column_length c.args.pool.now c.args.cells.now c.requires.cells c.args.filter c.requires.filter c.as_slice.result.now
          (its_cells c.args.pool.now c.args.cells.now c.requires.cells c.args.filter c.requires.filter c.get.result.now c.as_slice.result.now c.get.ensures c.as_slice.ensures),
      c.row_count-rows.ensures,
      c.row_count-rows.type_inv,
    )

pub pair_stats_of-requires-clause-sorted : goal.pair_stats_of-requires-clause-sorted
pair_stats_of-requires-clause-sorted c =
    column_in c.args.pool.now c.args.cells.now c.requires.cells c.args.filter c.requires.filter c.in_ok-sorted.sorted c.get-kind.result.now c.as_slice.result.now
    (its_kind c.args.pool.now c.args.cells.now c.requires.cells c.args.filter c.requires.filter c.get-kind.result.now c.get-kind.ensures)
    (its_cells c.args.pool.now c.args.cells.now c.requires.cells c.args.filter c.requires.filter c.get.result.now c.as_slice.result.now c.get.ensures c.as_slice.ensures)
    c.in_ok-sorted.ensures

pub loop-column-preserved : goal.loop-column-preserved
loop-column-preserved c =
    one_pair_more (pair_in_cells c.args.pool.now c.args.cells.now c.args.accuracy c.args.filter) c.args.joined.now c.loop-column.column-index 0 c.args.pairs.now c.loop-column.pairs
    c.push.new.self c.loop-column-test.true c.loop-column.invariant (c.in_ok-push.ensures.ok ∙ ap (λ p. c.loop-column.pairs ++ p ∷ []) c.in_ok-pair_stats_of.ensures)
