use Rattle.std.proofs.Common.{arith}
use Rattle.stats_file_of_query.proofs.Made.{are_its, column_in, column_in_columns, its_cells, column_length, its_kind}
use Rattle.stats_file_of_query.proofs.pairs.pair_of_columns.Goals as goal

pub get-requires : goal.get-requires
get-requires c = column_in_columns c.args.pool.now c.args.cells.now c.requires.cells c.args.filter c.requires.filter

pub new-requires-clause-cells : goal.new-requires-clause-cells
new-requires-clause-cells c =
    are_its c.args.pool.now c.args.cells.now c.requires.cells c.args.filter c.requires.filter c.get-kind.result.now c.as_slice-values.result.now
    (its_kind c.args.pool.now c.args.cells.now c.requires.cells c.args.filter c.requires.filter c.get-kind.result.now c.get-kind.ensures)
    (its_cells c.args.pool.now c.args.cells.now c.requires.cells c.args.filter c.requires.filter c.get.result.now c.as_slice-values.result.now c.get.ensures c.as_slice-values.ensures)

pub new-requires-clause-rows : goal.new-requires-clause-rows
new-requires-clause-rows c =
    omega (
      arith,
      column_length c.args.pool.now c.args.cells.now c.requires.cells c.args.filter c.requires.filter c.as_slice-values.result.now
          (its_cells c.args.pool.now c.args.cells.now c.requires.cells c.args.filter c.requires.filter c.get.result.now c.as_slice-values.result.now c.get.ensures c.as_slice-values.ensures),
      c.row_count-rows.ensures,
      c.row_count-rows.type_inv,
    )

pub pair_stats_of-requires-clause-sorted : goal.pair_stats_of-requires-clause-sorted
pair_stats_of-requires-clause-sorted c =
    column_in c.args.pool.now c.args.cells.now c.requires.cells c.args.filter c.requires.filter c.in_ok-sorted.sorted c.get-kind.result.now c.as_slice-values.result.now
    (its_kind c.args.pool.now c.args.cells.now c.requires.cells c.args.filter c.requires.filter c.get-kind.result.now c.get-kind.ensures)
    (its_cells c.args.pool.now c.args.cells.now c.requires.cells c.args.filter c.requires.filter c.get.result.now c.as_slice-values.result.now c.get.ensures c.as_slice-values.ensures)
    c.in_ok-sorted.ensures
