use Rattle.std.proofs.Common.{refl, arith}
use Rattle.gathered_stats.proofs.Asking.{columns_of_kinds, read_cells, read_column, read_rows}
use Rattle.gathered_stats.proofs.filters.sorted.Goals as goal

pub get-requires : goal.get-requires
get-requires c = columns_of_kinds c.args.pool.now c.args.cells.now c.requires.cells c.args.column c.requires.exists

pub new-requires-clause-cells : goal.new-requires-clause-cells
new-requires-clause-cells c =
    read_cells c.args.pool.now c.args.cells.now c.requires.cells c.args.column c.requires.exists c.get-kind.result.now c.get.result.now c.as_slice.result.now c.get-kind.ensures c.get.ensures c.as_slice.ensures

pub new-requires-clause-rows : goal.new-requires-clause-rows
new-requires-clause-rows c =
    omega (
      arith,
      read_rows c.args.pool.now c.args.cells.now c.requires.cells c.args.column c.requires.exists c.get-kind.result.now c.get.result.now c.as_slice.result.now c.get-kind.ensures c.get.ensures c.as_slice.ensures,
      c.row_count-rows.ensures,
      c.row_count-rows.type_inv,
    )

pub returns : goal.returns
returns c = (
  refl,
  read_column c.args.pool.now c.args.cells.now c.requires.cells c.args.column c.requires.exists c.get-kind.result.now c.get.result.now c.as_slice.result.now c.get-kind.ensures c.get.ensures c.as_slice.ensures
      c.in_ok-sorted.sorted c.in_ok-sorted.ensures,
)
