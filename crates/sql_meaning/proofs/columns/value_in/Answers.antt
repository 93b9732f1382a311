use Rattle.std.proofs.Common.{ℕ, List, length, pos, ap, sym, ◌∙◌, arith}
use Rattle.csv_tables.specs.Values.{Int}
use Rattle.csv_tables.proofs.TableFacts.{columns_long}
use Rattle.sql_meaning.proofs.ColumnFacts.{column_length, read_is_cell, read_value}
use Rattle.sql_meaning.proofs.columns.value_in.Goals as goal

pub bounds-as_slice-column-2 : goal.bounds-as_slice-column-2
bounds-as_slice-column-2 c =
    let cells = c.args.cells.now in
    omega (arith, columns_long c.args.pool.now cells.rows cells.kinds cells.columns c.requires.cells, ap (λ (s : List (List ℕ)). length s) c.as_slice-2.ensures)

pub bounds-cells-row : goal.bounds-cells-row
bounds-cells-row c =
    omega (
      arith,
      column_length c.args.pool.now c.args.cells.now c.requires.cells c.as_slice-2.result.now c.args.column c.index-as_slice-column.result c.as_slice-2.ensures c.index-as_slice-column.is c.requires.column,
      ap (λ (s : List ℕ). length s) c.as_slice-cells.ensures,
    )

pub read_cell-requires : goal.read_cell-requires
read_cell-requires c =
    read_is_cell c.args.pool.now c.args.cells.now c.requires.cells c.as_slice.result.now c.as_slice-2.result.now c.args.row c.args.column c.index-as_slice-column.result c.as_slice-cells.result.now
    c.as_slice.ensures c.as_slice-2.ensures c.index-as_slice-column.is c.as_slice-cells.ensures c.requires.row c.requires.column

pub returns : goal.returns
returns c =
    c.read_cell.ensures
    ∙ sym (read_value c.args.pool.now c.args.cells.now c.requires.cells c.as_slice.result.now c.as_slice-2.result.now c.args.row c.args.column c.index-as_slice-column.result c.as_slice-cells.result.now (Int (pos 0))
    c.as_slice.ensures c.as_slice-2.ensures c.index-as_slice-column.is c.as_slice-cells.ensures c.requires.row c.requires.column)
