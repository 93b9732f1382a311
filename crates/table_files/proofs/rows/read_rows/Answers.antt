use Rattle.std.specs.Prelude.{Err, Ok}
use Rattle.std.proofs.lemmas.Result.{err_from_is_err_and}
use Rattle.csv_tables.specs.Cells.{rows_of_cells}
use Rattle.table_files.proofs.EachTable.{named_cells, rows_named}
use Rattle.table_files.proofs.rows.read_rows.Goals as goal

pub returns-in_err-cells-clause-reads : goal.returns-in_err-cells-clause-reads
returns-in_err-cells-clause-reads g c =
    let p = err_from_is_err_and c.from_residual.result c.from_residual.ensures.1 in
    rw (p.1, p.2) (rows_named c.args.schema.now c.args.number c.get-table.result.now c.get-table.ensures c.args.name.now _ (Err c.in_err-cells.field-0.0) c.in_err-cells.ensures.reads)

pub returns-clause-reads : goal.returns-clause-reads
returns-clause-reads g c =
    rows_named c.args.schema.now c.args.number c.get-table.result.now c.get-table.ensures c.args.name.now _ (Ok (rows_of_cells c.load_rows.new.pool c.in_ok-cells.cells)) c.in_ok-cells.ensures.reads

pub returns-clause-cells : goal.returns-clause-cells
returns-clause-cells g c =
    named_cells c.args.schema.now c.args.number c.get-table.result.now c.get-table.ensures c.load_rows.new.pool c.in_ok-cells.cells c.in_ok-cells.ensures.cells
