use Rattle.std.proofs.lemmas.Result.{err_from_is_err_and}
use Rattle.table_files.proofs.FewRows.{cells_within_row_limit}
use Rattle.table_files.proofs.OneTable.{rows_read, rows_refused, rows_stop}
use Rattle.table_files.proofs.table.load_rows.Goals as goal

pub returns-in_err-bytes-clause-reads : goal.returns-in_err-bytes-clause-reads
returns-in_err-bytes-clause-reads g c =
    let p = err_from_is_err_and c.from_residual.result c.from_residual.ensures.1 in
    rw (p.1, p.2) (rows_stop c.args.number c.args.table.now c.args.name.now c.in_err-bytes.field-0.0 c.in_err-bytes.ensures.reads)

pub returns-in-Ok-clause-reads : goal.returns-in-Ok-clause-reads
returns-in-Ok-clause-reads g c =
    rows_read c.args.number c.args.table.now c.args.name.now _ c.as_slice.result.now _ c.as_slice.ensures c.in-Ok.ensures.rows
    c.in_ok-bytes.ensures.reads

pub returns-in-Ok-clause-few : goal.returns-in-Ok-clause-few
returns-in-Ok-clause-few g c = cells_within_row_limit c.args.table.now c.as_slice.result.now _ _ c.in-Ok.ensures.rows

pub returns-in-Ok-clause-file : goal.returns-in-Ok-clause-file
returns-in-Ok-clause-file g c = (c.as_slice.result.now, c.in-Ok.ensures.rows)

pub returns-in-Err-clause-reads : goal.returns-in-Err-clause-reads
returns-in-Err-clause-reads g c =
    rw c.table_failure.ensures (rows_refused c.args.number c.args.table.now c.args.name.now _ c.as_slice.result.now c.in-Err.error c.as_slice.ensures
    c.in-Err.ensures.refused c.in_ok-bytes.ensures.reads)
