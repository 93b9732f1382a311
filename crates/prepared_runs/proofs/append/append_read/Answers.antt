use Rattle.std.proofs.lemmas.Result.{err_from_is_err_and}
use Rattle.table_files.specs.EntryTables.{rows_of_read}
use Rattle.prepared_runs.proofs.AppendStages.{rows_ran, rows_stop}
use Rattle.prepared_runs.proofs.append.append_read.Goals as goal

pub returns-in_err-rows-clause-reads : goal.returns-in_err-rows-clause-reads
returns-in_err-rows-clause-reads g c =
    let p = err_from_is_err_and c.from_residual.result c.from_residual.ensures.1 in
    rw (p.1, p.2) (rows_stop c.args.name.now c.args.schema.now c.args.stats c.args.found.table c.args.found.rows c.in_err-rows.field-0.0 (rw c.get.ensures at c.in_err-rows.ensures.reads))

pub returns-clause-reads : goal.returns-clause-reads
returns-clause-reads g c =
    rows_ran c.args.name.now c.args.schema.now c.args.stats c.args.found.table c.args.found.rows (rows_of_read c.in_ok-rows.rows) c.grow.result
    c.grow.ensures.made c.grow.ensures.refused (rw c.get.ensures at c.in_ok-rows.ensures.reads)
