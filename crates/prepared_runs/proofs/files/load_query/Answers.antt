use Rattle.std.proofs.lemmas.Result.{err_from_is_err_and}
use Rattle.prepared_runs.proofs.Answered.{query_read, query_stops_by}
use Rattle.prepared_runs.proofs.Stages.{query_refused, query_spelled, query_stops}
use Rattle.prepared_runs.proofs.files.load_query.Goals as goal

pub returns-in_err-text-clause-reads : goal.returns-in_err-text-clause-reads
returns-in_err-text-clause-reads g c =
    let p = err_from_is_err_and c.from_residual.result c.from_residual.ensures.1 in
    rw (p.1, p.2) (query_stops c.args.name.now c.args.schema.now c.in_err-text.field-0.0 (rw c.get.ensures at c.in_err-text.ensures.reads))

pub returns-in_err-query-clause-reads : goal.returns-in_err-query-clause-reads
returns-in_err-query-clause-reads g c =
    let p = err_from_is_err_and c.from_residual-in_err-query.result c.from_residual-in_err-query.ensures.1 in
    rw (p.1, p.2) (query_refused c.args.name.now c.args.schema.now _ c.as_slice.result.now _ c.as_slice.ensures
    (query_stops_by c.args.schema.now c.as_slice.result.now c.in_err-query.field-0.0 c.in_err-query.ensures.meaning) (rw c.get.ensures at c.in_ok-text.ensures.reads))

pub returns-clause-reads : goal.returns-clause-reads
returns-clause-reads g c =
    query_spelled c.args.name.now c.args.schema.now _ c.as_slice.result.now c.in_ok-query.query c.as_slice.ensures
    (query_read c.args.schema.now c.as_slice.result.now c.in_ok-query.query c.in_ok-query.ensures.meaning) (rw c.get.ensures at c.in_ok-text.ensures.reads)
