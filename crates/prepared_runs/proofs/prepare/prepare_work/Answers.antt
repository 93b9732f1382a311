use Rattle.std.proofs.Common.{refl}
use Rattle.std.proofs.lemmas.Result.{err_from_is_err_and}
use Rattle.outcomes.specs.Reads.{mapped}
use Rattle.prepared_runs.specs.PreparedRun.{outcome_of}
use Rattle.prepared_runs.proofs.Stages.{query_not_run, query_ran}
use Rattle.prepared_runs.proofs.prepare.prepare_work.Goals as goal

pub returns-in_err-query-clause-reads : goal.returns-in_err-query-clause-reads
returns-in_err-query-clause-reads g c =
    let p = err_from_is_err_and c.from_residual.result c.from_residual.ensures.1 in
    rw (p.1, p.2) (query_not_run c.args.file.now c.args.work.now c.args.schema.now c.in_err-query.field-0.0 c.in_err-query.ensures.reads)

pub returns-clause-reads : goal.returns-clause-reads
returns-clause-reads g c =
    query_ran c.args.file.now c.args.work.now c.args.schema.now _ _ c.in_ok-query.query (mapped (outcome_of c.args.schema.now) c.prepare_query.result)
    (record { files = refl; faults = refl; misses = refl }) c.in_ok-query.ensures.reads c.prepare_query.ensures.reads
