use Rattle.std.proofs.Common.{refl}
use Rattle.std.proofs.lemmas.Result.{err_from_is_err_and}
use Rattle.outcomes.specs.Reads.{mapped}
use Rattle.prepared_runs.specs.PreparedRun.{appended_from}
use Rattle.prepared_runs.proofs.AppendStages.{append_ran, append_stops}
use Rattle.prepared_runs.proofs.append.prepare_append.Goals as goal

pub returns-in_err-stats-clause-reads : goal.returns-in_err-stats-clause-reads
returns-in_err-stats-clause-reads g c =
    let p = err_from_is_err_and c.from_residual.result c.from_residual.ensures.1 in
    rw (p.1, p.2) (append_stops c.args.append.now c.args.schema.now c.in_err-stats.field-0.0 c.in_err-stats.ensures.reads)

pub returns-clause-reads : goal.returns-clause-reads
returns-clause-reads g c =
    append_ran c.args.append.now c.args.schema.now _ _ c.in_ok-stats.stats (mapped (appended_from c.args.schema.now) c.append_to.result)
    (record { files = refl; faults = refl; misses = refl }) c.in_ok-stats.ensures.reads c.append_to.ensures.reads
