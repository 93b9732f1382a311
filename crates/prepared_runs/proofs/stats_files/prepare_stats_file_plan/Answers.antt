use Rattle.std.proofs.lemmas.Result.{err_from_is_err_and}
use Rattle.prepared_runs.proofs.StatsFileStages.{plan_ran, plan_stops}
use Rattle.prepared_runs.proofs.stats_files.prepare_stats_file_plan.Goals as goal

pub returns-in_err-stats-clause-reads : goal.returns-in_err-stats-clause-reads
returns-in_err-stats-clause-reads g c =
    let p = err_from_is_err_and c.from_residual.result c.from_residual.ensures.1 in
    rw (p.1, p.2) (plan_stops c.args.file.now c.args.terms.now c.args.schema.now c.args.query _ c.in_err-stats.field-0.0 c.in_err-stats.ensures.reads)

pub returns-clause-reads : goal.returns-clause-reads
returns-clause-reads g c =
    plan_ran c.args.file.now c.args.terms.now c.args.schema.now c.args.query _ c.in_ok-stats.stats c.plan_from_stats_file.result c.plan_from_stats_file.ensures.planned c.plan_from_stats_file.ensures.refused
    c.in_ok-stats.ensures.reads
