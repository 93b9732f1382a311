use Rattle.std.proofs.Common.{Ok, Err, ap, sym, ◌∙◌}
use Rattle.std.proofs.lemmas.Result.{err_from_is_err_and}
use Rattle.safebound_words.specs.declared.command.QueryTask.TheVariants as query_tasks
use Rattle.prepared_runs.specs.PreparedRun.{file_from, plan_from, planned_outcome}
use Rattle.prepared_runs.proofs.Stages.{work_done}
use Rattle.prepared_runs.proofs.prepare.prepare_query.Goals as goal

pub returns-in_err-prepared-in-Plan-clause-reads : goal.returns-in_err-prepared-in-Plan-clause-reads
returns-in_err-prepared-in-Plan-clause-reads g c =
    let p = err_from_is_err_and c.from_residual.result c.from_residual.ensures.1 in
    rw (p.1, p.2) (work_done c.args.work.now (query_tasks.Plan c.in-Plan.plan) c.args.schema.now c.args.query (Err c.in_err-prepared-in-Plan.field-0.0) c.in-Plan.is
    c.in_err-prepared-in-Plan.ensures.reads)

pub returns-in_ok-prepared-in-Plan-clause-reads : goal.returns-in_ok-prepared-in-Plan-clause-reads
returns-in_ok-prepared-in-Plan-clause-reads g c =
    work_done c.args.work.now (query_tasks.Plan c.in-Plan.plan) c.args.schema.now c.args.query (Ok (planned_outcome c.in_ok-prepared-in-Plan.prepared)) c.in-Plan.is
    c.in_ok-prepared-in-Plan.ensures.reads

pub returns-in_err-made_stats-in-WriteStats-clause-reads : goal.returns-in_err-made_stats-in-WriteStats-clause-reads
returns-in_err-made_stats-in-WriteStats-clause-reads g c =
    let p = err_from_is_err_and c.from_residual-in_err-made_stats-in-WriteStats.result c.from_residual-in_err-made_stats-in-WriteStats.ensures.1 in
    rw (p.1, p.2) (work_done c.args.work.now (query_tasks.WriteStats c.of.result) c.args.schema.now c.args.query (Err c.in_err-made_stats-in-WriteStats.field-0.0) (c.in-WriteStats.is ∙ ap query_tasks.WriteStats (sym c.of.ensures))
    c.in_err-made_stats-in-WriteStats.ensures.reads)

pub returns-in_ok-made_stats-in-WriteStats-clause-reads : goal.returns-in_ok-made_stats-in-WriteStats-clause-reads
returns-in_ok-made_stats-in-WriteStats-clause-reads g c =
    work_done c.args.work.now (query_tasks.WriteStats c.of.result) c.args.schema.now c.args.query (Ok (file_from c.args.schema.now c.in_ok-made_stats-in-WriteStats.made_stats)) (c.in-WriteStats.is ∙ ap query_tasks.WriteStats (sym c.of.ensures))
    c.in_ok-made_stats-in-WriteStats.ensures.reads

pub returns-in_err-made-in-PlanFromStats-clause-reads : goal.returns-in_err-made-in-PlanFromStats-clause-reads
returns-in_err-made-in-PlanFromStats-clause-reads g c =
    let p = err_from_is_err_and c.from_residual-in_err-made-in-PlanFromStats.result c.from_residual-in_err-made-in-PlanFromStats.ensures.1 in
    rw (p.1, p.2) (work_done c.args.work.now (query_tasks.PlanFromStats c.in-PlanFromStats.file c.in-PlanFromStats.terms) c.args.schema.now c.args.query (Err c.in_err-made-in-PlanFromStats.field-0.0) c.in-PlanFromStats.is
    c.in_err-made-in-PlanFromStats.ensures.reads)

pub returns-in_ok-made-in-PlanFromStats-clause-reads : goal.returns-in_ok-made-in-PlanFromStats-clause-reads
returns-in_ok-made-in-PlanFromStats-clause-reads g c =
    work_done c.args.work.now (query_tasks.PlanFromStats c.in-PlanFromStats.file c.in-PlanFromStats.terms) c.args.schema.now c.args.query (Ok (plan_from c.in_ok-made-in-PlanFromStats.made)) c.in-PlanFromStats.is
    c.in_ok-made-in-PlanFromStats.ensures.reads
