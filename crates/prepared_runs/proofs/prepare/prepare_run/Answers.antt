use Rattle.std.proofs.Common.{Err, Ok}
use Rattle.std.proofs.lemmas.Result.{err_from_is_err_and}
use Rattle.outcomes.specs.Reads.{mapped}
use Rattle.safebound_words.specs.declared.command.SchemaTask.TheVariants as schema_tasks
use Rattle.prepared_runs.specs.PreparedRun.{appended_from, outcome_of}
use Rattle.prepared_runs.proofs.Stages.{schema_task_done}
use Rattle.prepared_runs.proofs.prepare.prepare_run.Goals as goal

pub returns-in-Query-clause-reads : goal.returns-in-Query-clause-reads
returns-in-Query-clause-reads g c =
    schema_task_done c.args.schema_task.now (schema_tasks.Query c.in-Query.file c.in-Query.work) c.args.schema.now (mapped (outcome_of c.args.schema.now) c.prepare_work.result)
    c.in-Query.is c.prepare_work.ensures.reads

pub returns-in_err-made-in-Append-clause-reads : goal.returns-in_err-made-in-Append-clause-reads
returns-in_err-made-in-Append-clause-reads g c =
    let p = err_from_is_err_and c.from_residual.result c.from_residual.ensures.1 in
    rw (p.1, p.2) (schema_task_done c.args.schema_task.now (schema_tasks.Append c.in-Append.append) c.args.schema.now (Err c.in_err-made-in-Append.field-0.0) c.in-Append.is
    c.in_err-made-in-Append.ensures.reads)

pub returns-in_ok-made-in-Append-clause-reads : goal.returns-in_ok-made-in-Append-clause-reads
returns-in_ok-made-in-Append-clause-reads g c =
    schema_task_done c.args.schema_task.now (schema_tasks.Append c.in-Append.append) c.args.schema.now (Ok (appended_from c.args.schema.now c.in_ok-made-in-Append.made)) c.in-Append.is
    c.in_ok-made-in-Append.ensures.reads
