use Rattle.std.proofs.lemmas.Result.{err_from_is_err_and}
use Rattle.sql_meaning.specs.Tables.{tables_of}
use Rattle.join_graph.proofs.FromEntries.{names_its_entries}
use Rattle.prepared_runs.proofs.KeyFacts.{keys_hold}
use Rattle.prepared_runs.proofs.Stages.{tables_ran, tables_stop}
use Rattle.prepared_runs.proofs.prepare.prepare_tables.Goals as goal

pub returns-in_err-db-clause-reads : goal.returns-in_err-db-clause-reads
returns-in_err-db-clause-reads g c =
    let p = err_from_is_err_and c.from_residual.result c.from_residual.ensures.1 in
    rw (p.1, p.2) (tables_stop c.args.task.now c.args.schema.now c.args.query _ c.in_err-db.field-0.0 c.in_err-db.ensures.reads)

pub returns-clause-reads : goal.returns-clause-reads
returns-clause-reads g c =
    tables_ran c.args.task.now c.args.schema.now c.args.query _ _ c.prepare_plan.result c.prepare_plan.ensures.run c.prepare_plan.ensures.refused c.in_ok-db.ensures.reads

pub prepare_plan-requires-clause-keys : goal.prepare_plan-requires-clause-keys
prepare_plan-requires-clause-keys g c =
    keys_hold c.args.schema.now c.args.query (tables_of c.in_ok-db.db) (names_its_entries c.args.schema.now c.args.query c.requires.query) c.in_ok-db.ensures.files
