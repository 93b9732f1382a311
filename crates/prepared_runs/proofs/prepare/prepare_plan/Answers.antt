use Rattle.std.proofs.Common.{List, ℕ, Ok, length, ◌∙◌, ap, sym, subst, arith}
use Rattle.std.proofs.lemmas.Result.{err_from_is_err_and}
use Rattle.sql_meaning.specs.Tables.{Tables, tables_of}
use Rattle.table_files.specs.EntryTables.{entry_rows, tables_in}
use Rattle.prepared_runs.specs.Limits.{IsWithinLimit}
use Rattle.prepared_runs.specs.RunOutcome.{Planned}
use Rattle.prepared_runs.specs.PreparedQuery.{AreOverLists, HoldsBytes, pending_text}
use Rattle.bushy_join.specs.Trees.{IsTreePlanOf}
use Rattle.prepared_runs.specs.Shapes.{IsShapedPlan}
use Rattle.prepared_runs.specs.Sources.{lists_by, bounds_and_lists_by}
use Rattle.prepared_runs.specs.Standing.{LoseNoRow}
use Rattle.plans.specs.declared.bushy.BushyPlan.{BushyPlan}
use Rattle.tree_rows.specs.Memory.{tree_bytes}
use Rattle.safebound_words.specs.declared.command.OutText.{OutText}
use Rattle.prepared_runs.proofs.Answered.{limit_stops_by, plan_stage_ok, plan_stops_by}
use Rattle.prepared_runs.proofs.KeyFacts.{needs_met}
use Rattle.prepared_runs.proofs.LimitFacts.{within_ok}
use Rattle.prepared_runs.proofs.ShapeFacts.{is_plan_of_its_scans, plan_fits, plan_over, shaped_is_tree, tree_over}
use Rattle.prepared_runs.proofs.SourceFacts.{rows_kept, stand}
use Rattle.prepared_runs.proofs.prepare.prepare_plan.Goals as goal

pub returns-in_err-planned-clause-refused : goal.returns-in_err-planned-clause-refused
returns-in_err-planned-clause-refused c =
    let p = err_from_is_err_and c.from_residual.result c.from_residual.ensures.1 in
    rw (p.1, p.2) (plan_stops_by c.args.task.now c.args.schema.now c.args.query (entry_rows c.args.db) (tables_of c.args.db) c.requires.tables c.in_err-planned.field-0.0 c.in_err-planned.ensures.refused)

pub tree_memory-bytes-requires : goal.tree_memory-bytes-requires
tree_memory-bytes-requires c =
    let task = c.args.task.now in
    let query = c.args.query in
    let tables = tables_of c.args.db in
    let planned = c.in_ok-planned.planned in
    is_plan_of_its_scans (length query.from) planned.plan (shaped_is_tree (length query.from) task.terms.shape planned.plan (omega (arith, c.requires.database.some)) c.requires.database.few
    (plan_fits query tables (bounds_and_lists_by task.source c.args.schema.now query tables)
    (stand query tables c.args.schema.now task.source (needs_met task.source c.args.schema.now query tables c.requires.keys)) task.accuracy task.terms.budget (omega (arith, c.requires.database.some))
    c.requires.database.few task.terms.shape planned.plan c.in_ok-planned.ensures.planned c.requires.ranges.budget).is_shaped)

pub returns-in_err-check_limit-clause-refused : goal.returns-in_err-check_limit-clause-refused
returns-in_err-check_limit-clause-refused c =
    let p = err_from_is_err_and c.from_residual-in_err-check_limit.result c.from_residual-in_err-check_limit.ensures.1 in
    rw (p.1, p.2) (limit_stops_by c.args.task.now c.args.schema.now c.args.query (entry_rows c.args.db) (tables_of c.args.db) c.requires.tables c.in_ok-planned.planned.plan
    c.in_ok-planned.ensures.planned c.in_err-check_limit.field-0.0 (sym (rw c.tree_memory-bytes.ensures.value at c.in_err-check_limit.ensures)))

pub make_room-requires-clause-within : goal.make_room-requires-clause-within
make_room-requires-clause-within c =
    let memory = c.args.task.now.terms.memory in
    subst (IsWithinLimit memory) c.tree_memory-bytes.ensures.value (within_ok memory c.tree_memory-bytes.result tt tt (sym c.in_ok-check_limit.ensures)).1

pub make_room-requires-clause-plan : goal.make_room-requires-clause-plan
make_room-requires-clause-plan c =
    let task = c.args.task.now in
    let query = c.args.query in
    let tables = tables_of c.args.db in
    let planned = c.in_ok-planned.planned in
    subst (λ (l : List (List ℕ)). IsTreePlanOf query tables l planned.plan) (sym c.in_ok-planned.ensures.lists)
    (tree_over query c.args.db (lists_by task.source query tables) task.terms.shape planned.plan c.requires.database (plan_over query tables (bounds_and_lists_by task.source c.args.schema.now query tables)
    (stand query tables c.args.schema.now task.source (needs_met task.source c.args.schema.now query tables c.requires.keys)) task.accuracy task.terms.budget (omega (arith, c.requires.database.some)) c.requires.database.few
    task.terms.shape planned.plan c.in_ok-planned.ensures.planned c.requires.ranges.budget c.requires.database.rows_within_limit))

pub make_room-requires-clause-rows : goal.make_room-requires-clause-rows
make_room-requires-clause-rows c =
    let query = c.args.query in
    let tables = tables_of c.args.db in
    subst (λ (l : List (List ℕ)). LoseNoRow query tables l) (sym c.in_ok-planned.ensures.lists) (rows_kept query tables c.args.task.now.source)

pub returns-clause-ready : goal.returns-clause-ready
returns-clause-ready c =
    let task = c.args.task.now in
    let query = c.args.query in
    let tables = tables_of c.args.db in
    let planned = c.in_ok-planned.planned in
    record {
      database = c.requires.database;
      plan = subst (IsShapedPlan _ task.terms.shape) (sym c.in_ok-rest.ensures.plan)
          (plan_fits query tables (bounds_and_lists_by task.source c.args.schema.now query tables)
          (stand query tables c.args.schema.now task.source (needs_met task.source c.args.schema.now query tables c.requires.keys)) task.accuracy task.terms.budget (omega (arith, c.requires.database.some))
          c.requires.database.few task.terms.shape planned.plan c.in_ok-planned.ensures.planned c.requires.ranges.budget).is_shaped;
      bytes = c.tree_memory-bytes.ensures.value ∙ ap (λ (plan : BushyPlan). tree_bytes plan) (sym c.in_ok-rest.ensures.plan);
      tables = c.requires.tables;
      room = c.in_ok-rest.ensures.room;
      lists = subst (λ (l : List (List ℕ)). AreOverLists l c.in_ok-rest.rest)
          (c.in_ok-planned.ensures.lists ∙ ap (λ (t : Tables). lists_by task.source query t) (sym c.requires.tables)) c.in_ok-rest.ensures.lists;
      held = subst (λ (n : ℕ). HoldsBytes n c.in_ok-rest.rest) (sym c.tree_memory-bytes.ensures.value) c.in_ok-rest.ensures.bytes;
    }

pub returns-clause-run : goal.returns-clause-run
returns-clause-run c =
    let task = c.args.task.now in
    let query = c.args.query in
    let rows = entry_rows c.args.db in
    let planned = c.in_ok-planned.planned in
    plan_stage_ok task c.args.schema.now query rows (tables_of c.args.db) c.requires.tables planned.plan c.in_ok-planned.ensures.planned
    (sym (rw c.tree_memory-bytes.ensures.value at c.in_ok-check_limit.ensures))
    ∙ ap (λ (out : OutText). Ok (Planned (record {
      query = query;
      rows = rows;
      shape = task.terms.shape;
      plan = planned.plan;
      source = task.source;
      lists = lists_by task.source query (tables_in rows);
      memory = task.terms.memory;
      out = out;
    }))) (sym c.in_ok-rest.ensures.out)
    ∙ ap (λ (plan : BushyPlan). Ok (Planned (record {
      query = query;
      rows = rows;
      shape = task.terms.shape;
      plan = plan;
      source = task.source;
      lists = lists_by task.source query (tables_in rows);
      memory = task.terms.memory;
      out = pending_text c.in_ok-rest.rest;
    }))) (sym c.in_ok-rest.ensures.plan)
