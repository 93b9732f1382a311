-- If the headline holds for a call, the call keeps the promise of `run`.
use Rattle.std.proofs.Common.{◌≡◌, ◌⊎◌, inl, inr, ℕ, ◌+◌, ◌<◌, ◌≤◌, false, List, ◌++◌, [], map, length, get_or, Option, None, Some, Result, Ok, Err, refl, ap, sym, ◌∙◌, subst, arith}
use Rattle.std.specs.Prelude.{slice_get, IsOkAnd, IfOk}
use Rattle.std.proofs.lemmas.Bool.Decides.{nat_tests}
use Rattle.std.proofs.lemmas.List.{get_or-append-add, get_or-map}
use Rattle.std.proofs.lemmas.Option.{get_or_from_slice_get, slice_get-get_or, slice_get_within}
use Rattle.base_io.specs.Devices.{Growth}
use Rattle.base_io.specs.Files.{Files}
use Rattle.schema_types.specs.Texts.{IsSchemaOf}
use Rattle.schema_types.specs.declared.errors.LimitKind.TheVariants as limit
use Rattle.schema_types.specs.declared.errors.SchemaError.{SchemaError}
use Rattle.schema_types.specs.declared.errors.SchemaError.TheVariants as schema_error
use Rattle.schema_types.specs.declared.types.Schema.{Schema}
use Rattle.csv_tables.specs.Rows.{Row}
use Rattle.query_names.specs.declared.errors.QueryError.{QueryError}
use Rattle.query_names.specs.declared.errors.QueryError.TheVariants as query_error
use Rattle.query_types.specs.Validity.{IsQueryOf}
use Rattle.query_types.specs.declared.types.Query.{Query}
use Rattle.query_types.specs.declared.types.Source.{Source}
use Rattle.sql_parse.specs.Reading.{IsAnswer}
use Rattle.text_answers.specs.QueryTexts.{query_answer}
use Rattle.text_answers.specs.SchemaTexts.{schema_answer}
use Rattle.text_answers.proofs.QueryAnswers as queries
use Rattle.text_answers.proofs.SchemaAnswers as schemas
use Rattle.outcomes.specs.Errors.{plan_refusal, query_refusal, schema_refusal}
use Rattle.outcomes.specs.Reads.{◌>>=◌, with_refusal}
use Rattle.outcomes.specs.declared.names.FileId.TheVariants as file
use Rattle.outcomes.specs.declared.refusal.Refusal.{Refusal}
use Rattle.outcomes.specs.declared.refusal.Refusal.TheVariants as refusal
use Rattle.table_files.specs.EntryTables.{tables_in}
use Rattle.table_files.specs.Stage.{no_table, numbers_of, table_at, table_rows, tables_stage}
use Rattle.table_files.specs.TableFile.{read}
use Rattle.table_files.proofs.EntryLaws.{two_steps}
use Rattle.table_files.proofs.StagedFiles.{entries_are, read_ok, table_ok, ok_without_refusal}
use Rattle.sql_meaning.specs.Tables.{Tables}
use Rattle.reduced_scans.proofs.ByRounds.{reduced_scans_by_rounds}
use Rattle.plans.specs.Orders.{order_of_tree, tree_of_order}
use Rattle.plans.specs.declared.bushy.BushyPlan.{BushyPlan}
use Rattle.plans.specs.declared.bushy.Join.{Join}
use Rattle.tree_rows.specs.Memory.{tree_bytes}
use Rattle.tree_rows.specs.Rooms.{bound_at}
use Rattle.tree_rows.specs.Trees.{entries_at}
use Rattle.bushy_join.specs.Trees.{is_joined_leaf}
use Rattle.safebound_words.specs.Answer.{command_of}
use Rattle.safebound_words.proofs.Readings.{asked_computed}
use Rattle.prepared_runs.specs.AcceptedQuery.{BoundsHold, printed}
use Rattle.safebound_words.specs.Commands.{over_query}
use Rattle.safebound_words.specs.declared.command.Command.{Command}
use Rattle.safebound_words.specs.declared.command.SchemaTask.TheVariants as schema_tasks
use Rattle.safebound_words.specs.declared.command.QueryTask.TheVariants as query_tasks
use Rattle.safebound_top.specs.Call.{Call, Grew}
use Rattle.safebound_top.specs.Headline.{GrewWhole, Headline}
use Rattle.prepared_runs.specs.Limits.{IsWithinLimit, within_limit}
use Rattle.safebound_top.specs.Promise.{AreInFile, AreScans, AsksQuery, DeclaresSchema, HoldsAlong, HoldsOver, IsTheOne, PrintsPlan, Promise, RanWhole, choices_over}
use Rattle.prepared_runs.specs.Shapes.{part_rows}
use Rattle.printed_texts.specs.Memory.{memory_text}
use Rattle.printed_texts.specs.Plans.{plan_lines}
use Rattle.prepared_runs.specs.Sources.{lists_by}
use Rattle.prepared_runs.specs.RunOutcome.{NoBoundIsTooLow, RunOutcome, Planned, PrintsTheAnswer}
use Rattle.safebound_top.specs.OutcomeTexts.{notes_text, out_text}
use Rattle.safebound_top.specs.Texts.{plan_text, plan_text_of, rows_text, text_for}
use Rattle.prepared_runs.specs.Verdict.{schema_task_run, command_run, command_stage, plan_asked, plan_stage, query_of_text, query_stage, or_usage, accepted_query, schema_of_text, schema_stage, verdict, query_task_run}
use Rattle.safebound_words.specs.declared.command.ListSource.{ListSource}
use Rattle.safebound_words.specs.declared.command.ListSource.TheVariants as sources
use Rattle.safebound_words.specs.declared.command.OutText.{OutText}
use Rattle.safebound_words.specs.declared.command.OutText.TheVariants as out_texts
use Rattle.safebound_words.specs.declared.command.PlanWork.{PlanWork}
use Rattle.safebound_words.specs.declared.command.Shape.{Shape}
use Rattle.safebound_words.specs.declared.command.Shape.TheVariants as shapes
use Rattle.prepared_runs.proofs.LimitFacts.{within_ok}
use Rattle.prepared_runs.proofs.ShapeFacts.{Fits}

-- ---- the texts

the_schema : (text : List ℕ) (schema : Schema) → schema_answer text ≡ Ok schema → IsTheOne (λ s. IsSchemaOf text (Ok s)) schema
the_schema text schema answered = record {
  is = subst (IsSchemaOf text) answered (schemas.result_is_allowed text);
  only = λ other is. of_only other (schemas.only_result text (Ok other) is);
}
  where
    of_only : (other : Schema) → (Ok other ≡ Err schema_error.NoMemory) ⊎ (Ok other ≡ schema_answer text) → other ≡ schema
    of_only other (inl memory) = cc
    of_only other (inr same) = (let both : ◌≡◌ {A = Result Schema SchemaError} (Ok other) (Ok schema) = same ∙ answered in cc)

the_query : (schema : Schema) (text : List ℕ) (query : Query) → query_answer schema text ≡ Ok query → IsTheOne (λ q. IsAnswer schema text (Ok q)) query
the_query schema text query answered = record {
  is = subst (IsAnswer schema text) answered (queries.result_is_allowed schema text);
  only = λ other is. of_only other (queries.only_result schema text (Ok other) is);
}
  where
    of_only : (other : Query) → (Ok other ≡ Err query_error.NoMemory) ⊎ (Ok other ≡ query_answer schema text) → other ≡ query
    of_only other (inl memory) = cc
    of_only other (inr same) = (let both : ◌≡◌ {A = Result Query QueryError} (Ok other) (Ok query) = same ∙ answered in cc)

pub declares : (name : List ℕ) (files : Files) (schema : Schema) → schema_stage name files ≡ Ok schema → DeclaresSchema files name schema
unfolding schema_stage
declares name files schema e =
    let steps = two_steps (read file.Schema 1048576 name files) schema_of_text schema e in
    record {
      text = steps.0;
      there = read_ok file.Schema 1048576 name files steps.0 steps.1;
      declares = the_schema steps.0 schema (ok_without_refusal schema_refusal (schema_answer steps.0) schema steps.2);
    }

pub asks : (name : List ℕ) (files : Files) (schema : Schema) (query : Query) → query_stage name schema files ≡ Ok query → AsksQuery files name schema query
unfolding query_stage
asks name files schema query e =
    let steps = two_steps (read file.Query 1048576 name files) (query_of_text schema) query e in
    record {
      text = steps.0;
      there = read_ok file.Query 1048576 name files steps.0 steps.1;
      asks = the_query schema steps.0 query (ok_without_refusal query_refusal (query_answer schema steps.0) query steps.2);
    }

-- ---- the rows

pub query_of_schema : (name : List ℕ) (files : Files) (schema : Schema) (query : Query) → query_stage name schema files ≡ Ok query → IsQueryOf schema query
unfolding query_stage
query_of_schema name files schema query e =
    let steps = two_steps (read file.Query 1048576 name files) (query_of_text schema) query e in
    queries.of_schema schema steps.0 query (ok_without_refusal query_refusal (query_answer schema steps.0) query steps.2)

module _ (schema : Schema) (query : Query) (files : Files) (rows : List (List Row)) (of_schema : IsQueryOf schema query)
    (staged : tables_stage schema query.from files ≡ Ok rows) where
  rows_in_files : (entry : ℕ) → entry < length query.from → AreInFile files schema query entry (tables_in rows entry)
  rows_in_files entry low =
      let none : Source = record { table = 0; alias = [] } in
      let source : Source = get_or query.from entry none in
      let number : get_or (numbers_of query.from) entry 0 ≡ source.table = get_or-map (λ (s : Source). s.table) query.from entry none 0 low in
      let here : table_rows schema source.table files ≡ Ok (tables_in rows entry) =
      ap (λ (n : ℕ). table_rows schema n files) (sym number) ∙ entries_are schema query.from files rows staged entry low in
      let read = table_ok source.table (table_at schema source.table) files (tables_in rows entry) here in
      record {
        source = source;
        is_source = slice_get-get_or query.from entry none low;
        table = table_at schema source.table;
        is_table = slice_get-get_or schema.tables source.table no_table (of_schema.sources entry none low);
        bytes = read.0;
        there = read.1;
        read = read.2;
      }

-- ---- the plan

scans_are : (query : Query) (tables : Tables) (source : ListSource) → AreScans source query tables (lists_by source query tables)
unfolding lists_by
scans_are query tables sources.Columns = refl
scans_are query tables sources.Keyed = refl
scans_are query tables sources.Reduced = reduced_scans_by_rounds query tables
scans_are query tables sources.Counted = reduced_scans_by_rounds query tables

-- in this part, the lists are any lists: whole scans or reduced scans
module _ (query : Query) (tables : Tables) (lists : List (List ℕ)) where
  along : (plan : BushyPlan) → Fits query tables lists shapes.Order plan → HoldsAlong query tables lists (order_of_tree plan)
  along plan h = record {
    each_entry = h.is_shaped.order;
    scans_fit = h.scans;
    levels_fit = λ k low. h.parts k (omega (arith, h.is_shaped.order.order.all));
  }

  module _ (plan : BushyPlan) (h : Fits query tables lists shapes.Tree plan) where
    node_bound : (k : ℕ) (join : Join) → slice_get plan.joins k ≡ Some join → bound_at plan (length plan.scans + k) ≡ join.bound
    node_bound k join is =
        get_or-append-add plan.scans (map (λ (j : Join). j.bound) plan.joins) k 0
        ∙ get_or-map (λ (j : Join). j.bound) plan.joins k join 0 (slice_get_within plan.joins k join is)
        ∙ ap (λ (j : Join). j.bound) (get_or_from_slice_get plan.joins k join join is)

    no_leaf : (k : ℕ) → is_joined_leaf plan (length plan.scans + k) ≡ false
    no_leaf k = (let far : length plan.scans ≤ length plan.scans + k = omega arith in grind (arith, nat_tests))

    node_fits : (k : ℕ) (join : Join) → slice_get plan.joins k ≡ Some join
        → length (choices_over query tables lists (entries_at plan (length plan.scans + k))) ≤ join.bound
    node_fits k join is =
        let fits : length (part_rows query tables lists shapes.Tree plan k) ≤ bound_at plan (length plan.scans + k) = h.parts k (slice_get_within plan.joins k join is) in
        let inner : length (choices_over query tables lists (entries_at plan (length plan.scans + k))) ≤ bound_at plan (length plan.scans + k) = rw (no_leaf k) at fits in
        subst (λ (n : ℕ). length (choices_over query tables lists (entries_at plan (length plan.scans + k))) ≤ n) (node_bound k join is) inner

    over : HoldsOver query tables lists plan
    over = record {
      each_entry = h.is_shaped;
      scans_fit = h.scans;
      nodes_fit = λ k join is.
          subst (λ (n : ℕ). length (choices_over query tables lists (entries_at plan (n + k))) ≤ join.bound) h.is_shaped.scans (node_fits k join is);
    }

pub text_prints : (shape : Shape) (memory : Option ℕ) (query : Query) (tables : Tables) (lists : List (List ℕ)) (plan : BushyPlan)
    → Fits query tables lists shape plan → IsWithinLimit memory (tree_bytes plan) → PrintsPlan shape memory query tables lists (plan_text_of query.from shape plan memory)
text_prints shapes.Order memory query tables lists plan h within =
    let bytes : tree_bytes plan ≡ tree_bytes (tree_of_order (order_of_tree plan)) = ap (λ (t : BushyPlan). tree_bytes t) h.is_shaped.its_tree in
    record {
      plan = order_of_tree plan;
      holds = along query tables lists plan h;
      within = subst (IsWithinLimit memory) bytes within;
      prints = ap (λ (b : ℕ). plan_lines query.from (order_of_tree plan) ++ memory_text memory b) bytes;
    }
text_prints shapes.Tree memory query tables lists plan h within = record {
  plan = plan;
  holds = over query tables lists plan h;
  within = within;
  prints = refl;
}

prints : (task : PlanWork) (query : Query) (rows : List (List Row)) (plan : BushyPlan) → BoundsHold (accepted_query task query rows plan) → IsWithinLimit task.terms.memory (tree_bytes plan)
    → PrintsPlan task.terms.shape task.terms.memory query (tables_in rows) (lists_by task.source query (tables_in rows)) (plan_text (accepted_query task query rows plan))
prints task query rows plan h within =
    text_prints task.terms.shape task.terms.memory query (tables_in rows) (lists_by task.source query (tables_in rows)) plan (record { is_shaped = h.plan; scans = h.scans; parts = h.parts }) within

-- ---- the stages of a run

pub record Stages (schema_file query_file : List ℕ) (task : PlanWork) (files : Files) (outcome : RunOutcome) : Type 0 where
  pub schema : Schema
  pub schema_read : schema_stage schema_file files ≡ Ok schema
  pub query : Query
  pub query_read : query_stage query_file schema files ≡ Ok query
  pub rows : List (List Row)
  pub rows_read : tables_stage schema query.from files ≡ Ok rows
  pub plan : BushyPlan
  pub planned : plan_asked task schema query (tables_in rows) ≡ Ok plan
  pub within : IsWithinLimit task.terms.memory (tree_bytes plan)
  pub is_run : Planned (accepted_query task query rows plan) ≡ outcome

pub stages : (shop : Option ℕ) (schema_file query_file : List ℕ) (task : PlanWork) (files : Files) (outcome : RunOutcome)
    → command_run (over_query shop schema_file query_file (query_tasks.Plan task)) files ≡ Ok outcome → Stages schema_file query_file task files outcome
unfolding command_run plan_stage
stages shop schema_file query_file task files outcome e =
    let first = two_steps (schema_stage schema_file files) (λ schema. schema_task_run (schema_tasks.Query query_file (query_tasks.Plan task)) schema files) outcome e in
    let second = two_steps (query_stage query_file first.0 files) (λ query. query_task_run (query_tasks.Plan task) first.0 query files) outcome first.2 in
    let third = two_steps (tables_stage first.0 second.0.from files) (plan_stage task first.0 second.0) outcome second.2 in
    let last = two_steps (with_refusal plan_refusal (plan_asked task first.0 second.0 (tables_in third.0))) (λ plan. within_limit task.terms.memory (tree_bytes plan) (Planned (accepted_query task second.0 third.0 plan))) outcome third.2 in
    let kept = within_ok task.terms.memory (tree_bytes last.0) (Planned (accepted_query task second.0 third.0 last.0)) outcome last.2 in
    record {
      schema = first.0;
      schema_read = first.1;
      query = second.0;
      query_read = second.1;
      rows = third.0;
      rows_read = third.1;
      plan = last.0;
      planned = ok_without_refusal plan_refusal (plan_asked task first.0 second.0 (tables_in third.0)) last.0 last.1;
      within = kept.1;
      is_run = kept.0;
    }

-- ---- the promise

ok_and : {A E : Type 0} (P : A → Type 0) (r : Result A E) → IsOkAnd r P → (x : A) × (r ≡ Ok x) × P x
ok_and P (Ok x) h = (x, refl, h)
ok_and P (Err e) h = absurd h

if_ok : {A E : Type 0} (P : A → Type 0) (r : Result A E) (x : A) → r ≡ Ok x → IfOk r P → P x
if_ok P r x e h = subst (λ s. IfOk s P) e h

rows_written : (task : PlanWork) (query : Query) (rows : List (List Row)) (plan : BushyPlan) (out : Growth) → task.out ≡ out_texts.Rows
    → GrewWhole out (out_text (Planned (accepted_query task query rows plan))) → Grew out (rows_text (accepted_query task query rows plan))
rows_written task query rows plan out is written = subst (λ (t : OutText). GrewWhole out (text_for t (accepted_query task query rows plan))) is written

module _ (schema_file query_file : List ℕ) (task : PlanWork) (is_run : task.out ≡ out_texts.Rows) (files : Files) (notes out : Growth) where
  ran_whole : (outcome : RunOutcome) → command_run (over_query None schema_file query_file (query_tasks.Plan task)) files ≡ Ok outcome
      → GrewWhole notes (notes_text outcome) → GrewWhole out (out_text outcome) → NoBoundIsTooLow outcome → PrintsTheAnswer outcome
      → RanWhole files schema_file query_file task notes out
  ran_whole outcome e noted written bounds answered =
      let s : Stages schema_file query_file task files outcome = stages None schema_file query_file task files outcome e in
      let back : outcome ≡ Planned (accepted_query task s.query s.rows s.plan) = sym s.is_run in
      record {
        schema = s.schema;
        declares = declares schema_file files s.schema s.schema_read;
        query = s.query;
        asks = asks query_file files s.schema s.query s.query_read;
        tables = tables_in s.rows;
        rows = rows_in_files s.schema s.query files s.rows (query_of_schema query_file files s.schema s.query s.query_read) s.rows_read;
        scans = lists_by task.source s.query (tables_in s.rows);
        are_scans = scans_are s.query (tables_in s.rows) task.source;
        plan_text = plan_text (accepted_query task s.query s.rows s.plan);
        plan = prints task s.query s.rows s.plan (subst NoBoundIsTooLow back bounds) s.within;
        plan_written = subst (λ (o : RunOutcome). GrewWhole notes (notes_text o)) back noted;
        rows_text = rows_text (accepted_query task s.query s.rows s.plan);
        answer = record {
          rows = printed (accepted_query task s.query s.rows s.plan);
          is_answer = subst PrintsTheAnswer back answered;
          prints = refl;
        };
        answer_written = rows_written task s.query s.rows s.plan out is_run (subst (λ (o : RunOutcome). GrewWhole out (out_text o)) back written);
      }

pub keeps_promise : (call : Call) → Headline call → Promise call
unfolding verdict
keeps_promise call h schema_file query_file task files words is_run done told =
    let command : command_of call.words ≡ Some (over_query None schema_file query_file (query_tasks.Plan task)) =
    asked_computed call.words (over_query None schema_file query_file (query_tasks.Plan task)) words in
    let asked : command_stage call.words ≡ Ok (over_query None schema_file query_file (query_tasks.Plan task)) = ap or_usage command in
    let ended = ok_and (λ outcome. GrewWhole call.notes (notes_text outcome) × GrewWhole call.out (out_text outcome)) (verdict call.words files) (h.done_is_exact done files told) in
    let from_ask : command_run (over_query None schema_file query_file (query_tasks.Plan task)) files ≡ Ok ended.0 =
    sym (ap (λ (r : Result Command Refusal). r >>= (λ ask. command_run ask files)) asked) ∙ ended.1 in
    ran_whole schema_file query_file task is_run files call.notes call.out ended.0 from_ask ended.2.0 ended.2.1
    (if_ok NoBoundIsTooLow (verdict call.words files) ended.0 ended.1 (h.every_bound_holds files told))
    (if_ok PrintsTheAnswer (verdict call.words files) ended.0 ended.1 (h.the_rows_are_the_answer files told))
