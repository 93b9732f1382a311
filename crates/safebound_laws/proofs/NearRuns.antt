-- The bounds that a run over whole columns prints are near the bounds without compression.
use Rattle.std.proofs.Common.{◌≡◌, ℕ, ◌≤◌, List, Option, Result, Ok, length, ap, sym, ◌∙◌, subst, arith}
use Rattle.base_io.specs.Files.{Files}
use Rattle.plans.specs.declared.left_deep.Plan.{Plan}
use Rattle.plan_answers.specs.PlanAnswer.{plan_answer}
use Rattle.plan_nearness.specs.Nearness.{FiltersNoEntry, LevelsAreNear, NodesAreNear}
use Rattle.plan_nearness.proofs.LevelsNear.{levels_near}
use Rattle.plan_nearness.proofs.NodesNear.{nodes_near}
use Rattle.planning.specs.Bounds.{scan_bounds_of, set_bounds_of}
use Rattle.planning.specs.Plans.{planned}
use Rattle.planning.proofs.NeverUnder.{scans_are_bounded}
use Rattle.gathered_stats.specs.Statistics.{statistics_of}
use Rattle.plan_answers.specs.TreeAnswer.{tree_answer}
use Rattle.plans.specs.Orders.{order_of_tree}
use Rattle.plans.specs.declared.bushy.BushyPlan.{BushyPlan}
use Rattle.schema_types.specs.declared.types.Schema.{Schema}
use Rattle.query_types.specs.Validity.{IsQueryOf}
use Rattle.query_types.specs.declared.types.Query.{Query}
use Rattle.sql_meaning.specs.Tables.{Tables}
use Rattle.outcomes.specs.Reads.{◌>>=◌}
use Rattle.outcomes.specs.declared.refusal.Refusal.{Refusal}
use Rattle.table_files.specs.EntryTables.{tables_in}
use Rattle.prepared_runs.specs.AcceptedQuery.{AcceptedQuery, tables}
use Rattle.safebound_words.specs.Commands.{over_query}
use Rattle.safebound_words.specs.declared.command.Command.{Command}
use Rattle.safebound_words.specs.declared.command.QueryTask.TheVariants as query_tasks
use Rattle.prepared_runs.specs.RunOutcome.{Planned}
use Rattle.prepared_runs.specs.Shapes.{planned_by}
use Rattle.prepared_runs.specs.Sources.{sets_by, scans_by, bounds_and_lists_by}
use Rattle.prepared_runs.specs.Verdict.{command_run, command_stage, accepted_query, verdict}
use Rattle.prepared_runs.proofs.ShapeFacts.{its_tree, mapped_ok}
use Rattle.prepared_runs.proofs.Singles.{read_back, statistics_singles}
use Rattle.safebound_words.specs.declared.command.ListSource.{ListSource}
use Rattle.safebound_words.specs.declared.command.ListSource.TheVariants as sources
use Rattle.safebound_words.specs.declared.command.PlanWork.{PlanWork}
use Rattle.safebound_words.specs.declared.command.Shape.{Shape}
use Rattle.safebound_words.specs.declared.command.Shape.TheVariants as shapes
use Rattle.safebound_top.proofs.Promises.{Stages, query_of_schema, stages}
use Rattle.safebound_laws.specs.FilePlans.{PartsAreNear}

-- the order whose tree the plan is, and that it is read from the tree
order_planned : (schema : Schema) (query : Query) (ts : Tables) (accuracy budget : ℕ) (plan : BushyPlan) → 1 ≤ length query.from → length query.from ≤ 12
    → planned_by shapes.Order (bounds_and_lists_by sources.Columns schema query ts) accuracy budget ≡ Ok plan
    → (order : Plan) × (planned query ts accuracy budget ≡ Ok order) × (order ≡ order_of_tree plan)
unfolding planned_by sets_by scans_by planned
order_planned schema query ts accuracy budget plan some few made =
    let sets : List ℕ = set_bounds_of query ts accuracy in
    let scans : List ℕ = scan_bounds_of query ts accuracy in
    let it = mapped_ok its_tree (plan_answer sets scans budget) plan made in (
      it.0,
      it.1,
      sym (read_back (length query.from) sets scans budget (scans_are_bounded query ts accuracy).one_each some few (statistics_singles query (statistics_of ts accuracy)) it.0 it.1)
          ∙ ap (λ (t : BushyPlan). order_of_tree t) it.2,
    )

tree_planned : (schema : Schema) (query : Query) (ts : Tables) (accuracy budget : ℕ) (plan : BushyPlan)
    → planned_by shapes.Tree (bounds_and_lists_by sources.Columns schema query ts) accuracy budget ≡ Ok plan
    → tree_answer (set_bounds_of query ts accuracy) (scan_bounds_of query ts accuracy) budget ≡ Ok plan
unfolding planned_by sets_by scans_by
tree_planned schema query ts accuracy budget plan e = e

-- ---- the bounds of a plan of either shape

pub parts_near : (shape : Shape) (schema : Schema) (query : Query) (ts : Tables) (accuracy budget : ℕ) (plan : BushyPlan) → FiltersNoEntry query → IsQueryOf schema query
    → planned_by shape (bounds_and_lists_by sources.Columns schema query ts) accuracy budget ≡ Ok plan → PartsAreNear query ts accuracy shape plan
parts_near shapes.Order schema query ts accuracy budget plan none of made =
    let it = order_planned schema query ts accuracy budget plan (omega (arith, of.has_entries)) of.entries_within_limit made in
    subst (LevelsAreNear query ts accuracy) it.2 (levels_near query ts accuracy budget it.0 none of.entries_within_limit it.1)
parts_near shapes.Tree schema query ts accuracy budget plan none of made =
    nodes_near query ts accuracy budget plan none (omega (arith, of.has_entries)) of.entries_within_limit (tree_planned schema query ts accuracy budget plan made)

-- ---- the bounds of an accepted run

module _ (schema_file query_file : List ℕ) (task : PlanWork) (files : Files) (run : AcceptedQuery) (s : Stages schema_file query_file task files (Planned run))
    (source : run.source ≡ sources.Columns) (none : FiltersNoEntry run.query) where
  same_run : accepted_query task s.query s.rows s.plan ≡ run
  same_run = cc (s.is_run)

  of : IsQueryOf s.schema s.query
  of = query_of_schema query_file files s.schema s.query s.query_read

  its_own : FiltersNoEntry s.query
  its_own = subst (λ (r : AcceptedQuery). FiltersNoEntry r.query) (sym same_run) none

  its_source : task.source ≡ sources.Columns
  its_source = ap (λ (r : AcceptedQuery). r.source) same_run ∙ source

  made : planned_by task.terms.shape (bounds_and_lists_by sources.Columns s.schema s.query (tables_in s.rows)) task.accuracy task.terms.budget ≡ Ok s.plan
  made =
      ap (λ (from : ListSource). planned_by task.terms.shape (bounds_and_lists_by from s.schema s.query (tables_in s.rows)) task.accuracy task.terms.budget) (sym its_source)
      ∙ s.planned

  parts : PartsAreNear run.query (tables run) task.accuracy run.shape run.plan
  parts =
      subst (λ (r : AcceptedQuery). PartsAreNear r.query (tables r) task.accuracy r.shape r.plan) same_run
      (parts_near task.terms.shape s.schema s.query (tables_in s.rows) task.accuracy task.terms.budget s.plan its_own of made)

  pub run_levels : run.shape ≡ shapes.Order → LevelsAreNear run.query (tables run) task.accuracy (order_of_tree run.plan)
  run_levels is = subst (λ (shape : Shape). PartsAreNear run.query (tables run) task.accuracy shape run.plan) is parts

  pub run_nodes : run.shape ≡ shapes.Tree → NodesAreNear run.query (tables run) task.accuracy run.plan
  run_nodes is = subst (λ (shape : Shape). PartsAreNear run.query (tables run) task.accuracy shape run.plan) is parts

pub stages_of : (words : List (List ℕ)) (files : Files) (shop : Option ℕ) (schema query : List ℕ) (task : PlanWork) (run : AcceptedQuery)
    → command_stage words ≡ Ok (over_query shop schema query (query_tasks.Plan task)) → verdict words files ≡ Ok (Planned run) → Stages schema query task files (Planned run)
unfolding verdict
stages_of words files shop schema query task run asked is =
    stages shop schema query task files (Planned run) (sym (ap (λ (r : Result Command Refusal). r >>= (λ a. command_run a files)) asked) ∙ is)
