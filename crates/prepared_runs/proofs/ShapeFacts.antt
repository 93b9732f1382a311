-- A plan of a shape, made from a source's bounds: its bounds hold, and it joins each entry once.
use Rattle.std.proofs.Common.{◌≡◌, ℕ, ◌+◌, ◌-◌, ◌<◌, ◌≤◌, List, Result, Ok, Err, length, get_or, refl, ap, sym, ◌∙◌, subst, arith}
use Rattle.std.specs.Prelude.{◌≢◌}
use Rattle.limits.specs.Profile.{most_rows}
use Rattle.csv_tables.specs.declared.types.Database.{Database}
use Rattle.plans.specs.declared.left_deep.Plan.{Plan}
use Rattle.order_search.specs.declared.refusal.PlanError.{PlanError}
use Rattle.order_search.specs.declared.refusal.PlanError.TheVariants as error
use Rattle.plan_answers.specs.PlanAnswer.{plan_answer}
use Rattle.plan_answers.specs.Promised.{IsPromised as IsOrderPromised}
use Rattle.plan_answers.proofs.OneAnswer as orders
use Rattle.plan_answers.specs.PromisedTrees.{IsPromised}
use Rattle.plan_answers.specs.TreeAnswer.{tree_answer}
use Rattle.plan_answers.proofs.OneTreeAnswer as trees
use Rattle.plans.specs.Orders.{order_of_tree, tree_of_order, IsOrderTree}
use Rattle.plans.specs.TreePlans.{IsTreePlan}
use Rattle.plans.specs.declared.bushy.BushyPlan.{BushyPlan}
use Rattle.plans.proofs.Reading.{order_tree_is_plan, tree_is_kept}
use Rattle.tree_rows.specs.Trees.{node_count}
use Rattle.tree_rows.proofs.AllEntries.{root_all}
use Rattle.tree_rows.proofs.Once.{plan_once}
use Rattle.query_types.specs.declared.types.Query.{Query}
use Rattle.sql_meaning.specs.Answers.{entries_of}
use Rattle.sql_meaning.specs.Databases.{IsDatabaseOf}
use Rattle.sql_meaning.specs.Tables.{Tables, row_counts, tables_of}
use Rattle.join_steps.specs.Lists.{listed_row_count, scans_of, IsOrderOf}
use Rattle.join_steps.specs.Plans.{IsPlanOf}
use Rattle.bushy_join.specs.Trees.{IsTreePlanOf}
use Rattle.bushy_join.proofs.OrderRows.{order_planned}
use Rattle.bushy_join.proofs.Scans.{rows_over_whole_scans}
use Rattle.level_bounds.specs.Orders.{IsOrderOfSet}
use Rattle.level_bounds.proofs.SetNumbers.{order_of_all}
use Rattle.outcomes.specs.Reads.{mapped}
use Rattle.planning.specs.declared.known.QueryBounds.{QueryBounds}
use Rattle.planning.specs.HasBounds.{HasBounds}
use Rattle.planning.specs.Standing.{BoundLevels}
use Rattle.planning.proofs.FromLists.{is_plan_from, plan_over_lists}
use Rattle.planning.proofs.ReducedPlans.{levels_of_scans}
use Rattle.bushy_planning.proofs.ChosenTrees as stages
use Rattle.prepared_runs.specs.Shapes.{IsOrderOver, IsPlanOver, IsShapedPlan, answer_of, joined_entries, part_bound, part_count, part_rows, planned_by, parts_over_tables}
use Rattle.safebound_words.specs.Commands.{most_budget_of}
use Rattle.prepared_runs.specs.Sources.{BoundsAndLists}
use Rattle.prepared_runs.specs.Standing.{IsSource}
use Rattle.safebound_words.specs.declared.command.Shape.{Shape}
use Rattle.safebound_words.specs.declared.command.Shape.TheVariants as shapes
use Rattle.prepared_runs.proofs.Singles.{read_back}

-- no table of the first n entries has more rows than a table may have
abbrev pub HaveFewRows : Tables → ℕ → Type 0
HaveFewRows tables n = (entry : ℕ) → entry < n → row_counts tables entry ≤ most_rows

-- ---- an answer whose value was changed by a function

pub mapped_ok : {A B E : Type 0} (f : A → B) (r : Result A E) (y : B) → mapped f r ≡ Ok y → (x : A) × (r ≡ Ok x) × (f x ≡ y)
mapped_ok f (Ok x) y is = (x, refl, cc)
mapped_ok f (Err e) y is = absurd (cc)

mapped_never_err : {A B E : Type 0} (f : A → B) (r : Result A E) (e : E) → r ≢ Err e → mapped f r ≢ Err e
mapped_never_err f (Ok x) e never is = cc
mapped_never_err f (Err other) e never is = let same : other ≡ e = cc in never (ap (λ (x : _). Err x) same)

abbrev pub its_tree : Plan → BushyPlan
its_tree plan = tree_of_order plan

pub answer_never_wants_memory : (shape : Shape) (sets scans : List ℕ) (budget : ℕ) → answer_of shape sets scans budget ≢ Err error.NoMemory
answer_never_wants_memory shapes.Order sets scans budget = mapped_never_err its_tree (plan_answer sets scans budget) error.NoMemory (orders.never_out_of_memory sets scans budget)
answer_never_wants_memory shapes.Tree sets scans budget = trees.never_out_of_memory sets scans budget

pub never_wants_memory : (shape : Shape) (given : BoundsAndLists) (accuracy budget : ℕ) → planned_by shape given accuracy budget ≢ Err error.NoMemory
unfolding planned_by
never_wants_memory shape given accuracy budget = answer_never_wants_memory shape (given.sets accuracy) (given.scans accuracy) budget

pub planned_known : (shape : Shape) (given : BoundsAndLists) (accuracy budget : ℕ) (known : QueryBounds) → HasBounds (given.sets accuracy) (given.scans accuracy) known
    → answer_of shape known.sets known.scans budget ≡ planned_by shape given accuracy budget
unfolding planned_by
planned_known shape given accuracy budget known gives =
    ap (λ (s : List ℕ). answer_of shape s known.scans budget) gives.sets ∙ ap (λ (s : List ℕ). answer_of shape (given.sets accuracy) s budget) gives.scans

tree_promised : (sets scans : List ℕ) (budget : ℕ) → 1 ≤ length scans → length scans ≤ 12 → (plan : BushyPlan) → tree_answer sets scans budget ≡ Ok plan → IsPromised sets scans budget (Ok plan)
tree_promised sets scans budget some few plan made = let P : Result BushyPlan PlanError → Type 0 = IsPromised sets scans budget in subst P made (trees.is_promised sets scans budget some few)

-- a plan has as many entries as there are bounds of scans
pub answer_is_plan : (shape : Shape) (sets scans : List ℕ) (n budget : ℕ) → length scans ≡ n → 1 ≤ n → n ≤ 12 → (plan : BushyPlan)
    → answer_of shape sets scans budget ≡ Ok plan → IsShapedPlan n shape plan
answer_is_plan shapes.Order sets scans n budget one_each not_empty at_most_12 plan made =
    let it = mapped_ok its_tree (plan_answer sets scans budget) plan made in
    subst (IsOrderTree n) it.2 (tree_is_kept n it.0 not_empty (is_plan_from sets scans n budget one_each it.0 it.1))
answer_is_plan shapes.Tree sets scans n budget one_each not_empty at_most_12 plan made =
    subst (λ (m : ℕ). IsTreePlan m plan) one_each (tree_promised sets scans budget (omega (arith, not_empty, one_each)) (omega (arith, at_most_12, one_each)) plan made).plan

-- a plan's scan bounds are those that it was made from
pub answer_scans : (shape : Shape) (sets scans : List ℕ) (budget : ℕ) → 1 ≤ length scans → length scans ≤ 12 → (plan : BushyPlan) → answer_of shape sets scans budget ≡ Ok plan → plan.scans ≡ scans
answer_scans shapes.Order sets scans budget not_empty at_most_12 plan made =
    let it = mapped_ok its_tree (plan_answer sets scans budget) plan made in
    let P : Result Plan PlanError → Type 0 = IsOrderPromised sets scans budget in
    ap (λ (p : BushyPlan). p.scans) (sym it.2) ∙ (subst P it.1 (orders.is_promised sets scans budget)).scans_kept
answer_scans shapes.Tree sets scans budget not_empty at_most_12 plan made = (tree_promised sets scans budget not_empty at_most_12 plan made).scans_kept

pub scans_given : (n : ℕ) (given : BoundsAndLists) (accuracy budget : ℕ) → length (given.scans accuracy) ≡ n → 1 ≤ n → n ≤ 12
    → (shape : Shape) (plan : BushyPlan) → planned_by shape given accuracy budget ≡ Ok plan → plan.scans ≡ given.scans accuracy
unfolding planned_by
scans_given n given accuracy budget one_each not_empty at_most_12 shape plan made =
    answer_scans shape (given.sets accuracy) (given.scans accuracy) budget (omega (arith, not_empty, one_each)) (omega (arith, at_most_12, one_each)) plan made

-- a plan of either shape is a plan over a join tree
pub shaped_is_tree : (n : ℕ) (shape : Shape) (plan : BushyPlan) → 1 ≤ n → n ≤ 12 → IsShapedPlan n shape plan → IsTreePlan n plan
shaped_is_tree n shapes.Order plan not_empty at_most_12 is = order_tree_is_plan n plan not_empty at_most_12 is
shaped_is_tree n shapes.Tree plan not_empty at_most_12 is = is

pub is_plan_of_its_scans : (n : ℕ) (plan : BushyPlan) → IsTreePlan n plan → IsTreePlan (length plan.scans) plan
is_plan_of_its_scans n plan is = subst (λ (m : ℕ). IsTreePlan m plan) (sym is.scans) is

-- ---- a plan by the bounds that a source gives

pub record Fits (query : Query) (tables : Tables) (lists : List (List ℕ)) (shape : Shape) (plan : BushyPlan) : Type 0 where
  pub is_shaped : IsShapedPlan (length query.from) shape plan
  pub scans : (entry : ℕ) → entry < length query.from → listed_row_count lists entry ≤ get_or plan.scans entry 0
  pub parts : (k : ℕ) → k < part_count shape plan → length (part_rows query tables lists shape plan k) ≤ part_bound shape plan k

-- each plan over the lists fits them
pub plan_over_fits : (query : Query) (tables : Tables) (lists : List (List ℕ)) (shape : Shape) (plan : BushyPlan) → IsPlanOver query tables lists shape plan → Fits query tables lists shape plan
plan_over_fits query tables lists shapes.Order plan over = record {
  is_shaped = record { order = over.order.for_each_entry; its_tree = over.its_tree };
  scans = over.order.scans;
  parts = λ k in_range. over.order.levels k (omega (arith, in_range, over.order.for_each_entry.order.all));
}
plan_over_fits query tables lists shapes.Tree plan over = record {
  is_shaped = over.for_each_entry;
  scans = over.scans;
  parts = λ k in_range. over.nodes (length plan.scans + k) (omega arith);
}

module _ (query : Query) (tables : Tables) (given : BoundsAndLists) (is : IsSource query tables given) (accuracy budget : ℕ) (not_empty : 1 ≤ length query.from) (at_most_12 : length query.from ≤ 12) where
  abbrev sets : List ℕ
  sets = given.sets accuracy

  abbrev scans : List ℕ
  scans = given.scans accuracy

  levels : BoundLevels query tables given.lists sets
  levels = is.of_sets accuracy

  tree_reads_back : (plan : Plan) → plan_answer sets scans budget ≡ Ok plan → order_of_tree (tree_of_order plan) ≡ plan
  tree_reads_back plan made = read_back (length query.from) sets scans budget (is.of_scans accuracy).one_each not_empty at_most_12 (is.of_single accuracy) plan made

  order_over : (plan : Plan) → budget ≤ 20000000 → plan_answer sets scans budget ≡ Ok plan → IsOrderOver query tables given.lists (tree_of_order plan)
  order_over plan small made = record {
    order = subst (IsPlanOf query tables given.lists) (sym (tree_reads_back plan made)) (plan_over_lists query tables given.lists sets scans levels (is.of_scans accuracy) budget plan at_most_12 small made);
    its_tree = sym (ap its_tree (tree_reads_back plan made));
  }

  tree_fits : (plan : BushyPlan) → budget ≤ 4000000 → tree_answer sets scans budget ≡ Ok plan → Fits query tables given.lists shapes.Tree plan
  tree_fits plan small made = record {
    is_shaped = stages.is_plan query tables given.lists sets scans budget plan (is.of_scans accuracy) not_empty at_most_12 made;
    scans = λ entry in_range. omega (
      arith,
      ap (λ (s : List ℕ). get_or s entry 0) (stages.scans_kept query tables given.lists sets scans budget plan (is.of_scans accuracy) not_empty at_most_12 made),
      (is.of_scans accuracy).fit entry in_range,
    );
    parts = λ k in_range. stages.nodes_fit query tables given.lists sets scans budget plan (is.of_scans accuracy) not_empty at_most_12 made levels small (length plan.scans + k) (omega arith);
  }

  answer_fits : (shape : Shape) (plan : BushyPlan) → budget ≤ most_budget_of shape → answer_of shape sets scans budget ≡ Ok plan → Fits query tables given.lists shape plan
  answer_fits shapes.Order plan small made =
      let it = mapped_ok its_tree (plan_answer sets scans budget) plan made in
      subst (Fits query tables given.lists shapes.Order) it.2 (plan_over_fits query tables given.lists shapes.Order (tree_of_order it.0) (order_over it.0 small it.1))
  answer_fits shapes.Tree plan small made = tree_fits plan small made

  pub answer_over : (shape : Shape) (plan : BushyPlan) → budget ≤ most_budget_of shape → HaveFewRows tables (length query.from) → answer_of shape sets scans budget ≡ Ok plan
      → IsPlanOver query tables given.lists shape plan
  answer_over shapes.Order plan small rows made =
      let it = mapped_ok its_tree (plan_answer sets scans budget) plan made in subst (IsOrderOver query tables given.lists) it.2 (order_over it.0 small it.1)
  answer_over shapes.Tree plan small rows made =
      stages.over_lists query tables given.lists sets scans budget plan (is.of_scans accuracy) not_empty at_most_12 made levels small rows

  module _ (shape : Shape) (plan : BushyPlan) (is_made : planned_by shape given accuracy budget ≡ Ok plan) where
    pub plan_fits : budget ≤ most_budget_of shape → Fits query tables given.lists shape plan
    unfolding planned_by
    plan_fits small = answer_fits shape plan small is_made

    pub plan_over : budget ≤ most_budget_of shape → HaveFewRows tables (length query.from) → IsPlanOver query tables given.lists shape plan
    unfolding planned_by
    plan_over small rows = answer_over shape plan small rows is_made

    pub scans_are_given : plan.scans ≡ scans
    scans_are_given = scans_given (length query.from) given accuracy budget (is.of_scans accuracy).one_each not_empty at_most_12 shape plan is_made

-- ---- the entries that a plan joins: each entry once

pub order_is : (query : Query) (plan : BushyPlan) → IsTreePlan (length query.from) plan → IsOrderOfSet (entries_of query) (joined_entries plan)
order_is query plan is =
    let n : ℕ = length query.from in
    let once = plan_once n plan (node_count plan - 1) is (omega (arith, is.scans, is.joins)) in
    order_of_all n (joined_entries plan) once.1 once.0 (root_all n plan is)

pub order_of : (query : Query) (plan : BushyPlan) → IsTreePlan (length query.from) plan → IsOrderOf query (joined_entries plan)
order_of query plan is =
    let n : ℕ = length query.from in
    let once = plan_once n plan (node_count plan - 1) is (omega (arith, is.scans, is.joins)) in
    record { entries = once.1; once = once.0; all = root_all n plan is }

-- ---- over complete scans, a part of a plan has the same rows as over complete tables

pub part_over_tables : (query : Query) (tables : Tables) (shape : Shape) (plan : BushyPlan) → IsShapedPlan (length query.from) shape plan → (k : ℕ) → k < part_count shape plan
    → part_rows query tables (scans_of query tables) shape plan k ≡ parts_over_tables query tables shape plan k
part_over_tables query tables shapes.Order plan is k in_range =
    let its = is.order.order in levels_of_scans query tables (order_of_tree plan).order (k + 1) (order_of_all (length query.from) (order_of_tree plan).order its.entries its.once its.all)
part_over_tables query tables shapes.Tree plan is k in_range = rows_over_whole_scans query tables plan (length plan.scans + k) is (omega arith)

-- ---- the joins of a plan

pub tree_over : (query : Query) (db : Database) (lists : List (List ℕ)) (shape : Shape) (plan : BushyPlan) → IsDatabaseOf query db → IsPlanOver query (tables_of db) lists shape plan
    → IsTreePlanOf query (tables_of db) lists plan
tree_over query db lists shapes.Order plan database over =
    subst (IsTreePlanOf query (tables_of db) lists) (sym over.its_tree)
    (order_planned query (tables_of db) lists (order_of_tree plan) database.some database.few over.order.for_each_entry over.order database.rows_within_limit)
tree_over query db lists shapes.Tree plan database over = over
