-- A plan is a join tree, with a bound for each scan and each inner node. The shape of a plan says how it was searched and how it is printed: as an
-- order, or as a tree. The plan of an order is the tree of this order. The parts of a plan are the levels of its order, or the inner nodes of its
-- tree. Each part has a bound and a list of rows. What memory a plan takes, and how rows are joined, is defined for trees alone. Five other files
-- have a case for each shape: Allowed (costs), KeptBuffers (rows of parts), Commands of safebound_words (budgets), Promise of safebound_top (plan
-- texts) and FilePlans of safebound_laws (bounds near those without compression).
use Rattle.std.specs.Prelude.{◌≡◌, ℕ, ◌+◌, ◌-◌, List, length, map, slice_index, Option, Result}
use Rattle.std.specs.List.{range_with_len}
use Rattle.order_search.specs.declared.refusal.PlanError.{PlanError}
use Rattle.plan_answers.specs.PlanAnswer.{plan_answer}
use Rattle.plan_answers.specs.TreeAnswer.{tree_answer}
use Rattle.plans.specs.declared.bushy.BushyPlan.{BushyPlan}
use Rattle.plans.specs.Orders.{order_of_tree, tree_of_order, IsOrderTree}
use Rattle.plans.specs.TreePlans.{IsTreePlan}
use Rattle.tree_rows.specs.Memory.{tree_bytes}
use Rattle.tree_rows.specs.Rooms.{bound_at}
use Rattle.tree_rows.specs.Trees.{entries_at, node_count}
use Rattle.query_types.specs.declared.types.Query.{Query}
use Rattle.query_types.specs.declared.types.Source.{Source}
use Rattle.sql_meaning.specs.Answers.{conjuncts_of}
use Rattle.sql_meaning.specs.Levels.{level}
use Rattle.sql_meaning.specs.Tables.{Tables, row_counts}
use Rattle.join_steps.specs.Lists.{list_levels}
use Rattle.join_steps.specs.Plans.{IsPlanOf}
use Rattle.bushy_join.specs.Trees.{node_rows, rows_over_tables, IsTreePlanOf}
use Rattle.outcomes.specs.Errors.{plan_refusal}
use Rattle.outcomes.specs.Reads.{◌>>=◌, mapped, with_refusal}
use Rattle.outcomes.specs.declared.refusal.Refusal.{Refusal}
use Rattle.printed_texts.specs.Plans.{audit_lines, plan_lines}
use Rattle.printed_texts.specs.TreePlans.{tree_audits, tree_lines}
use Rattle.prepared_runs.specs.Limits.{within_limit}
use Rattle.prepared_runs.specs.Sources.{BoundsAndLists}
use Rattle.safebound_words.specs.declared.command.Shape.{Shape}
use Rattle.safebound_words.specs.declared.command.Shape.TheVariants as shapes

-- ---- the choice of a plan

-- given a bound for each set of entries and for each scan: the best plan, or the reason why no plan is within the budget
abbrev pub answer_of : Shape → List ℕ → List ℕ → ℕ → Result BushyPlan PlanError
answer_of shapes.Order set_bounds scan_bounds budget = mapped (λ plan. tree_of_order plan) (plan_answer set_bounds scan_bounds budget)
answer_of shapes.Tree set_bounds scan_bounds budget = tree_answer set_bounds scan_bounds budget

-- the plan by the bounds that a source gives at an accuracy: the best plan of the shape, or PastBits, or Budget with the least cost
unfoldable pub planned_by : Shape → BoundsAndLists → ℕ → ℕ → Result BushyPlan PlanError
planned_by shape given accuracy budget = answer_of shape (given.sets accuracy) (given.scans accuracy) budget

-- the result of `made` for a plan, or a refusal: the reason why there is no plan, or MemoryLimit with the bytes of the plan
abbrev pub planned_within : {A : Type 0} → Option ℕ → (BushyPlan → A) → Result BushyPlan PlanError → Result A Refusal
planned_within limit made answer = do
  plan ← with_refusal plan_refusal answer
  within_limit limit (tree_bytes plan) (made plan)

-- ---- a plan's entries and bounds

-- the plan is for n entries, and it is a tree of this shape: the tree of an order, or any tree
abbrev pub IsShapedPlan : ℕ → Shape → BushyPlan → Type 0
IsShapedPlan n shapes.Order plan = IsOrderTree n plan
IsShapedPlan n shapes.Tree plan = IsTreePlan n plan

abbrev pub part_count : Shape → BushyPlan → ℕ
part_count shapes.Order plan = length (order_of_tree plan).order
part_count shapes.Tree plan = length plan.joins

abbrev pub part_bound : Shape → BushyPlan → ℕ → ℕ
part_bound shapes.Order plan k = slice_index (order_of_tree plan).levels k
part_bound shapes.Tree plan k = bound_at plan (length plan.scans + k)

-- The entries in the order of the tree's leaves. A choice for all of them has its row numbers in this order. For the tree of an order it is the
-- order itself
abbrev pub joined_entries : BushyPlan → List ℕ
joined_entries plan = entries_at plan (node_count plan - 1)

-- the plan is the tree of an order. No list has more rows than its bound, no level over these lists has more rows than its bound, and no bound is
-- more than joins can take
pub record IsOrderOver (query : Query) (tables : Tables) (lists : List (List ℕ)) (plan : BushyPlan) : Type 0 where
  pub order : IsPlanOf query tables lists (order_of_tree plan)
  pub its_tree : plan ≡ tree_of_order (order_of_tree plan)

-- no list has more rows than its bound, no part over these lists has more rows than its bound, and no bound is above the limits of joins
abbrev pub IsPlanOver : Query → Tables → List (List ℕ) → Shape → BushyPlan → Type 0
IsPlanOver query tables lists shapes.Order plan = IsOrderOver query tables lists plan
IsPlanOver query tables lists shapes.Tree plan = IsTreePlanOf query tables lists plan

-- ---- the rows of a plan's parts

-- The rows of part k over lists. A choice takes one listed row for each entry of the part. The rows are the choices that satisfy every conjunct which
-- names only these entries
abbrev pub part_rows : Query → Tables → List (List ℕ) → Shape → BushyPlan → ℕ → List (List ℕ)
part_rows query tables lists shapes.Order plan k = list_levels query tables lists (order_of_tree plan).order (k + 1)
part_rows query tables lists shapes.Tree plan k = node_rows query tables lists plan (length plan.scans + k)

-- the rows of part k over complete tables
abbrev pub parts_over_tables : Query → Tables → Shape → BushyPlan → ℕ → List (List ℕ)
parts_over_tables query tables shapes.Order plan k = level (conjuncts_of query tables) (row_counts tables) (order_of_tree plan).order (k + 1)
parts_over_tables query tables shapes.Tree plan k = rows_over_tables query tables plan (length plan.scans + k)

-- how many rows each part has over lists
abbrev pub part_sizes : Query → Tables → List (List ℕ) → Shape → BushyPlan → List ℕ
part_sizes query tables lists shape plan = map (λ k. length (part_rows query tables lists shape plan k)) (range_with_len 0 (part_count shape plan))

-- ---- the texts of a plan

-- the plan's text: a line for each scan with its bound, and then a line for each part with its bound
abbrev pub shape_lines : List Source → Shape → BushyPlan → List ℕ
shape_lines sources shapes.Order plan = plan_lines sources (order_of_tree plan)
shape_lines sources shapes.Tree plan = tree_lines sources plan

-- the audit's text: a line for each part with its bound and its number of rows (from `counts`)
abbrev pub shape_audits : List Source → Shape → BushyPlan → List ℕ → List ℕ
shape_audits sources shapes.Order plan counts = audit_lines sources (order_of_tree plan) counts
shape_audits sources shapes.Tree plan counts = tree_audits plan counts
