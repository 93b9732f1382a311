-- The plans that may take memory for their joins.
use Rattle.std.specs.Prelude.{ℕ, ◌≤◌, ◌≢◌}
use Rattle.order_search.specs.Orders.{greatest}
use Rattle.prepared_runs.specs.Limits.{IsWithinLimit}
use Rattle.plans.specs.declared.bushy.BushyPlan.{BushyPlan}
use Rattle.plans.specs.Orders.{order_of_tree}
use Rattle.tree_rows.specs.Memory.{tree_bytes}
use Rattle.safebound_words.specs.declared.command.OutText.TheVariants as out_text
use Rattle.safebound_words.specs.declared.command.PlanWork.{PlanWork}
use Rattle.safebound_words.specs.declared.command.Shape.{Shape}
use Rattle.safebound_words.specs.declared.command.Shape.TheVariants as shapes

-- the cost of a plan: the largest bound of a level of its order, or the cost of its tree
abbrev pub shape_cost : Shape → BushyPlan → ℕ
shape_cost shapes.Order plan = greatest (order_of_tree plan).levels
shape_cost shapes.Tree plan = plan.cost

-- memory may be taken for the joins of a plan. The task asks for rows or their counts, and the plan costs no more than the budget. Its
-- buffers take no more bytes than the limit of memory, if there is one
pub record MayJoin (task : PlanWork) (plan : BushyPlan) : Type 0 where
  pub asked : task.out ≢ out_text.Nothing
  pub affordable : shape_cost task.terms.shape plan ≤ task.terms.budget
  pub within : IsWithinLimit task.terms.memory (tree_bytes plan)
