-- The joins that the search finds are a plan, together with the scans. If the best tree's cost is within the budget, the bounds of its joins are too.
-- No order costs less than the plan.
use Rattle.std.proofs.Common.{◌≡◌, ℕ, ◌+◌, ◌<◌, ◌≤◌, List, length, ap, sym, ◌∙◌, subst, arith}
use Rattle.std.specs.List.{AllByRecursion, count_by}
use Rattle.std.specs.Prelude.{◌==◌}
use Rattle.std.proofs.lemmas.Nat.{pow_pos}
use Rattle.limits.specs.Profile.{most_entries}
use Rattle.plans.specs.TreePlans.{HaveHigherNumbers, IsTreePlan, joined_nodes}
use Rattle.plans.specs.declared.bushy.BushyPlan.{BushyPlan}
use Rattle.plans.specs.declared.bushy.Join.{Join}
use Rattle.order_search.specs.Orders.{cost as left_deep_cost}
use Rattle.plans.specs.LeftDeep.{IsOrder}
use Rattle.bushy_plan.specs.BestTree.{AreOfBest, full_set}
use Rattle.bushy_plan.proofs.Costs.{greatest_at_most_cost}
use Rattle.bushy_plan.proofs.Found.{some_of_all}
use Rattle.bushy_plan.proofs.LeftDeep.{no_dearer}
use Rattle.bushy_plan.proofs.Numbering.{have_higher_numbers, bounds_at_most, count_of_all, length-joins_from, named_once}

-- a tree has one inner node fewer than entries
pub joins_counted : (bounds : List ℕ) (n cheapest : ℕ) (joins : List Join) → AreOfBest bounds n cheapest joins → length joins + 1 ≡ n
joins_counted bounds n cheapest joins best =
    omega (arith, ap (length {A = Join}) best.are_its, length-joins_from bounds n best.tree, count_of_all n best.tree best.is_best.is_tree)

pub plan_from : (bounds : List ℕ) (scans : List ℕ) (plan : BushyPlan) → length scans ≤ most_entries → plan.scans ≡ scans
    → AreOfBest bounds (length scans) plan.cost plan.joins → IsTreePlan (length scans) plan
plan_from bounds scans plan few same best = record {
  few = few;
  scans = ap length same;
  joins = joins_counted bounds (length scans) plan.cost plan.joins best;
  behind = subst (λ (joins : List Join). HaveHigherNumbers (length scans) joins) (sym best.are_its)
      (have_higher_numbers bounds (length scans) (full_set (length scans)) (length scans) best.tree (omega (arith, pow_pos (length scans))) (omega arith) best.is_best.is_tree);
  once = λ node below. ap (λ (joins : List Join). count_by (λ (other : ℕ). other == node) (joined_nodes joins)) best.are_its
      ∙ named_once bounds (length scans) node best.tree best.is_best.is_tree below;
}

pub joins_within : (bounds : List ℕ) (n cheapest most : ℕ) (joins : List Join) → AreOfBest bounds n cheapest joins → cheapest ≤ most
    → AllByRecursion (λ join. join.bound ≤ most) joins
joins_within bounds n cheapest most joins best within =
    subst (λ (joins : List Join). AllByRecursion (λ join. join.bound ≤ most) joins) (sym best.are_its)
    (bounds_at_most bounds n most best.tree (omega (arith, greatest_at_most_cost bounds best.tree, best.is_its)))

pub best_not_dearer : (bounds : List ℕ) (n cheapest : ℕ) (joins : List Join) → 0 < n → AreOfBest bounds n cheapest joins → (order : List ℕ) → IsOrder n order → cheapest ≤ left_deep_cost bounds order
best_not_dearer bounds n cheapest joins some best order is_order =
    no_dearer bounds n cheapest (some_of_all n some) (λ other is_tree. omega (arith, best.is_its, best.is_best.none_cheaper other is_tree)) order is_order
