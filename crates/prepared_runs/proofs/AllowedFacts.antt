-- Each plan that is made costs no more than the budget.
use Rattle.std.proofs.Common.{◌≡◌, ℕ, ◌≤◌, List, Result, Ok, length, ap, ◌∙◌, subst, arith}
use Rattle.order_search.specs.Orders.{cost, greatest}
use Rattle.order_search.specs.declared.refusal.PlanError.{PlanError}
use Rattle.plans.specs.declared.left_deep.Plan.{Plan}
use Rattle.plan_answers.specs.PlanAnswer.{plan_answer}
use Rattle.plan_answers.specs.Promised.{IsPromised}
use Rattle.plan_answers.proofs.OneAnswer.{is_promised}
use Rattle.plans.specs.declared.bushy.BushyPlan.{BushyPlan}
use Rattle.plans.specs.Orders.{order_of_tree, tree_of_order}
use Rattle.plan_answers.specs.PromisedTrees as trees
use Rattle.plan_answers.proofs.OneTreeAnswer as tree_choice
use Rattle.prepared_runs.specs.Allowed.{shape_cost}
use Rattle.prepared_runs.specs.Shapes.{answer_of, planned_by}
use Rattle.prepared_runs.specs.Sources.{BoundsAndLists}
use Rattle.prepared_runs.specs.Standing.{BoundSingles}
use Rattle.safebound_words.specs.declared.command.Shape.{Shape}
use Rattle.safebound_words.specs.declared.command.Shape.TheVariants as shapes
use Rattle.prepared_runs.proofs.ShapeFacts.{its_tree, mapped_ok}
use Rattle.prepared_runs.proofs.Singles.{read_back}

module _ (n : ℕ) (sets scans : List ℕ) (budget : ℕ) (one_each : length scans ≡ n) (some : 1 ≤ n) (few : n ≤ 12) (singles : BoundSingles n sets scans) where
  order_costs : (plan : Plan) → plan_answer sets scans budget ≡ Ok plan → greatest (order_of_tree (tree_of_order plan)).levels ≤ budget
  order_costs plan made =
      let P : Result Plan PlanError → Type 0 = IsPromised sets scans budget in
      let its = subst P made (is_promised sets scans budget) in
      let costs : greatest (order_of_tree (tree_of_order plan)).levels ≡ cost sets plan.order =
      ap (λ (p : Plan). greatest p.levels) (read_back n sets scans budget one_each some few singles plan made) ∙ ap greatest its.levels in
      omega (arith, costs, its.within)

  answer_costs : (shape : Shape) (plan : BushyPlan) → answer_of shape sets scans budget ≡ Ok plan → shape_cost shape plan ≤ budget
  answer_costs shapes.Order plan made =
      let it = mapped_ok its_tree (plan_answer sets scans budget) plan made in subst (λ (p : BushyPlan). shape_cost shapes.Order p ≤ budget) it.2 (order_costs it.0 it.1)
  answer_costs shapes.Tree plan made =
      let P : Result BushyPlan PlanError → Type 0 = trees.IsPromised sets scans budget in
      (subst P made (tree_choice.is_promised sets scans budget (omega (arith, some, one_each)) (omega (arith, few, one_each)))).within

pub plan_costs : (n : ℕ) (given : BoundsAndLists) (accuracy budget : ℕ) → length (given.scans accuracy) ≡ n → 1 ≤ n → n ≤ 12 → BoundSingles n (given.sets accuracy) (given.scans accuracy)
    → (shape : Shape) (plan : BushyPlan) → planned_by shape given accuracy budget ≡ Ok plan → shape_cost shape plan ≤ budget
unfolding planned_by
plan_costs n given accuracy budget one_each some few singles shape plan made =
    answer_costs n (given.sets accuracy) (given.scans accuracy) budget one_each some few singles shape plan made
