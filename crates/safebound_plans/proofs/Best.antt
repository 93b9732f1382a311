-- The searches compute with bounds of 128 bits. What they promise is carried over to the caller's bounds of 64 bits.
use Rattle.std.proofs.Common.{◌≡◌, ℕ, ◌+◌, ◌<◌, ◌≤◌, ◌^◌, List, map, length, get_or, ap, sym, ◌∙◌, subst, arith}
use Rattle.order_search.specs.Causes.{IsCause}
use Rattle.order_search.specs.Orders.{IsBest, cost, levels as levels_of}
use Rattle.order_search.specs.declared.refusal.PlanError.{PlanError}
use Rattle.order_search.specs.declared.refusal.PlanError.TheVariants as plan_error
use Rattle.plans.specs.declared.bushy.Join.{Join}
use Rattle.bushy_plan.specs.BestTree.{AreOfBest, IsBest as IsBestOver, cost as tree_cost}
use Rattle.bushy_plan.specs.Causes.{IsCause as IsTreeCauseOver}
use Rattle.bushy_plan.specs.PlanTrees.{joins_from}
use Rattle.safebound_lists.specs.Written.{RoomBeginsWith}
use Rattle.safebound_plans.specs.declared.ordering.Level.{Level}
use Rattle.safebound_plans.specs.declared.shaping.JoinNode.{JoinNode}
use Rattle.safebound_plans.specs.Given.{MayPlan}
use Rattle.safebound_plans.specs.Orders.{AreLevels, IsBestOrder}
use Rattle.safebound_plans.specs.Trees.{IsBestTree, node_of}
use Rattle.safebound_plans.specs.Bits.{all_in_128_bits}
use Rattle.safebound_plans.proofs.Costs.{order_cost_fits_64, tree_cost_fits_64}

module _ (bounds wide : List ℕ) (n scans budget : ℕ) (wide_is_bounds : wide ≡ all_in_128_bits bounds) (count : scans ≡ n) where
  -- ---- orders

  pub best_order : (order levels : List ℕ) (old new : List Level) → MayPlan bounds n budget → IsBest wide scans order → cost wide order ≤ budget
      → levels ≡ levels_of wide order → AreLevels order levels old new → IsBestOrder bounds budget old new n
  best_order order levels old new may best within told written = record {
    given = may;
    order = order;
    best = subst (λ (s : List ℕ). IsBest s n order) wide_is_bounds (subst (λ k. IsBest wide k order) count best);
    within = subst (λ (s : List ℕ). cost s order ≤ budget) wide_is_bounds within;
    counted = best.is_order.all ∙ count;
    written = subst (λ (s : List ℕ). AreLevels order s old new) (told ∙ ap (λ (s : List ℕ). levels_of s order) wide_is_bounds) written;
  }

  pub order_cause : (e : PlanError) → IsCause wide scans budget e → IsCause (all_in_128_bits bounds) n budget e
  order_cause e h = subst (λ (s : List ℕ). IsCause s n budget e) wide_is_bounds (subst (λ k. IsCause wide k budget e) count h)

  pub order_fits : ((k : ℕ) → get_or bounds k 0 < 2 ^ 64) → (least : ℕ) → IsCause wide scans budget (plan_error.Budget least) → least < 2 ^ 64
  order_fits fits least refused =
      let cause : IsCause (all_in_128_bits bounds) n budget (plan_error.Budget least) = order_cause (plan_error.Budget least) refused in
      omega (arith, order_cost_fits_64 bounds cause.0.order fits (omega (arith, cause.0.costs, cause.2)), cause.0.costs)

  -- ---- trees

  pub best_tree : (joins written : List Join) (dearest told : ℕ) (old new : List JoinNode) → MayPlan bounds n budget → AreOfBest wide scans dearest joins → dearest ≤ budget
      → length joins + 1 ≡ scans → written ≡ joins → told ≡ length joins → RoomBeginsWith (map node_of written) old new (length written) → IsBestTree bounds budget old new told
  best_tree joins written dearest told old new may best within all are counted filled =
      let next : n ≡ told + 1 = omega (arith, all, counted, count) in
      let its : joins ≡ joins_from (all_in_128_bits bounds) (told + 1) best.tree =
      best.are_its ∙ ap (λ k. joins_from wide k best.tree) (count ∙ next) ∙ ap (λ (s : List ℕ). joins_from s (told + 1) best.tree) wide_is_bounds in
      record {
        given = subst (λ k. MayPlan bounds k budget) next may;
        tree = best.tree;
        best = subst (λ (s : List ℕ). IsBestOver s (told + 1) best.tree) wide_is_bounds (subst (λ k. IsBestOver wide k best.tree) (count ∙ next) best.is_best);
        within = omega (arith, within, best.is_its, ap (λ (s : List ℕ). tree_cost s best.tree) wide_is_bounds);
        written = subst (λ (s : List Join). RoomBeginsWith (map node_of s) old new told) (are ∙ its)
            (subst (RoomBeginsWith (map node_of written) old new) (ap length are ∙ sym counted) filled);
      }

  pub tree_cause : (e : PlanError) → IsTreeCauseOver wide scans budget e → IsTreeCauseOver (all_in_128_bits bounds) n budget e
  tree_cause e h = subst (λ (s : List ℕ). IsTreeCauseOver s n budget e) wide_is_bounds (subst (λ k. IsTreeCauseOver wide k budget e) count h)

  pub tree_fits : ((k : ℕ) → get_or bounds k 0 < 2 ^ 64) → (least : ℕ) → IsTreeCauseOver wide scans budget (plan_error.Budget least) → least < 2 ^ 64
  tree_fits fits least refused =
      let cause : IsTreeCauseOver (all_in_128_bits bounds) n budget (plan_error.Budget least) = tree_cause (plan_error.Budget least) refused in
      omega (arith, tree_cost_fits_64 bounds fits cause.0.tree (omega (arith, cause.0.costs, cause.2)), cause.0.costs)
