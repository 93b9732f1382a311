-- When a plan's tree has been joined, there are as many nodes as the tree has.
use Rattle.std.proofs.Common.{◌≡◌, ℕ, ◌<◌, List, length, sym, subst, arith}
use Rattle.std.specs.List.{AllByRecursion}
use Rattle.plans.specs.declared.bushy.BushyPlan.{BushyPlan}
use Rattle.plans.specs.TreePlans.{IsTreePlan}
use Rattle.tree_rows.specs.Nodes.{node_at, Node}
use Rattle.tree_rows.specs.Trees.{entries_at, node_count}
use Rattle.tree_rows.proofs.Once.{plan_once}
use Rattle.join_tests.specs.Examples.{HasNodes}

pub plan_is_over_its_scans : (n : ℕ) (plan : BushyPlan) → IsTreePlan n plan → IsTreePlan (length plan.scans) plan
plan_is_over_its_scans n plan is = subst (λ (m : ℕ). IsTreePlan m plan) (sym is.scans) is

pub has_nodes : (n : ℕ) (plan : BushyPlan) (nodes : List Node) → IsTreePlan n plan → length nodes ≡ node_count plan
    → ((node : ℕ) → node < node_count plan → (node_at nodes node).entries ≡ entries_at plan node) → HasNodes n nodes
has_nodes n plan nodes is count entries = record {
  all = omega (arith, count, is.scans, is.joins);
  within = λ node low.
      let there : node < node_count plan = omega (arith, low, count) in
      subst (AllByRecursion (λ entry. entry < n)) (sym (entries node there)) (plan_once n plan node is there).1;
}
