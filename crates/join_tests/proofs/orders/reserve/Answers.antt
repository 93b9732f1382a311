use Rattle.std.proofs.Common.{length, sym, subst}
use Rattle.plans.specs.declared.bushy.BushyPlan.{BushyPlan}
use Rattle.plans.specs.TreePlans.{IsTreePlan}
use Rattle.plans.proofs.OrderTrees.{order_is_tree}
use Rattle.tree_rows.specs.Rooms.{BoundsFitBuffers}
use Rattle.join_tests.proofs.orders.reserve.Goals as goal

pub reserve_bushy-requires : goal.reserve_bushy-requires
reserve_bushy-requires c =
    let plan = c.args.plan.now in
    record {
      plan = subst (λ (t : BushyPlan). IsTreePlan (length t.scans) t) (sym c.in_ok-tree.ensures) (order_is_tree (length plan.scans) plan c.requires.not_empty c.requires.few c.requires.plan);
      small = subst BoundsFitBuffers (sym c.in_ok-tree.ensures) c.requires.small;
    }
