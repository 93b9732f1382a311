use Rattle.bushy_plan.proofs.Lightest.{LeastOfTried}
use Rattle.bushy_plan.proofs.table.least_weight.Given as goal

abbrev pub invariant-splits : goal.invariant-splits
invariant-splits l = LeastOfTried l.weight l.bounds l.table l.set l.all_but_first l.right l.least

abbrev pub decreases-splits : goal.decreases-splits
decreases-splits l = l.right
