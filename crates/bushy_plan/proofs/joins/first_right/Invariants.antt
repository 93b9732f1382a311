use Rattle.bushy_plan.proofs.ReadingOff.{NotFoundYet}
use Rattle.bushy_plan.proofs.joins.first_right.Given as goal

abbrev pub invariant-splits : goal.invariant-splits
invariant-splits l = NotFoundYet l.weight l.bounds l.table l.set l.all_but_first l.right

abbrev pub decreases-splits : goal.decreases-splits
decreases-splits l = l.right
