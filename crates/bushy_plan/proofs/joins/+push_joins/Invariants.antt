use Rattle.bushy_plan.proofs.joins.+push_joins.Given as goal

abbrev pub decreases-push_joins : goal.decreases-push_joins
decreases-push_joins l = l.set
