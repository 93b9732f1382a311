use Rattle.std.proofs.Common.{◌-◌, length}
use Rattle.order_search.proofs.Lightest.{LeastOfTried}
use Rattle.order_search.proofs.table.least_weight.Given as goal

abbrev pub invariant-loop-entry : goal.invariant-loop-entry
invariant-loop-entry l = LeastOfTried l.weight l.bounds l.table (length l.bounds - 1) l.left l.entry l.least
