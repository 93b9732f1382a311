use Rattle.std.proofs.Common.{◌≡◌, length}
use Rattle.bushy_plan.specs.Splits.{HasLeastWeights}
use Rattle.bushy_plan.proofs.table.least_weights.Given as goal

abbrev pub invariant-loop-set : goal.invariant-loop-set
invariant-loop-set l = record {
  filled : length l.table.items ≡ l.set;
  table : HasLeastWeights l.weight l.bounds l.table.items l.set;
}
