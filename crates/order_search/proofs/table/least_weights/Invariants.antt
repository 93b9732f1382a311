use Rattle.std.proofs.Common.{◌≡◌, ◌-◌, length}
use Rattle.order_search.specs.Ways.{HasLeastWeights}
use Rattle.order_search.proofs.table.least_weights.Given as goal

abbrev pub invariant-loop-bits : goal.invariant-loop-bits
invariant-loop-bits l = record {
  filled : length l.table.items ≡ l.bits;
  table : HasLeastWeights l.weight l.bounds (length l.bounds - 1) l.table.items l.bits;
}
