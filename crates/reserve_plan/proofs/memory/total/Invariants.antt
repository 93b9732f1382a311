use Rattle.std.proofs.Common.{◌≡◌, ◌*◌, ◌^◌, ◌≤◌, sum, take}
use Rattle.reserve_plan.proofs.memory.total.Given as goal

abbrev pub invariant-loop-number : goal.invariant-loop-number
invariant-loop-number l = record {
  value : l.total ≡ sum (take l.number-index l.numbers);
  small : l.total ≤ 2 ^ 64 * l.number-index;
}
