use Rattle.std.proofs.Common.{◌≡◌, ◌≤◌, ◌*◌, ◌^◌, map, sum}
use Rattle.std.specs.List.{range_with_len}
use Rattle.safebound_bounds.specs.Work.{work_of_set}
use Rattle.safebound_bounds.proofs.work.work_of_sets.Given as goal

abbrev pub invariant-loop-bits : goal.invariant-loop-bits
invariant-loop-bits l = record {
  is : l.work ≡ sum (map (work_of_set l.lists l.parts.equalities) (range_with_len 0 l.bits));
  few : l.work ≤ l.bits * 2 ^ 78;
}
