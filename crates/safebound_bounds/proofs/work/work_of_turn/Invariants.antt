use Rattle.std.proofs.Common.{◌≡◌, ◌≤◌, ◌+◌, ◌*◌, ◌^◌, take}
use Rattle.safebound_bounds.specs.Work.{work_of_turn}
use Rattle.safebound_bounds.proofs.work.work_of_turn.Given as goal

abbrev pub invariant-loop-place : goal.invariant-loop-place
invariant-loop-place l = record {
  is : l.work ≡ work_of_turn l.lists (take l.place l.edges) l.subset;
  few : l.work ≤ 1 + l.place * 2 ^ 65;
}
