use Rattle.std.proofs.Common.{◌≡◌, ◌-◌, ◌≤◌, length, take}
use Rattle.piece_math.proofs.pieces.Pieces.from_list.Given as goal

abbrev pub invariant-runs : goal.invariant-runs
invariant-runs l = record {
  within : l.start ≤ length l.list;
  so_far : l.pieces ≡ take l.start l.list;
}

abbrev pub decreases-runs : goal.decreases-runs
decreases-runs l = length l.list - l.start
