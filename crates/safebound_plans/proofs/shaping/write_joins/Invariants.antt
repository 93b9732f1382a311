use Rattle.std.proofs.Common.{map, take}
use Rattle.safebound_lists.specs.Written.{RoomBeginsWith}
use Rattle.safebound_plans.specs.Trees.{node_of}
use Rattle.safebound_plans.proofs.shaping.write_joins.Given as goal

abbrev pub invariant-loop-place : goal.invariant-loop-place
invariant-loop-place l = RoomBeginsWith (map node_of (take l.place l.joins)) l.initial.into l.into l.place
