use Rattle.std.proofs.Common.{map, take}
use Rattle.safebound_lists.specs.Written.{RoomBeginsWith}
use Rattle.safebound_bounds.specs.Meaning.{in_64_bits}
use Rattle.safebound_bounds.proofs.bounding.write_bounds.Given as goal

abbrev pub invariant-loop-set : goal.invariant-loop-set
invariant-loop-set l = RoomBeginsWith (map in_64_bits (take l.set l.bounds)) l.initial.into l.into l.set
