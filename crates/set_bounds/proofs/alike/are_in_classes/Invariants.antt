use Rattle.std.proofs.Common.{take}
use Rattle.std.specs.List.{AllByRecursion}
use Rattle.set_bounds.specs.Alike.{IsWithinOneClass}
use Rattle.set_bounds.proofs.alike.are_in_classes.Given as goal

abbrev pub invariant-loop-edge : goal.invariant-loop-edge
invariant-loop-edge l = AllByRecursion (IsWithinOneClass l.others) (take l.edge-index l.edges)
