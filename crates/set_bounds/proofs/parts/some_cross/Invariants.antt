use Rattle.std.proofs.Common.{◌≡◌, drop}
use Rattle.set_bounds.specs.Parts.{some_cross}
use Rattle.set_bounds.proofs.parts.some_cross.Given as goal

abbrev pub invariant-loop-edge : goal.invariant-loop-edge
invariant-loop-edge l = some_cross l.subset l.part (drop l.edge-index l.edges) ≡ some_cross l.subset l.part l.edges
