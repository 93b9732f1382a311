use Rattle.std.proofs.Common.{drop}
use Rattle.set_bounds.proofs.Neighbours.{AreNeighboursBut}
use Rattle.set_bounds.proofs.graph.neighbours_of.Given as goal

abbrev pub invariant-loop-edge : goal.invariant-loop-edge
invariant-loop-edge l = AreNeighboursBut l.edges l.all (drop l.edge-index l.edges) l.neighbours
