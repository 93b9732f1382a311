use Rattle.set_bounds.proofs.Neighbours.{none_so_far}
use Rattle.set_bounds.proofs.graph.neighbours_of.Goals as goal

pub loop-edge-init : goal.loop-edge-init
loop-edge-init c = none_so_far c.args.edges.now c.args.all c.empty-neighbours.result c.empty-neighbours.ensures
