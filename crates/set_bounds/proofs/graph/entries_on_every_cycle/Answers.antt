use Rattle.set_bounds.proofs.OnCycles.{none_on_every_cycle}
use Rattle.set_bounds.proofs.graph.entries_on_every_cycle.Goals as goal

pub loop-entry-init : goal.loop-entry-init
loop-entry-init c = rw c.empty-found.ensures (none_on_every_cycle c.args.parts.now.equalities c.args.all)
