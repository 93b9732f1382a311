use Rattle.set_bounds.specs.Cycles.{AreAllOnEveryCycle}
use Rattle.set_bounds.proofs.graph.entries_on_every_cycle.Given as goal

abbrev pub invariant-loop-entry : goal.invariant-loop-entry
invariant-loop-entry l = AreAllOnEveryCycle l.parts.equalities l.all l.entry l.found
