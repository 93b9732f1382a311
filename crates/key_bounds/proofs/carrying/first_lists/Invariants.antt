use Rattle.key_bounds.proofs.FirstLists.{AreAdded}
use Rattle.key_bounds.proofs.carrying.first_lists.Given as goal

abbrev pub invariant-loop-joined : goal.invariant-loop-joined
invariant-loop-joined l = AreAdded l.stats l.entry l.joined-index l.made
