use Rattle.std.proofs.Common.{◌≡◌}
use Rattle.set_bounds.specs.AllSets.{bounds_below}
use Rattle.set_bounds.proofs.every_set.bounds_in_sets.Given as goal

abbrev pub invariant-loop-bits : goal.invariant-loop-bits
invariant-loop-bits g l = l.bounds.items ≡ bounds_below (g.K.EntryListsBySet.known l.lists) l.parts.equalities l.bits
