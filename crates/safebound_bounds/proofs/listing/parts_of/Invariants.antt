use Rattle.std.proofs.Common.{◌≡◌, take}
use Rattle.safebound_bounds.specs.Meaning.{edges_of}
use Rattle.safebound_bounds.proofs.listing.parts_of.Given as goal

abbrev pub invariant-loop-equality : goal.invariant-loop-equality
invariant-loop-equality l = l.edges ≡ edges_of (take l.equality-index l.equalities)
