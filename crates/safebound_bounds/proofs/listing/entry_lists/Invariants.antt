use Rattle.std.proofs.Common.{length, take}
use Rattle.safebound_bounds.specs.Listed.{HoldsListed}
use Rattle.safebound_bounds.proofs.listing.entry_lists.Given as goal

abbrev pub invariant-loop-list : goal.invariant-loop-list
invariant-loop-list l = HoldsListed l.rows (length l.rows) (take l.list-index l.lists) l.runs l.known
