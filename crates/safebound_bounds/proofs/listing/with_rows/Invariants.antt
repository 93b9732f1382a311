use Rattle.std.proofs.Common.{[]}
use Rattle.safebound_bounds.specs.Listed.{HoldsListed}
use Rattle.safebound_bounds.proofs.listing.with_rows.Given as goal

abbrev pub invariant-loop-entry : goal.invariant-loop-entry
invariant-loop-entry l = HoldsListed l.rows l.entry [] [] l.known
