use Rattle.std.proofs.Common.{◌≡◌, take}
use Rattle.join_steps.specs.Lists.{lists_of}
use Rattle.reduced_scans.proofs.semi_joins.copies.Given as goal

abbrev pub invariant-scans : goal.invariant-scans
invariant-scans l = lists_of l.lists ≡ take l.entry (lists_of l.scans)
