use Rattle.std.proofs.Common.{◌≡◌, map}
use Rattle.std.specs.List.{range_with_len}
use Rattle.bound_fold.specs.Lists.{bounds_of}
use Rattle.query_bounds.proofs.bounds.scans_of.Given as goal

abbrev pub invariant-entries : goal.invariant-entries
invariant-entries l = l.scans ≡ map (bounds_of l.lists).rows (range_with_len 0 l.entry)
