use Rattle.std.proofs.Common.{◌≡◌, false, take}
use Rattle.gathered_stats.specs.Filters.{has_filter}
use Rattle.gathered_stats.proofs.filters.find.Given as goal

abbrev pub invariant-loop-filter : goal.invariant-loop-filter
invariant-loop-filter l = has_filter (take l.filter-index l.filters) l.column ≡ false
