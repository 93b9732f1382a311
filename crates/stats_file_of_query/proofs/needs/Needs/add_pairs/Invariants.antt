use Rattle.std.proofs.Common.{◌≡◌, ◌++◌, take}
use Rattle.std.specs.List.{flat_map}
use Rattle.stats_file_of_query.specs.ColumnPairs.{with_each}
use Rattle.stats_file_of_query.proofs.needs.Needs.add_pairs.Given as goal

abbrev pub invariant-loop-filter : goal.invariant-loop-filter
invariant-loop-filter l = l.pairs ≡ l.initial.pairs ++ flat_map (with_each l.self.joined) (take l.filter-index l.filter-items)
