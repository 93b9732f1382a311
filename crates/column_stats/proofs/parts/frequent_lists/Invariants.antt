use Rattle.std.proofs.Common.{◌≡◌, map, take}
use Rattle.std.specs.List.{zip}
use Rattle.column_stats.proofs.FrequentLists.{on_demand}
use Rattle.column_stats.proofs.parts.frequent_lists.Given as goal

abbrev pub invariant-loop-value : goal.invariant-loop-value
invariant-loop-value l = l.lists ≡ map (on_demand l.accuracy (zip l.column.cells l.joined)) (take l.value-index l.value-items)
