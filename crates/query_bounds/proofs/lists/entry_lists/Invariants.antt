use Rattle.std.proofs.Common.{length, take}
use Rattle.berge_tree.specs.Equalities.{places_of}
use Rattle.query_bounds.specs.Bounds.{HoldsKnown}
use Rattle.query_bounds.specs.Statistics.{Statistics, HasStatistics}
use Rattle.query_bounds.proofs.lists.entry_lists.Given as goal

abbrev pub invariant-loop-edge : goal.invariant-loop-edge
invariant-loop-edge l = (known : Statistics) → HasStatistics l.query l.stats known → HoldsKnown l.query known (length l.query.from) (places_of (take l.edge-index l.parts.equalities)) l.lists
