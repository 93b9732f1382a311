use Rattle.std.proofs.Common.{◌≡◌, ◌+◌, length, take}
use Rattle.join_graph.specs.Kept.{equalities_within}
use Rattle.join_graph.proofs.keeping.first_of_turn.Given as goal

abbrev pub invariant-loop-i : goal.invariant-loop-i
invariant-loop-i l = l.turn ≡ l.left + length (equalities_within l.subset (take l.i l.edges))
