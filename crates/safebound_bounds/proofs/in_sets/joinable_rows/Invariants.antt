use Rattle.std.proofs.Common.{◌≡◌, drop}
use Rattle.join_graph.specs.Kept.{equalities_within}
use Rattle.safebound_bounds.specs.Meaning.{joinable_rows}
use Rattle.safebound_bounds.proofs.in_sets.joinable_rows.Given as goal

abbrev pub invariant-loop-edge : goal.invariant-loop-edge
invariant-loop-edge l =
    joinable_rows l.lists l.runs l.entry (equalities_within l.subset (drop l.edge-index l.edges)) l.rows
    ≡ joinable_rows l.lists l.runs l.entry (equalities_within l.subset l.edges) l.most
