use Rattle.std.proofs.Common.{◌≡◌, ◌++◌, List, drop, slice_index}
use Rattle.berge_tree.specs.declared.edges.Edge.{Edge}
use Rattle.join_graph.specs.Kept.{equalities_within, kept_by_names}
use Rattle.join_graph.specs.Names.{HaveEntriesBelow16}
use Rattle.join_graph.proofs.keeping.consider_all.Given as goal

abbrev pub invariant-loop-edge : goal.invariant-loop-edge
invariant-loop-edge l = (rest : List Edge) → HaveEntriesBelow16 rest
    → l.kept ++ kept_by_names (slice_index l.names) (equalities_within l.subset (drop l.edge-index l.edges) ++ rest)
    ≡ l.initial.kept ++ kept_by_names (slice_index l.initial.names) (equalities_within l.subset l.edges ++ rest)
