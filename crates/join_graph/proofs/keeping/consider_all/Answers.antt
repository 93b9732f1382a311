use Rattle.std.proofs.Common.{◌++◌, slice_index, ◌∙◌, sym, arith}
use Rattle.join_graph.specs.Kept.{equalities_within, kept_by_names}
use Rattle.join_graph.proofs.Parting.{equality_is_skipped, equality_is_considered}
use Rattle.join_graph.proofs.keeping.consider_all.Goals.{then-joins_within+in_ok-consider, else-joins_within}
use Rattle.join_graph.proofs.keeping.consider_all.Goals as goal

pub loop-edge-preserved : goal.loop-edge-preserved
loop-edge-preserved c = elim c.if-joins_within.branch [
  | then-joins_within+in_ok-consider w ↦ rw (w.names-is, w.kept-is) (equality_is_considered c.args.subset c.loop-edge.edge-index c.args.edges.now _ c.loop-edge.names w.consider.new.names c.loop-edge.kept w.consider.new.kept
      (λ rest. c.args.kept.now ++ kept_by_names (slice_index c.args.names.now) (equalities_within c.args.subset c.args.edges.now ++ rest)) (omega arith) (sym c.joins_within.ensures ∙ w.if-joins_within.true) w.in_ok-consider.ensures c.loop-edge.invariant)
  | else-joins_within w ↦ rw (w.names-is, w.kept-is) (equality_is_skipped c.args.subset c.loop-edge.edge-index c.args.edges.now _ c.loop-edge.names c.loop-edge.kept
      (λ rest. c.args.kept.now ++ kept_by_names (slice_index c.args.names.now) (equalities_within c.args.subset c.args.edges.now ++ rest)) (omega arith) (sym c.joins_within.ensures ∙ w.if-joins_within.false) c.loop-edge.invariant)
]
