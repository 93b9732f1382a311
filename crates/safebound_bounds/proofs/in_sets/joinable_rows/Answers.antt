use Rattle.std.proofs.Common.{◌+◌, List, ap, sym, ◌∙◌, drop}
use Rattle.berge_tree.specs.declared.edges.Edge.{Edge}
use Rattle.join_graph.specs.Kept.{equalities_within}
use Rattle.safebound_bounds.specs.Meaning.{joinable_rows}
use Rattle.safebound_bounds.proofs.Finding.{drop_one}
use Rattle.safebound_bounds.proofs.JoinableRows.{joinable_with_one_more}
use Rattle.safebound_bounds.proofs.in_sets.joinable_rows.Goals as goal

pub loop-edge-preserved : goal.loop-edge-preserved
loop-edge-preserved c =
    ap (joinable_rows c.args.lists.now c.args.runs.now c.args.entry (equalities_within c.args.subset (drop (c.loop-edge.edge-index + 1) c.args.edges.now))) c.joinable_at-rows.ensures
    ∙ joinable_with_one_more c.args.lists.now c.args.runs.now c.args.entry c.args.subset _ (drop (c.loop-edge.edge-index + 1) c.args.edges.now) c.loop-edge.rows
    ∙ ap (λ (es : List Edge). joinable_rows c.args.lists.now c.args.runs.now c.args.entry (equalities_within c.args.subset es) c.loop-edge.rows)
    (sym (drop_one c.args.edges.now c.loop-edge.edge-index _ c.loop-edge-test.true))
    ∙ c.loop-edge.invariant
