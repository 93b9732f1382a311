use Rattle.std.proofs.Common.{◌∙◌, List, sym, ap, length}
use Rattle.std.proofs.lemmas.Bool.{eq-eqb, eqb-true}
use Rattle.berge_tree.specs.declared.edges.Edge.{Edge}
use Rattle.join_graph.specs.Kept.{equalities_within}
use Rattle.set_bounds.proofs.Tested.{all_kept_if_forest, forest_if_all_kept}
use Rattle.set_bounds.proofs.parts.is_forest.Goals as goal

pub returns : goal.returns
returns c =
    let counted = c.count_within.ensures ∙ ap (λ (es : List Edge). length (equalities_within c.args.subset es)) c.as_slice.ensures in (
      λ same. forest_if_all_kept c.args.parts.now.equalities c.args.subset c.in_ok-edges.edges c.in_ok-edges.ensures.computed
          (sym c.len.ensures ∙ eqb-true c.len.result c.count_within.result same ∙ counted) c.in_ok-edges.ensures.entries,
      λ closes. eq-eqb c.len.result c.count_within.result
          (c.len.ensures ∙ all_kept_if_forest c.args.parts.now.equalities c.args.subset c.in_ok-edges.edges c.in_ok-edges.ensures.computed closes ∙ sym counted),
    )
