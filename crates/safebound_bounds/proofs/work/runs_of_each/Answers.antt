use Rattle.std.proofs.Common.{◌<◌, ◌^◌, ℕ, List, [], ◌∷◌, ◌++◌, get_or, map, take, ap, sym, ◌∙◌, subst}
use Rattle.safebound_bounds.specs.Work.{runs_joined}
use Rattle.safebound_bounds.proofs.Finding.{map_taken, one_more_below}
use Rattle.safebound_bounds.proofs.work.runs_of_each.Goals as goal

pub loop-edge-preserved : goal.loop-edge-preserved
loop-edge-preserved c = record {
  are = c.in_ok-push.ensures.ok
      ∙ ap (λ (s : List ℕ). s ++ c.runs_joined.result ∷ []) c.loop-edge.invariant.are
      ∙ ap (λ (n : ℕ). map (runs_joined c.args.lists.now) (take c.loop-edge.edge-index c.args.edges.now) ++ n ∷ []) c.runs_joined.ensures.is
      ∙ sym (map_taken (runs_joined c.args.lists.now) c.args.edges.now c.loop-edge.edge-index _ c.loop-edge-test.true);
  few = λ i. subst (λ (s : List ℕ). get_or s i 0 < 2 ^ 65) (sym c.in_ok-push.ensures.ok)
      (one_more_below (2 ^ 65) c.loop-edge.each c.runs_joined.result c.loop-edge.invariant.few c.runs_joined.ensures.few i);
}
