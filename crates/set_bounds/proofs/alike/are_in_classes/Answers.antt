use Rattle.std.proofs.Common.{add-one, sym, subst, take, ◌∙◌}
use Rattle.std.specs.List.{AllByRecursion}
use Rattle.berge_tree.proofs.NoCycle.{same_place-true}
use Rattle.set_bounds.specs.Alike.{IsWithinOneClass}
use Rattle.set_bounds.proofs.ColumnClasses.{all_more}
use Rattle.set_bounds.proofs.alike.are_in_classes.Goals as goal

pub loop-edge-preserved : goal.loop-edge-preserved
loop-edge-preserved c =
    subst (λ k. AllByRecursion (IsWithinOneClass c.args.others.now) (take k c.args.edges.now)) (sym (add-one c.loop-edge.edge-index))
    (all_more (IsWithinOneClass c.args.others.now) c.args.edges.now c.loop-edge.edge-index _ c.loop-edge-test.true c.loop-edge.invariant
    (same_place-true _ _ (sym c.are_in_one.ensures ∙ c.if-not-are_in_one.false)))
