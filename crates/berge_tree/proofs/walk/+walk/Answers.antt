use Rattle.std.proofs.Common.{◌≡◌, arith, subst}
use Rattle.std.specs.Prelude.{IfOk}
use Rattle.berge_tree.specs.Boxed.{classes_of}
use Rattle.berge_tree.specs.Trees.{Classes}
use Rattle.berge_tree.proofs.Walking.{walked_next}
use Rattle.berge_tree.proofs.walk.+walk.Goals as goal

pub classes_below-returns : goal.classes_below-returns
classes_below-returns t c =
    subst (λ (cs : Classes). IfOk c.classes_at.result (λ boxes. classes_of boxes ≡ cs)) (walked_next c.args.depth c.args.columns.now c.args.entry c.args.above (omega (arith, c.if-depth-eq0.false))) c.classes_at.ensures
