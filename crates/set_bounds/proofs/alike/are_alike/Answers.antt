use Rattle.std.proofs.Common.{subst}
use Rattle.std.specs.List.{AllByRecursion}
use Rattle.set_bounds.specs.Alike.{IsWithinOneClass}
use Rattle.set_bounds.proofs.ColumnClasses.{alike_by_classes}
use Rattle.set_bounds.proofs.alike.are_alike.Goals as goal

pub returns-then-are_in_classes : goal.returns-then-are_in_classes
returns-then-are_in_classes c = λ there a_closes b_closes.
    alike_by_classes c.args.a.now c.args.b.now a_closes b_closes
    (subst (AllByRecursion (IsWithinOneClass c.args.a.now)) c.edges.ensures (c.are_in_classes.ensures c.if-are_in_classes.true))
    (subst (AllByRecursion (IsWithinOneClass c.args.b.now)) c.edges-then-are_in_classes.ensures (c.are_in_classes-then-are_in_classes.ensures there))
