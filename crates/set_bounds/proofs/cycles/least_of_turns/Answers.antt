use Rattle.std.proofs.Common.{List, ap, sym, subst, ◌∙◌}
use Rattle.std.specs.List.{AllByRecursion}
use Rattle.degree_sequences.specs.Saturation.{saturated}
use Rattle.berge_tree.specs.declared.edges.Edge.{Edge}
use Rattle.join_graph.specs.Kept.{kept_of}
use Rattle.bound_fold.specs.Lists.{bounds_of}
use Rattle.set_bounds.specs.Alike.{IsWithinOneClass}
use Rattle.set_bounds.proofs.OneTurn.{all_within, set_is_turn_0}
use Rattle.set_bounds.proofs.cycles.least_of_turns.Goals as goal

pub returns-then-are_in_classes : goal.returns-then-are_in_classes
returns-then-are_in_classes c =
    let es : List Edge = c.args.parts.now.equalities in
    c.in_ok-least.ensures
    ∙ ap saturated (sym (set_is_turn_0 es c.args.subset
    (all_within (IsWithinOneClass (kept_of c.args.subset 0 es)) c.args.subset es (subst (λ (kept : List Edge). AllByRecursion (IsWithinOneClass kept) es) c.in_ok-first.ensures
    (subst (AllByRecursion (IsWithinOneClass c.in_ok-first.first)) c.as_slice.ensures (c.are_in_classes.ensures c.if-are_in_classes.true)))) (bounds_of c.args.lists.now)))
