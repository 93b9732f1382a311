use Rattle.std.proofs.Common.{true, sym, ap, ◌∙◌, ◌++◌}
use Rattle.berge_tree.specs.Boxed.{classes_of, members_of}
use Rattle.berge_tree.specs.Trees.{entries_below, entries_within}
use Rattle.berge_tree.specs.Walk.{is_among}
use Rattle.berge_tree.proofs.Among.{among_first, among_later, among_rest}
use Rattle.berge_tree.proofs.walk.+standing.Goals as goal

pub is_below-returns-then-is_within : goal.is_below-returns-then-is_within
is_below-returns-then-is_within t c =
    among_first (entries_within (members_of c.in-And.members.value)) (entries_below (classes_of c.in-And.rest.value)) c.args.entry c.is_within.result
    (c.is_within.ensures ∙ ap (λ boxes. is_among (entries_within (members_of boxes)) c.args.entry) c.deref.ensures) c.if-is_within.true
    ∙ ap (λ boxes. is_among (entries_below (classes_of boxes)) c.args.entry) (sym c.in-And.is)

pub is_below-returns-else-is_within : goal.is_below-returns-else-is_within
is_below-returns-else-is_within t c =
    among_later (entries_within (members_of c.in-And.members.value)) (entries_below (classes_of c.in-And.rest.value)) c.args.entry c.is_within.result c.is_below.result
    (c.is_within.ensures ∙ ap (λ boxes. is_among (entries_within (members_of boxes)) c.args.entry) c.deref.ensures) c.if-is_within.false
    (c.is_below.ensures ∙ ap (λ boxes. is_among (entries_below (classes_of boxes)) c.args.entry) c.deref-in-And.ensures)
    ∙ ap (λ boxes. is_among (entries_below (classes_of boxes)) c.args.entry) (sym c.in-And.is)

pub is_within-returns-then-is_below : goal.is_within-returns-then-is_below
is_within-returns-then-is_below t c =
    among_rest c.in-And.own (entries_below (classes_of c.in-And.below) ++ entries_within (members_of c.in-And.rest.value)) c.args.entry true c.if-own-entry-2.false
    (among_first (entries_below (classes_of c.in-And.below)) (entries_within (members_of c.in-And.rest.value)) c.args.entry c.is_below-in-And.result c.is_below-in-And.ensures c.if-is_below.true)
    ∙ ap (λ boxes. is_among (entries_within (members_of boxes)) c.args.entry) (sym c.in-And.is)

pub is_within-returns-else-is_below : goal.is_within-returns-else-is_below
is_within-returns-else-is_below t c =
    among_rest c.in-And.own (entries_below (classes_of c.in-And.below) ++ entries_within (members_of c.in-And.rest.value)) c.args.entry c.is_within.result c.if-own-entry-2.false
    (among_later (entries_below (classes_of c.in-And.below)) (entries_within (members_of c.in-And.rest.value)) c.args.entry c.is_below-in-And.result c.is_within.result c.is_below-in-And.ensures c.if-is_below.false
    (c.is_within.ensures ∙ ap (λ boxes. is_among (entries_within (members_of boxes)) c.args.entry) c.deref.ensures))
    ∙ ap (λ boxes. is_among (entries_within (members_of boxes)) c.args.entry) (sym c.in-And.is)
