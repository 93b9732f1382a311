use Rattle.std.proofs.Common.{◌+◌, subst, sym}
use Rattle.bound_fold.specs.Lists.{bounds_of}
use Rattle.set_bounds.specs.Alike.{AreOfTurnsBefore, IsLikeEarlier}
use Rattle.set_bounds.proofs.Skipping.{later, one_more_folded, skipped}
use Rattle.set_bounds.proofs.cycles.least_with.Goals as goal

pub returns-then-is_like_earlier-clause-least : goal.returns-then-is_like_earlier-clause-least
returns-then-is_like_earlier-clause-least c =
    let like : IsLikeEarlier c.args.parts.now.equalities c.args.subset c.args.turn =
    c.is_like_earlier.ensures c.if-is_like_earlier.true c.args.parts.now.equalities c.args.subset c.args.turn
    c.in_ok-classed.ensures
    (subst (AreOfTurnsBefore c.args.parts.now.equalities c.args.subset c.args.turn) (sym c.as_slice.ensures.value) c.requires.folded) in
    skipped (bounds_of c.args.lists.now) c.args.parts.now.equalities c.args.subset c.args.turn c.args.least c.requires.turn c.requires.least like

pub returns-then-is_like_earlier-clause-folded : goal.returns-then-is_like_earlier-clause-folded
returns-then-is_like_earlier-clause-folded c = later c.args.parts.now.equalities c.args.subset c.args.turn c.args.folded.now.items c.requires.folded

pub returns-clause-folded : goal.returns-clause-folded
returns-clause-folded c =
    subst (AreOfTurnsBefore c.args.parts.now.equalities c.args.subset (c.args.turn + 1)) (sym c.in_ok-push.ensures.items)
    (one_more_folded c.args.parts.now.equalities c.args.subset c.args.turn c.args.folded.now.items c.in_ok-classed.classed c.requires.folded c.in_ok-classed.ensures)
