use Rattle.std.proofs.Common.{◌∙◌}
use Rattle.bound_fold.specs.Lists.{bounds_of}
use Rattle.bound_fold.proofs.SetBounds.{one_more_turn, all_turns, set_never_under}
use Rattle.bound_fold.proofs.sets.set_bound.Goals as goal

pub loop-turn-preserved : goal.loop-turn-preserved
loop-turn-preserved c =
    c.min-least.ensures
    ∙ one_more_turn (bounds_of c.args.lists.now) c.args.parts.now.equalities c.args.subset c.loop-turn.turn c.loop-turn.least c.in_ok-turn_bound.field-0 c.loop-turn.auto.turn
    c.loop-turn.invariant c.in_ok-turn_bound.ensures

pub returns-clause-exact : goal.returns-clause-exact
returns-clause-exact c =
    all_turns (bounds_of c.args.lists.now) c.args.parts.now.equalities c.args.subset c.loop-turn.turn c.count_turns-turn-end.result c.loop-turn.least c.count_turns-turn-end.ensures c.loop-turn.auto.turn
    c.loop-turn.auto.turn-end c.loop-turn-test.false c.loop-turn.invariant

pub returns-clause-never_under : goal.returns-clause-never_under
returns-clause-never_under c =
    set_never_under c.args.lists.now c.args.parts.now.equalities c.args.subset c.loop-turn.least c.requires (returns-clause-exact c)
