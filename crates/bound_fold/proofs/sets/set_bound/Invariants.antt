use Rattle.std.proofs.Common.{◌≡◌, ◌-◌}
use Rattle.degree_sequences.specs.Saturation.{saturated}
use Rattle.tree_bounds.specs.SetBounds.{bound_of_turn, least_to}
use Rattle.bound_fold.specs.Lists.{bounds_of}
use Rattle.bound_fold.proofs.sets.set_bound.Given as goal

abbrev pub invariant-loop-turn : goal.invariant-loop-turn
invariant-loop-turn l = l.least ≡ saturated (least_to (bound_of_turn (bounds_of l.lists) l.parts.equalities l.subset) (l.turn - 1))
