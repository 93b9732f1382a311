use Rattle.std.proofs.Common.{◌≡◌, ◌-◌}
use Rattle.bound_fold.specs.Lists.{bounds_of}
use Rattle.set_bounds.specs.Alike.{AreOfTurnsBefore, least_in_128_bits}
use Rattle.set_bounds.proofs.cycles.least_of_turns.Given as goal

abbrev pub invariant-loop-turn : goal.invariant-loop-turn
invariant-loop-turn l = record {
  least : l.least ≡ least_in_128_bits (bounds_of l.lists) l.parts.equalities l.subset (l.turn - 1);
  folded : AreOfTurnsBefore l.parts.equalities l.subset l.turn l.folded.items;
}
