use Rattle.std.proofs.Common.{length}
use Rattle.counted_sets.specs.Counts.{Extends, CountsAreCorrect, IsSafe}
use Rattle.counted_sets.proofs.Removing.{AreGoneFrom}
use Rattle.counted_sets.proofs.reduction.remove_needing.Given as goal

abbrev pub invariant-places : goal.invariant-places
invariant-places l = record {
  gone : AreGoneFrom l.uses l.slot l.at l.marks.items;
  safe : IsSafe (length l.initial.marks.items) l.uses l.initial.marks.items l.marks.items;
  counted : CountsAreCorrect (length l.initial.marks.items) (length l.initial.counts.items) l.uses l.marks.items l.counts.items l.work;
  extends : Extends l.initial.work.items l.work.items;
}

abbrev pub decreases-places : goal.decreases-places
decreases-places l = l.at
