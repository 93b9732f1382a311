use Rattle.std.proofs.Common.{◌-◌}
use Rattle.counted_sets.proofs.Removing.{Reducing}
use Rattle.counted_sets.proofs.reduction.reduce.Given as goal

abbrev pub invariant-work : goal.invariant-work
invariant-work l = Reducing l.items l.slots l.uses l.marks.items l.counts.items l.work l.at

abbrev pub decreases-work : goal.decreases-work
decreases-work l = l.slots - l.at
