use Rattle.counted_sets.specs.Counts.{Extends, IsWorkOf}
use Rattle.counted_sets.proofs.Removing.{AreLowered}
use Rattle.counted_sets.proofs.counts.lower_counts.Given as goal

abbrev pub invariant-places : goal.invariant-places
invariant-places l = record {
  taken : AreLowered l.uses l.item l.initial.counts.items l.counts.items l.at;
  listed : IsWorkOf l.counts.items l.work;
  extends : Extends l.initial.work.items l.work.items;
}

abbrev pub decreases-places : goal.decreases-places
decreases-places l = l.at
