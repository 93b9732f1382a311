use Rattle.std.proofs.Common.{◌≡◌, ◌+◌, length, take}
use Rattle.counted_sets.specs.Counts.{EmptySlotsAreListed}
use Rattle.counted_sets.proofs.counts.slots_of_count_zero.Given as goal

abbrev pub invariant-slots : goal.invariant-slots
invariant-slots l = record {
  listed : EmptySlotsAreListed (take l.slot l.counts.items) l.work.items;
  room : length l.work.items + l.work.spare ≡ length l.counts.items;
}
