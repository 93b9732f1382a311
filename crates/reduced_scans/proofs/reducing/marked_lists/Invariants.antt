use Rattle.std.proofs.Common.{◌≡◌, length, take, vec_capacity, vec_len}
use Rattle.counted_sets.specs.Sets.{marked}
use Rattle.join_steps.specs.Lists.{lists_of}
use Rattle.reduced_scans.specs.Lists.{HaveNoSpare}
use Rattle.reduced_scans.specs.Wiring.{marked_family}
use Rattle.reduced_scans.proofs.reducing.marked_lists.Given as goal

abbrev pub invariant-lists : goal.invariant-lists
invariant-lists l = record {
  lists : lists_of l.lists.items ≡ marked_family (marked l.marks.items) 0 (take l.entry (lists_of l.scans));
  no_spare : HaveNoSpare l.lists.items;
  count : vec_len l.lists ≡ l.entry;
  capacity : vec_capacity l.lists ≡ length l.scans;
}
