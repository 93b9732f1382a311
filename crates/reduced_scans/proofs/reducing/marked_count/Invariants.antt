use Rattle.std.proofs.Common.{◌≡◌, ◌≤◌, length, take}
use Rattle.counted_sets.specs.Sets.{marked}
use Rattle.reduced_scans.specs.Wiring.{marked_rows}
use Rattle.reduced_scans.proofs.reducing.marked_count.Given as goal

abbrev pub invariant-rows : goal.invariant-rows
invariant-rows l = record {
  rows : l.count ≡ length (marked_rows (marked l.marks.items) l.first (take l.at l.list));
  few : l.count ≤ l.at;
}
