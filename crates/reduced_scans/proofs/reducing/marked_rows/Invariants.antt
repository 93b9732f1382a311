use Rattle.std.proofs.Common.{◌≡◌, ◌+◌, length, take}
use Rattle.counted_sets.specs.Sets.{marked}
use Rattle.reduced_scans.specs.Wiring.{marked_rows}
use Rattle.reduced_scans.proofs.reducing.marked_rows.Given as goal

abbrev pub invariant-rows : goal.invariant-rows
invariant-rows l = record {
  rows : l.rows.items ≡ marked_rows (marked l.marks.items) l.first (take l.at l.list);
  room : l.rows.spare + length l.rows.items ≡ length (marked_rows (marked l.marks.items) l.first l.list);
}
