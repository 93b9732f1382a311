use Rattle.std.proofs.Common.{◌≡◌, ◌≤◌, ◌+◌, length, take, get_or}
use Rattle.std.specs.List.{filter}
use Rattle.reduced_scans.specs.SemiJoins.{is_marked}
use Rattle.reduced_scans.proofs.semi_joins.rows_within.Given as goal

abbrev pub invariant-rows : goal.invariant-rows
invariant-rows l = record {
  kept : l.kept.items ≡ filter (λ row. is_marked l.values.least l.values.marks.items (get_or l.cells row 0)) (take l.row-index l.list);
  room : length l.list ≤ l.kept.spare + l.row-index;
}
