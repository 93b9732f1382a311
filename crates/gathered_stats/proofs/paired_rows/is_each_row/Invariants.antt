use Rattle.std.proofs.Common.{◌≡◌, take}
use Rattle.std.specs.List.{range_with_len}
use Rattle.gathered_stats.proofs.paired_rows.is_each_row.Given as goal

abbrev pub invariant-rows : goal.invariant-rows
invariant-rows l = take l.at l.rows ≡ range_with_len 0 l.at
