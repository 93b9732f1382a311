use Rattle.std.proofs.Common.{◌≡◌, take}
use Rattle.std.specs.List.{range_with_len}
use Rattle.key_carriers.proofs.key_rows.ascend_from.Given as goal

abbrev pub invariant-cells : goal.invariant-cells
invariant-cells l = take l.at l.cells ≡ range_with_len l.first l.at
