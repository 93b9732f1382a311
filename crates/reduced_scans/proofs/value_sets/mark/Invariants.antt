use Rattle.std.proofs.Common.{◌≡◌, true, get_or, take}
use Rattle.std.specs.List.{All}
use Rattle.reduced_scans.specs.SemiJoins.{is_marked}
use Rattle.reduced_scans.proofs.value_sets.mark.Given as goal

abbrev pub invariant-rows : goal.invariant-rows
invariant-rows l = All (λ row. is_marked l.least l.marks (get_or l.cells row 0) ≡ true) (take l.row-index l.list)
