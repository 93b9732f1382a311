use Rattle.std.proofs.Common.{◌≡◌, ◌++◌, drop, map, take}
use Rattle.std.specs.List.{zip}
use Rattle.csv_tables.specs.Cells.{value_of_cell}
use Rattle.appended_stats.specs.Grown.{with_new_rows}
use Rattle.appended_stats.proofs.lists.grown_frequent.Given as goal

abbrev pub invariant-loop-i : goal.invariant-loop-i
invariant-loop-i l = l.grown ≡ map (with_new_rows (value_of_cell l.pool l.kind) l.accuracy (zip l.cells l.joined)) (take l.i l.fn.frequent) ++ drop l.i l.fn.frequent
