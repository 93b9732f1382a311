use Rattle.std.proofs.Common.{◌≡◌, ◌++◌, drop, map, take}
use Rattle.appended_stats.specs.Cells.{pair_by_cells}
use Rattle.appended_stats.proofs.file.pairs_after.Given as goal

abbrev pub invariant-loop-i : goal.invariant-loop-i
invariant-loop-i l = l.after ≡ map (pair_by_cells l.pool l.cells l.accuracy l.before) (take l.i l.fn.pairs) ++ drop l.i l.fn.pairs
