use Rattle.std.proofs.Common.{◌≡◌, ◌++◌, drop, map, take}
use Rattle.appended_stats.specs.Cells.{section_after_by_cells}
use Rattle.appended_stats.proofs.file.sections_after.Given as goal

abbrev pub invariant-loop-i : goal.invariant-loop-i
invariant-loop-i l = l.after ≡ map (section_after_by_cells l.pool l.cells l.accuracy l.table) (take l.i l.fn.sections) ++ drop l.i l.fn.sections
