use Rattle.std.proofs.Common.{◌≡◌, map, take}
use Rattle.std.specs.List.{All}
use Rattle.gathered_stats.specs.Asked.{AreStepsOf}
use Rattle.gathered_stats.specs.ShownCells.{shown_cells}
use Rattle.gathered_stats.proofs.gather.gather_columns.Given as goal

abbrev pub invariant-loop-column : goal.invariant-loop-column
invariant-loop-column l = (map (λ g. g.column) l.gathered ≡ take l.column-index l.columns)
    × All (AreStepsOf l.table.pool.now (shown_cells l.table) l.table.accuracy l.steps) l.gathered
