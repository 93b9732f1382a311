use Rattle.std.proofs.Common.{take}
use Rattle.std.specs.List.{All}
use Rattle.gathered_stats.specs.PairedRows.{ArePicked, HasColumnFor}
use Rattle.gathered_stats.proofs.paired_rows.picked_columns.Given as goal

abbrev pub invariant-loop-step : goal.invariant-loop-step
invariant-loop-step l = ArePicked l.cells l.rows l.columns × All (HasColumnFor l.columns) (take l.step-index l.steps)
