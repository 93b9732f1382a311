use Rattle.std.proofs.Common.{take}
use Rattle.std.specs.List.{All}
use Rattle.gathered_stats.specs.Filters.{IsFilterOf, HasFilterFor}
use Rattle.gathered_stats.proofs.filters.filters_of.Given as goal

abbrev pub invariant-loop-step : goal.invariant-loop-step
invariant-loop-step l = All (IsFilterOf l.pool l.cells) l.filters × All (HasFilterFor l.filters) (take l.step-index l.steps)
