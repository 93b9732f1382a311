use Rattle.std.proofs.Common.{◌≡◌, map, take}
use Rattle.predicate_bounds.specs.ListRuns.{with_list}
use Rattle.stats_file_bounds.specs.FileStatistics.{stats_file_lists}
use Rattle.stats_file_bounds.proofs.entry.list_steps.Given as goal

abbrev pub invariant-loop-step : goal.invariant-loop-step
invariant-loop-step l = (l.gathered.column ≡ l.joined) × (l.gathered.steps ≡ map (with_list (stats_file_lists l.section l.needs l.joined)) (take l.step-index l.steps))
