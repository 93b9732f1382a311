use Rattle.std.proofs.Common.{◌≡◌, take}
use Rattle.std.specs.List.{filter_map}
use Rattle.degree_sequences.specs.Degrees.{different}
use Rattle.gathered_stats.specs.Asked.{compared_column}
use Rattle.stats_file_of_query.proofs.filters.filters_of.Given as goal

abbrev pub invariant-loop-step : goal.invariant-loop-step
invariant-loop-step l = l.columns ≡ different (filter_map compared_column (take l.step-index l.steps))
