use Rattle.std.proofs.Common.{◌≡◌, map, take}
use Rattle.cond_stats.specs.Runs.{value_of_run}
use Rattle.cond_stats.proofs.lists.values_of.Given as goal

abbrev pub invariant-loop-run : goal.invariant-loop-run
invariant-loop-run l = l.values.items ≡ map (value_of_run l.cells) (take l.run-index l.runs)
