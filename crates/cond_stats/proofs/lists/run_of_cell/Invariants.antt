use Rattle.std.proofs.Common.{◌≡◌, false, eqb, map, take}
use Rattle.std.specs.List.{list_any}
use Rattle.cond_stats.specs.Runs.{value_of_run}
use Rattle.cond_stats.proofs.lists.run_of_cell.Given as goal

abbrev pub invariant-loop-run : goal.invariant-loop-run
invariant-loop-run l = list_any (λ value. eqb value l.cell) (map (value_of_run l.cells) (take l.run-index l.runs)) ≡ false
