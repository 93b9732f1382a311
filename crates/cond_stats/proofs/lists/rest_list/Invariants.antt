use Rattle.std.proofs.Common.{◌≡◌, map, take}
use Rattle.cond_stats.specs.Lists.{maxima, greatest}
use Rattle.cond_stats.specs.Sorted.{degrees_of_run}
use Rattle.cond_stats.proofs.lists.rest_list.Given as goal

abbrev pub invariant-loop-run : goal.invariant-loop-run
invariant-loop-run l = (l.maxima.items ≡ maxima (map (degrees_of_run l.row_keys l.places) (take l.run-index l.runs)))
    × (l.most ≡ greatest (map (λ run. run.count) (take l.run-index l.runs)))
