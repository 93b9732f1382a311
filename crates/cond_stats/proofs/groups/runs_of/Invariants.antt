use Rattle.cond_stats.proofs.RunsFound.{RunsSoFar}
use Rattle.cond_stats.proofs.groups.runs_of.Given as goal

abbrev pub invariant-loop-i : goal.invariant-loop-i
invariant-loop-i l = RunsSoFar l.numbers l.places l.runs.items l.start l.i
