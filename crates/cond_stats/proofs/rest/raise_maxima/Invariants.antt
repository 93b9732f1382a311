use Rattle.std.proofs.Common.{◌≡◌, take}
use Rattle.degree_sequences.specs.ByRank.{rank_maximum}
use Rattle.cond_stats.proofs.rest.raise_maxima.Given as goal

abbrev pub invariant-loop-i : goal.invariant-loop-i
invariant-loop-i l = l.maxima.items ≡ rank_maximum l.initial.maxima.items (take l.i l.degrees)
