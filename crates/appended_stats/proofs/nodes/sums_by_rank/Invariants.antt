use Rattle.std.proofs.Common.{◌≡◌, take}
use Rattle.appended_stats.specs.Grown.{rank_sums}
use Rattle.appended_stats.proofs.nodes.sums_by_rank.Given as goal

abbrev pub invariant-loop-i : goal.invariant-loop-i
invariant-loop-i l = l.sums ≡ rank_sums (take l.i l.lists) (take l.i l.others)
