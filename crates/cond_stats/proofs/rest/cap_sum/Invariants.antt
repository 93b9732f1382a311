use Rattle.cond_stats.proofs.CutLists.{IsCappedSoFar}
use Rattle.cond_stats.proofs.rest.cap_sum.Given as goal

abbrev pub invariant-loop-degree : goal.invariant-loop-degree
invariant-loop-degree l = IsCappedSoFar l.falling l.most l.degree-index l.left l.list.items
