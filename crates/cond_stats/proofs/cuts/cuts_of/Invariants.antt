use Rattle.std.proofs.Common.{◌≡◌, map, length}
use Rattle.std.specs.List.{range_with_len}
use Rattle.cond_stats.proofs.InOrderFacts.{value_at}
use Rattle.cond_stats.proofs.LeavesFound.{cut_place}
use Rattle.cond_stats.proofs.cuts.cuts_of.Given as goal

abbrev pub invariant-loop-i : goal.invariant-loop-i
invariant-loop-i l = l.cuts.items ≡ map (λ i. value_at l.cells l.places (cut_place (length l.places) i)) (range_with_len 0 l.i)
