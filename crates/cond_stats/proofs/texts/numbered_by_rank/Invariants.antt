use Rattle.std.proofs.Common.{◌≡◌, map, take}
use Rattle.cond_stats.specs.Texts.{rank_or_zero}
use Rattle.cond_stats.proofs.texts.numbered_by_rank.Given as goal

abbrev pub invariant-loop-cell : goal.invariant-loop-cell
invariant-loop-cell l = l.numbers.items ≡ map (rank_or_zero l.text_numbers.keys) (take l.cell-index l.cells)
