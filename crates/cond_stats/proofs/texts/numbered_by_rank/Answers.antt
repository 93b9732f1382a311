use Rattle.cond_stats.specs.Texts.{rank_or_zero}
use Rattle.cond_stats.proofs.IntNumbers.{map-one_more}
use Rattle.cond_stats.proofs.texts.numbered_by_rank.Goals as goal

pub loop-cell-preserved : goal.loop-cell-preserved
loop-cell-preserved c = map-one_more (rank_or_zero c.args.text_numbers.now.keys) c.args.cells.now c.loop-cell.numbers.items _ c.loop-cell.cell-index c.rank_of.result
    c.loop-cell-test.true c.loop-cell.invariant c.rank_of.ensures c.in_ok-push.ensures.items
