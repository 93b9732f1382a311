use Rattle.cond_stats.proofs.CutLists.{raised_more}
use Rattle.cond_stats.proofs.rest.raise_maxima.Goals as goal

pub loop-i-preserved : goal.loop-i-preserved
loop-i-preserved c =
    raised_more c.args.maxima.now.items c.args.degrees.now c.loop-i.maxima.items c.raise_maximum_at.new.maxima.items c.loop-i.i c.loop-i-test.true c.loop-i.invariant
    c.in_ok-raise_maximum_at.ensures.within c.in_ok-raise_maximum_at.ensures.past
