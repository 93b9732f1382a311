use Rattle.appended_stats.proofs.Walks.{one_sum_more}
use Rattle.appended_stats.proofs.nodes.sums_by_rank.Goals as goal

pub loop-i-preserved : goal.loop-i-preserved
loop-i-preserved c =
    one_sum_more c.args.lists.now c.args.others.now c.loop-i.sums c.push.new.self c.loop-i.i c.index-lists-i.result c.index-others-i.result c.in_ok-sum_by_rank.field-0 c.loop-i-test.true
    c.requires.same_count c.loop-i.invariant c.index-lists-i.is c.index-others-i.is c.in_ok-sum_by_rank.ensures c.in_ok-push.ensures.ok
