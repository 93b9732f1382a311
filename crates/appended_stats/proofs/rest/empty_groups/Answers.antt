use Rattle.appended_stats.proofs.Groups.{one_empty_more}
use Rattle.appended_stats.proofs.rest.empty_groups.Goals as goal

pub loop-i-preserved : goal.loop-i-preserved
loop-i-preserved c = one_empty_more c.loop-i.groups c.push.new.self c.loop-i.i c.new.result c.loop-i.invariant c.new.ensures c.in_ok-push.ensures.ok
