use Rattle.std.proofs.Common.{rules}
use Rattle.order_search.proofs.Prefixes.{plan_from}
use Rattle.order_search.proofs.search.choose.Goals as goal

pub returns-clause-best : goal.returns-clause-best
returns-clause-best c = search rules

pub returns-clause-levels : goal.returns-clause-levels
returns-clause-levels c = search rules

pub returns-clause-scans : goal.returns-clause-scans
returns-clause-scans c = search rules

pub returns-clause-plan : goal.returns-clause-plan
returns-clause-plan c =
    plan_from c.args.bounds.now c.args.scans.now _ (returns-clause-best c).is_order (returns-clause-levels c) (returns-clause-scans c)
