use Rattle.std.proofs.Common.{rules, arith}
use Rattle.bushy_plan.proofs.Whole.{best_not_dearer, joins_within, plan_from}
use Rattle.bushy_plan.proofs.search.choose_bushy.Goals as goal

pub returns-clause-best : goal.returns-clause-best
returns-clause-best c = search rules

pub returns-clause-scans : goal.returns-clause-scans
returns-clause-scans c = search rules

pub returns-clause-within : goal.returns-clause-within
returns-clause-within c = omega arith

pub returns-clause-plan : goal.returns-clause-plan
returns-clause-plan c within_limit =
    plan_from c.args.bounds.now c.args.scans.now _ within_limit (returns-clause-scans c) (returns-clause-best c)

pub returns-clause-joins : goal.returns-clause-joins
returns-clause-joins c = joins_within c.args.bounds.now _ _ c.args.budget _ (returns-clause-best c) (returns-clause-within c)

pub returns-clause-no_dearer : goal.returns-clause-no_dearer
returns-clause-no_dearer c order is_order =
    best_not_dearer c.args.bounds.now _ _ _ c.requires.not_empty (returns-clause-best c) order is_order
