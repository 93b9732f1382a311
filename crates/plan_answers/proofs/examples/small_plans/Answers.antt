use Rattle.plan_answers.proofs.SmallPlans.{best, first_of_equal, dearer, plan, budget, refused_past_bits, avoided, greatest_cost_refused, bounds_above_top}
use Rattle.plan_answers.proofs.examples.small_plans.Goals as goal

pub returns-clause-best : goal.returns-clause-best
returns-clause-best c = best

pub returns-clause-first_of_equal : goal.returns-clause-first_of_equal
returns-clause-first_of_equal c = first_of_equal

pub returns-clause-dearer : goal.returns-clause-dearer
returns-clause-dearer c = dearer

pub returns-clause-plan : goal.returns-clause-plan
returns-clause-plan c = plan

pub returns-clause-budget : goal.returns-clause-budget
returns-clause-budget c = budget

pub returns-clause-past_bits : goal.returns-clause-past_bits
returns-clause-past_bits c = refused_past_bits

pub returns-clause-avoided : goal.returns-clause-avoided
returns-clause-avoided c = avoided

pub returns-clause-greatest_cost_refused : goal.returns-clause-greatest_cost_refused
returns-clause-greatest_cost_refused c = greatest_cost_refused

pub returns-clause-bounds_above_top : goal.returns-clause-bounds_above_top
returns-clause-bounds_above_top c = bounds_above_top
