use Rattle.plan_answers.proofs.SmallTrees.{best, plan, budget, past_bits, greatest_cost_refused}
use Rattle.plan_answers.proofs.tree_examples.small_trees.Goals as goal

pub returns-clause-best : goal.returns-clause-best
returns-clause-best c = best

pub returns-clause-plan : goal.returns-clause-plan
returns-clause-plan c = plan

pub returns-clause-budget : goal.returns-clause-budget
returns-clause-budget c = budget

pub returns-clause-past_bits : goal.returns-clause-past_bits
returns-clause-past_bits c = past_bits

pub returns-clause-greatest_cost_refused : goal.returns-clause-greatest_cost_refused
returns-clause-greatest_cost_refused c = greatest_cost_refused
