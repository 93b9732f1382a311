use Rattle.stats_file_bounds.proofs.SmallPlans.{small_plan, small_refusal}
use Rattle.stats_file_bounds.proofs.examples.small_plans.Goals as goal

pub returns-clause-plan : goal.returns-clause-plan
returns-clause-plan c = small_plan

pub returns-clause-over : goal.returns-clause-over
returns-clause-over c = small_refusal
