use Rattle.planning.proofs.SmallPlans.{finer_sets, small_plan, small_refusal, scan_bounds_within_tables, small_sets}
use Rattle.planning.proofs.examples.small_plans.Goals as goal

pub returns-clause-scans : goal.returns-clause-scans
returns-clause-scans c = scan_bounds_within_tables

pub returns-clause-sets : goal.returns-clause-sets
returns-clause-sets c = small_sets

pub returns-clause-finer : goal.returns-clause-finer
returns-clause-finer c = finer_sets

pub returns-clause-plan : goal.returns-clause-plan
returns-clause-plan c = small_plan

pub returns-clause-over : goal.returns-clause-over
returns-clause-over c = small_refusal
