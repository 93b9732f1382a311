use Rattle.planning.proofs.ListedPlans.{is_best_over, is_plan_over, level_within_over, never_memory_over, scan_is}
use Rattle.planning.proofs.list_laws.plans_over_lists_are_never_under.Goals as goal

pub returns-clause-plan : goal.returns-clause-plan
returns-clause-plan c = λ query tables lists accuracy budget plan are within_limit budget_within_limit made. is_plan_over query tables lists accuracy budget plan made are within_limit budget_within_limit

pub returns-clause-best : goal.returns-clause-best
returns-clause-best c = is_best_over

pub returns-clause-scans : goal.returns-clause-scans
returns-clause-scans c = λ query tables lists accuracy budget plan entry made entry_in_range. scan_is query tables lists accuracy budget plan made entry entry_in_range

pub returns-clause-levels : goal.returns-clause-levels
returns-clause-levels c = λ query tables lists accuracy budget plan k made. level_within_over query tables lists accuracy budget plan made k

pub returns-clause-no_memory : goal.returns-clause-no_memory
returns-clause-no_memory c = never_memory_over
