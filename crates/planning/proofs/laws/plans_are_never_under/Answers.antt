use Rattle.planning.proofs.PlanFacts.{is_best, is_plan, level_fits, level_within, scan_fits, scan_within}
use Rattle.planning.proofs.laws.plans_are_never_under.Goals as goal

pub returns-clause-plan : goal.returns-clause-plan
returns-clause-plan c = is_plan

pub returns-clause-best : goal.returns-clause-best
returns-clause-best c = is_best

pub returns-clause-scans : goal.returns-clause-scans
returns-clause-scans c = λ query tables accuracy budget plan entry made entry_in_range. scan_fits query tables accuracy budget plan made entry entry_in_range

pub returns-clause-levels : goal.returns-clause-levels
returns-clause-levels c =
    λ query tables accuracy budget plan k within_limit budget_within_limit made k_in_range. level_fits query tables accuracy budget plan made k within_limit budget_within_limit k_in_range

pub returns-clause-levels_of_order : goal.returns-clause-levels_of_order
returns-clause-levels_of_order c =
    λ query tables accuracy budget plan k within_limit budget_within_limit made k_in_range. level_fits query tables accuracy budget plan made k within_limit budget_within_limit k_in_range

pub returns-clause-scan_bounds_within_tables : goal.returns-clause-scan_bounds_within_tables
returns-clause-scan_bounds_within_tables c =
    λ query tables accuracy budget plan entry made entry_in_range. scan_within query tables accuracy budget plan made entry entry_in_range

pub returns-clause-level_bounds_within_budget : goal.returns-clause-level_bounds_within_budget
returns-clause-level_bounds_within_budget c = λ query tables accuracy budget plan k made k_in_range. level_within query tables accuracy budget plan made k
