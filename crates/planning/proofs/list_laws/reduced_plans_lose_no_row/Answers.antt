use Rattle.reduced_scans.specs.Rounds.{reduced_of}
use Rattle.planning.proofs.ListedPlans.{is_plan_over, never_memory_over}
use Rattle.planning.proofs.ReducedPlans.{last_reduced, reduced_of_scans}
use Rattle.planning.proofs.list_laws.reduced_plans_lose_no_row.Goals as goal

pub returns-clause-lists : goal.returns-clause-lists
returns-clause-lists c = reduced_of_scans

pub returns-clause-plan : goal.returns-clause-plan
returns-clause-plan c =
    λ query tables accuracy budget plan within_limit budget_within_limit made. is_plan_over query tables (reduced_of query tables) accuracy budget plan made (reduced_of_scans query tables) within_limit budget_within_limit

pub returns-clause-last : goal.returns-clause-last
returns-clause-last c = last_reduced

pub returns-clause-no_memory : goal.returns-clause-no_memory
returns-clause-no_memory c = λ query tables accuracy budget. never_memory_over query tables (reduced_of query tables) accuracy budget
