use Rattle.plan_answers.proofs.OneAnswer.{never_out_of_memory}
use Rattle.planning.specs.Bounds.{scan_bounds_of}
use Rattle.key_bounds.specs.Bounds.{set_bounds_by_keys}
use Rattle.key_bounds.specs.Plans.{planned_by_keys}
use Rattle.key_bounds.proofs.Plans.{levels_by_keys, plan_by_keys}
use Rattle.key_bounds.proofs.Standing.{stand_by_keys}
use Rattle.key_bounds.proofs.laws.keys_are_never_under.Goals as goal

pub returns-clause-stand : goal.returns-clause-stand
returns-clause-stand c = λ schema query tables accuracy holds. stand_by_keys schema query tables accuracy holds

pub returns-clause-sets : goal.returns-clause-sets
returns-clause-sets c = λ schema query tables accuracy holds. levels_by_keys schema query tables accuracy holds

pub returns-clause-plans : goal.returns-clause-plans
returns-clause-plans c = λ schema query tables accuracy budget plan holds within_limit budget_within_limit made. plan_by_keys schema query tables accuracy holds budget plan within_limit budget_within_limit made

pub returns-clause-no_memory : goal.returns-clause-no_memory
unfolding planned_by_keys
returns-clause-no_memory c = λ schema query tables accuracy budget. never_out_of_memory (set_bounds_by_keys schema query tables accuracy) (scan_bounds_of query tables accuracy) budget
