use Rattle.plan_nearness.proofs.LevelsNear.{default_near}
use Rattle.plan_nearness.proofs.laws.default_levels_are_near.Goals as goal

pub returns : goal.returns
returns c = λ query tables budget plan k none within_limit made k_in_range. default_near query tables budget plan none within_limit made k k_in_range
