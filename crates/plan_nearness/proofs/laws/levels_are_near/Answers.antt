use Rattle.plan_nearness.proofs.LevelsNear.{levels_near}
use Rattle.plan_nearness.proofs.laws.levels_are_near.Goals as goal

pub returns : goal.returns
returns c = λ query tables accuracy budget plan none within_limit made. levels_near query tables accuracy budget plan none within_limit made
