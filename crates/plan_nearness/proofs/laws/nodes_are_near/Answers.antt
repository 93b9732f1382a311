use Rattle.plan_nearness.proofs.NodesNear.{nodes_near}
use Rattle.plan_nearness.proofs.laws.nodes_are_near.Goals as goal

pub returns : goal.returns
returns c = λ query tables accuracy budget plan none some within_limit made. nodes_near query tables accuracy budget plan none some within_limit made
