use Rattle.std.proofs.Common.{arith}
use Rattle.plans.proofs.tree_laws.tree_examples.Goals as goal

pub returns-clause-itself : goal.returns-clause-itself
returns-clause-itself c h = absurd (omega (arith, h.behind.2.1))
