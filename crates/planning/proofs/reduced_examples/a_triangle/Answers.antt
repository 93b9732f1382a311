use Rattle.planning.proofs.SmallReductions.{triangle_plan, triangle_reduced}
use Rattle.planning.proofs.reduced_examples.a_triangle.Goals as goal

pub returns-clause-reduced : goal.returns-clause-reduced
returns-clause-reduced c = triangle_reduced

pub returns-clause-plan : goal.returns-clause-plan
returns-clause-plan c = triangle_plan
