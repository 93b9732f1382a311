use Rattle.planning.proofs.SmallAnswers.{crossed_answer, crossed_reduced}
use Rattle.planning.proofs.reduced_examples.a_crossed_triangle.Goals as goal

pub returns-clause-reduced : goal.returns-clause-reduced
returns-clause-reduced c = crossed_reduced

pub returns-clause-answer : goal.returns-clause-answer
returns-clause-answer c = crossed_answer
