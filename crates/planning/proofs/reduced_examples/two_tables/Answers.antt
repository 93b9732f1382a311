use Rattle.planning.proofs.SmallAnswers.{pair_answer}
use Rattle.planning.proofs.SmallReductions.{pair_plan, pair_reduced}
use Rattle.planning.proofs.reduced_examples.two_tables.Goals as goal

pub returns-clause-reduced : goal.returns-clause-reduced
returns-clause-reduced c = pair_reduced

pub returns-clause-plan : goal.returns-clause-plan
returns-clause-plan c = pair_plan

pub returns-clause-answer : goal.returns-clause-answer
returns-clause-answer c = pair_answer
