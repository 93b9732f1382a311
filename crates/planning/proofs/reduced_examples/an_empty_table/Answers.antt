use Rattle.planning.proofs.SmallAnswers.{empty_first_plan}
use Rattle.planning.proofs.SmallReductions.{empty_first_reduced}
use Rattle.planning.proofs.reduced_examples.an_empty_table.Goals as goal

pub returns-clause-reduced : goal.returns-clause-reduced
returns-clause-reduced c = empty_first_reduced

pub returns-clause-plan : goal.returns-clause-plan
returns-clause-plan c = empty_first_plan
