use Rattle.planning.proofs.SmallAnswers.{never_answer}
use Rattle.planning.proofs.SmallReductions.{never_reduced}
use Rattle.planning.proofs.reduced_examples.a_condition_without_entries.Goals as goal

pub returns-clause-reduced : goal.returns-clause-reduced
returns-clause-reduced c = never_reduced

pub returns-clause-answer : goal.returns-clause-answer
returns-clause-answer c = never_answer
