use Rattle.planning.proofs.SmallReductions.{chain_plan, chain_reduced}
use Rattle.planning.proofs.reduced_examples.along_a_chain.Goals as goal

pub returns-clause-reduced : goal.returns-clause-reduced
returns-clause-reduced c = chain_reduced

pub returns-clause-plan : goal.returns-clause-plan
returns-clause-plan c = chain_plan
