use Rattle.planning.proofs.SmallReductions.{region_plan, region_reduced}
use Rattle.planning.proofs.reduced_examples.a_filtered_partner.Goals as goal

pub returns-clause-reduced : goal.returns-clause-reduced
returns-clause-reduced c = region_reduced

pub returns-clause-plan : goal.returns-clause-plan
returns-clause-plan c = region_plan
