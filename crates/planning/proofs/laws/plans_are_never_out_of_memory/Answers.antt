use Rattle.planning.proofs.PlanFacts.{planned_never_out_of_memory}
use Rattle.planning.proofs.laws.plans_are_never_out_of_memory.Goals as goal

pub returns : goal.returns
returns c = planned_never_out_of_memory
