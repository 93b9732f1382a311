use Rattle.safebound_laws.proofs.AppendFacts.{append_plans}
use Rattle.safebound_laws.proofs.appends.plans_after_an_append_are_never_under.Goals as goal

pub returns : goal.returns
returns c = append_plans
