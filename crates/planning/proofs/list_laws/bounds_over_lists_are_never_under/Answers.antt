use Rattle.planning.proofs.ListedPlans.{level_never_under_over}
use Rattle.planning.proofs.list_laws.bounds_over_lists_are_never_under.Goals as goal

pub returns : goal.returns
returns c = λ query tables lists accuracy subset order are fits o. level_never_under_over query tables lists accuracy subset order are fits o
