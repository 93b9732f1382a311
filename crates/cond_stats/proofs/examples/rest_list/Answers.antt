use Rattle.std.proofs.Common.{refl}
use Rattle.cond_stats.specs.Leaves.{cuts}
use Rattle.cond_stats.specs.Lists.{rest, list_of_value, list_of_node}
use Rattle.cond_stats.proofs.examples.rest_list.Goals as goal

pub returns-clause-remain : goal.returns-clause-remain
unfolding cuts rest list_of_value list_of_node
returns-clause-remain c = refl

pub returns-clause-rest : goal.returns-clause-rest
unfolding cuts rest list_of_value list_of_node
returns-clause-rest c = refl
