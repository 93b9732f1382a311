use Rattle.std.proofs.Common.{refl}
use Rattle.cond_stats.specs.Leaves.{cuts}
use Rattle.cond_stats.specs.Lists.{rest, list_of_value, list_of_node}
use Rattle.table_stats.proofs.examples.columns.Goals as goal

pub returns-clause-numbers : goal.returns-clause-numbers
unfolding cuts rest list_of_value list_of_node
returns-clause-numbers c = refl

pub returns-clause-leaves : goal.returns-clause-leaves
unfolding cuts rest list_of_value list_of_node
returns-clause-leaves c = refl

pub returns-clause-others : goal.returns-clause-others
unfolding cuts rest list_of_value list_of_node
returns-clause-others c = refl
