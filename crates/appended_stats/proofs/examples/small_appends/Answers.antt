use Rattle.std.proofs.Common.{refl}
use Rattle.cond_stats.specs.Leaves.{cuts}
use Rattle.cond_stats.specs.Lists.{list_of_node, rest}
use Rattle.appended_stats.proofs.examples.small_appends.Goals as goal

pub returns-clause-rest : goal.returns-clause-rest
unfolding rest
returns-clause-rest c = refl

pub returns-clause-leaf_15 : goal.returns-clause-leaf_15
unfolding cuts list_of_node
returns-clause-leaf_15 c = refl

pub returns-clause-leaf_31 : goal.returns-clause-leaf_31
unfolding cuts list_of_node
returns-clause-leaf_31 c = refl

pub returns-clause-all_leaves : goal.returns-clause-all_leaves
unfolding cuts list_of_node
returns-clause-all_leaves c = refl

pub returns-clause-new_value : goal.returns-clause-new_value
unfolding rest
returns-clause-new_value c = refl

pub returns-clause-no_rows : goal.returns-clause-no_rows
unfolding cuts list_of_node rest
returns-clause-no_rows c = refl
