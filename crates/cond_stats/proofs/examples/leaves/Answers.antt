use Rattle.std.proofs.Common.{refl}
use Rattle.cond_stats.specs.Leaves.{cuts}
use Rattle.cond_stats.specs.Lists.{rest, list_of_value, list_of_node}
use Rattle.cond_stats.proofs.examples.leaves.Goals as goal

pub returns-clause-cuts : goal.returns-clause-cuts
unfolding cuts rest list_of_value list_of_node
returns-clause-cuts c = refl

pub returns-clause-five : goal.returns-clause-five
unfolding cuts rest list_of_value list_of_node
returns-clause-five c = refl

pub returns-clause-two : goal.returns-clause-two
unfolding cuts rest list_of_value list_of_node
returns-clause-two c = refl

pub returns-clause-node : goal.returns-clause-node
unfolding cuts rest list_of_value list_of_node
returns-clause-node c = refl

pub returns-clause-range : goal.returns-clause-range
unfolding cuts rest list_of_value list_of_node
returns-clause-range c = refl

pub returns-clause-one_of_three : goal.returns-clause-one_of_three
unfolding cuts rest list_of_value list_of_node
returns-clause-one_of_three c = refl

pub returns-clause-two_of_three : goal.returns-clause-two_of_three
unfolding cuts rest list_of_value list_of_node
returns-clause-two_of_three c = refl

pub returns-clause-three_of_three : goal.returns-clause-three_of_three
unfolding cuts rest list_of_value list_of_node
returns-clause-three_of_three c = refl

pub returns-clause-no_cuts : goal.returns-clause-no_cuts
unfolding cuts rest list_of_value list_of_node
returns-clause-no_cuts c = refl

pub returns-clause-no_leaf : goal.returns-clause-no_leaf
unfolding cuts rest list_of_value list_of_node
returns-clause-no_leaf c = refl

pub returns-clause-no_rows : goal.returns-clause-no_rows
unfolding cuts rest list_of_value list_of_node
returns-clause-no_rows c = refl
