use Rattle.std.proofs.Common.{refl}
use Rattle.cond_stats.specs.Leaves.{cuts}
use Rattle.cond_stats.specs.Lists.{rest, list_of_value, list_of_node}
use Rattle.table_stats.proofs.examples.lists.Goals as goal

pub returns-clause-whole : goal.returns-clause-whole
unfolding cuts rest list_of_value list_of_node
returns-clause-whole c = refl

pub returns-clause-equal : goal.returns-clause-equal
unfolding cuts rest list_of_value list_of_node
returns-clause-equal c = refl

pub returns-clause-absent : goal.returns-clause-absent
unfolding cuts rest list_of_value list_of_node
returns-clause-absent c = refl

pub returns-clause-ranges : goal.returns-clause-ranges
unfolding cuts rest list_of_value list_of_node
returns-clause-ranges c = refl

pub returns-clause-ends_swapped : goal.returns-clause-ends_swapped
unfolding cuts rest list_of_value list_of_node
returns-clause-ends_swapped c = refl

pub returns-clause-no_rows : goal.returns-clause-no_rows
unfolding cuts rest list_of_value list_of_node
returns-clause-no_rows c = refl
