use Rattle.std.proofs.Common.{refl}
use Rattle.cond_stats.specs.Leaves.{cuts}
use Rattle.cond_stats.specs.Lists.{rest, list_of_node}
use Rattle.column_stats.proofs.examples.six_rows.Goals as goal

pub returns-clause-value : goal.returns-clause-value
unfolding cuts rest list_of_node
returns-clause-value c = refl

pub returns-clause-absent : goal.returns-clause-absent
unfolding cuts rest list_of_node
returns-clause-absent c = refl

pub returns-clause-leaf : goal.returns-clause-leaf
unfolding cuts rest list_of_node
returns-clause-leaf c = refl

pub returns-clause-range : goal.returns-clause-range
unfolding cuts rest list_of_node
returns-clause-range c = refl

pub returns-clause-all : goal.returns-clause-all
unfolding cuts rest list_of_node
returns-clause-all c = refl

pub returns-clause-nodes : goal.returns-clause-nodes
unfolding cuts rest list_of_node
returns-clause-nodes c = refl
