use Rattle.std.proofs.Common.{refl}
use Rattle.cond_stats.specs.Leaves.{cuts}
use Rattle.cond_stats.specs.Lists.{rest, list_of_node}
use Rattle.column_stats.proofs.examples.no_rows.Goals as goal

pub returns-clause-cuts : goal.returns-clause-cuts
unfolding cuts rest list_of_node
returns-clause-cuts c = refl

pub returns-clause-nodes : goal.returns-clause-nodes
unfolding cuts rest list_of_node
returns-clause-nodes c = refl

pub returns-clause-leaf : goal.returns-clause-leaf
unfolding cuts rest list_of_node
returns-clause-leaf c = refl

pub returns-clause-range : goal.returns-clause-range
unfolding cuts rest list_of_node
returns-clause-range c = refl
