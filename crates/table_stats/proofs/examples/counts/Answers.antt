use Rattle.std.proofs.Common.{refl}
use Rattle.cond_stats.specs.Leaves.{cuts}
use Rattle.cond_stats.specs.Lists.{rest, list_of_value, list_of_node}
use Rattle.table_stats.proofs.examples.counts.Goals as goal

pub returns-clause-whole : goal.returns-clause-whole
unfolding cuts rest list_of_value list_of_node
returns-clause-whole c = refl

pub returns-clause-equal : goal.returns-clause-equal
unfolding cuts rest list_of_value list_of_node
returns-clause-equal c = refl

pub returns-clause-ranges : goal.returns-clause-ranges
unfolding cuts rest list_of_value list_of_node
returns-clause-ranges c = refl
