use Rattle.std.proofs.Common.{refl}
use Rattle.cond_stats.specs.Leaves.{cuts}
use Rattle.cond_stats.specs.Lists.{rest, list_of_node}
use Rattle.column_stats.proofs.examples.ends_swapped.Goals as goal

pub returns : goal.returns
unfolding cuts rest list_of_node
returns c = refl
