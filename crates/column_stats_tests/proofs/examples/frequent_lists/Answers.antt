use Rattle.std.proofs.Common.{refl}
use Rattle.cond_stats.specs.Leaves.{cuts}
use Rattle.cond_stats.specs.Lists.{rest, list_of_value, list_of_node}
use Rattle.column_stats_tests.proofs.examples.frequent_lists.Goals as goal

pub returns-clause-frequent : goal.returns-clause-frequent
unfolding cuts rest list_of_value list_of_node
returns-clause-frequent c = refl

pub returns-clause-all_rows : goal.returns-clause-all_rows
unfolding cuts rest list_of_value list_of_node
returns-clause-all_rows c = refl

pub returns-clause-all_rows_nearer : goal.returns-clause-all_rows_nearer
unfolding cuts rest list_of_value list_of_node
returns-clause-all_rows_nearer c = refl
