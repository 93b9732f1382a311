use Rattle.table_stats.proofs.Dominating.{listed_stand, lists_stand}
use Rattle.table_stats.proofs.Summing.{counts_stand}
use Rattle.table_stats.proofs.laws.statistics_stand_for_tables.Goals as goal

pub returns-clause-lists : goal.returns-clause-lists
returns-clause-lists c = lists_stand

pub returns-clause-counts : goal.returns-clause-counts
returns-clause-counts c = counts_stand

pub returns-clause-any_joined_list : goal.returns-clause-any_joined_list
returns-clause-any_joined_list c = λ tables accuracy entry joined_values key lengths tells. listed_stand tables accuracy entry joined_values key lengths tells
