use Rattle.table_stats.proofs.Summing.{listed_descend, listed_sum, lists_descend, lists_sum}
use Rattle.table_stats.proofs.laws.lists_sum_to_counts.Goals as goal

pub returns-clause-sums : goal.returns-clause-sums
returns-clause-sums c = lists_sum

pub returns-clause-descends : goal.returns-clause-descends
returns-clause-descends c = lists_descend

pub returns-clause-sums_beside : goal.returns-clause-sums_beside
returns-clause-sums_beside c = λ tables accuracy entry joined_values lengths. listed_sum tables accuracy entry joined_values lengths

pub returns-clause-falls_beside : goal.returns-clause-falls_beside
returns-clause-falls_beside c = listed_descend
