use Rattle.filtered_lists.proofs.Counting.{list_dominates, sum_is_enough, count_is_enough}
use Rattle.filtered_lists.proofs.laws.filters_are_never_under.Goals as goal

pub returns-clause-list : goal.returns-clause-list
returns-clause-list c = list_dominates

pub returns-clause-sum : goal.returns-clause-sum
returns-clause-sum c = sum_is_enough

pub returns-clause-rows : goal.returns-clause-rows
returns-clause-rows c = count_is_enough
