use Rattle.filtered_lists.proofs.Lists.{sum-filtered, rows_within}
use Rattle.filtered_lists.proofs.laws.row_bounds_are_sums.Goals as goal

pub returns-clause-sum : goal.returns-clause-sum
returns-clause-sum c = sum-filtered

pub returns-clause-rows : goal.returns-clause-rows
returns-clause-rows c = rows_within
