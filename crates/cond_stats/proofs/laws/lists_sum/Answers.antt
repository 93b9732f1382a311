use Rattle.cond_stats.proofs.Sums.{sum-whole, sum-rest, sum-list_of_value, sum-list_of_node}
use Rattle.cond_stats.proofs.laws.lists_sum.Goals as goal

pub returns-clause-whole : goal.returns-clause-whole
returns-clause-whole c = sum-whole

pub returns-clause-frequent : goal.returns-clause-frequent
returns-clause-frequent c = sum-list_of_value

pub returns-clause-rest : goal.returns-clause-rest
returns-clause-rest c = sum-rest

pub returns-clause-node : goal.returns-clause-node
returns-clause-node c = sum-list_of_node
