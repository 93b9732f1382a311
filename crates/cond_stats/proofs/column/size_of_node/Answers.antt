use Rattle.std.proofs.Common.{refl, arith}
use Rattle.cond_stats.proofs.column.size_of_node.Goals as goal

pub returns-then-share_a_node-3-clause-dyadic : goal.returns-then-share_a_node-3-clause-dyadic
returns-then-share_a_node-3-clause-dyadic c = (2, omega arith, refl)

pub returns-then-share_a_node-4-clause-dyadic : goal.returns-then-share_a_node-4-clause-dyadic
returns-then-share_a_node-4-clause-dyadic c = (3, omega arith, refl)

pub returns-then-share_a_node-5-clause-dyadic : goal.returns-then-share_a_node-5-clause-dyadic
returns-then-share_a_node-5-clause-dyadic c = (4, omega arith, refl)
