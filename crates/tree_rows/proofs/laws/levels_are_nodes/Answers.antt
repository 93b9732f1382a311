use Rattle.tree_rows.proofs.OrderNodes.{level_bound, level_entries}
use Rattle.tree_rows.proofs.laws.levels_are_nodes.Goals as goal

pub returns-clause-entries : goal.returns-clause-entries
returns-clause-entries c = λ n plan k is. level_entries n plan is k

pub returns-clause-bounds : goal.returns-clause-bounds
returns-clause-bounds c = λ n plan k is. level_bound n plan is k
