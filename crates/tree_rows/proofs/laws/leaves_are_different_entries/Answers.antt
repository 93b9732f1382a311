use Rattle.tree_rows.proofs.AllEntries.{root_all}
use Rattle.tree_rows.proofs.Once.{plan_once}
use Rattle.tree_rows.proofs.laws.leaves_are_different_entries.Goals as goal

pub returns-clause-once : goal.returns-clause-once
returns-clause-once c = λ n plan node is node_in_range. (plan_once n plan node is node_in_range).0

pub returns-clause-within : goal.returns-clause-within
returns-clause-within c = λ n plan node is node_in_range. (plan_once n plan node is node_in_range).1

pub returns-clause-all : goal.returns-clause-all
returns-clause-all c = root_all
