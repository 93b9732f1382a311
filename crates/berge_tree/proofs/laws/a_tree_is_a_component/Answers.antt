use Rattle.berge_tree.specs.Trees.{entries}
use Rattle.berge_tree.proofs.NoCycle.{has_no_cycle}
use Rattle.berge_tree.proofs.Separate.{once_tree, one_side, pairs_from}
use Rattle.berge_tree.proofs.Closed.{closed_tree}
use Rattle.berge_tree.proofs.laws.a_tree_is_a_component.Goals as goal

pub returns-clause-has_all_connected : goal.returns-clause-has_all_connected
returns-clause-has_all_connected c = λ es t tree p q k e. closed_tree es t tree.columns tree.follows p q k e

pub returns-clause-has_no_unconnected : goal.returns-clause-has_no_unconnected
returns-clause-has_no_unconnected c = λ es t closes tree side const. one_side es (has_no_cycle es closes) t tree.columns tree.follows side const

pub returns-clause-entries_once : goal.returns-clause-entries_once
returns-clause-entries_once c = λ es t closes tree. pairs_from (entries t) (once_tree es (has_no_cycle es closes) t tree.columns tree.follows)
