use Rattle.std.proofs.Common.{sym, subst}
use Rattle.berge_tree.specs.Rooted.{AreAllTreesOf}
use Rattle.entry_sets.specs.Sets.{entries_of_set}
use Rattle.join_graph.specs.Kept.{kept_of}
use Rattle.tree_bounds.proofs.OneForest.{one_forest}
use Rattle.tree_bounds.proofs.Turns.{trees_exist, trees_are}
use Rattle.tree_bounds.proofs.laws.trees_are_unique.Goals as goal

pub returns-clause-one : goal.returns-clause-one
returns-clause-one c = one_forest

pub returns-clause-computed : goal.returns-clause-computed
returns-clause-computed c = λ es subset turn trees.
    (trees_are es subset turn trees, λ e. subst (AreAllTreesOf (kept_of subset turn es) (entries_of_set subset)) (sym e) (trees_exist es subset turn))
