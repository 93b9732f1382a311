use Rattle.std.proofs.Common.{◌∙◌, sym, subst, arith}
use Rattle.berge_tree.specs.declared.tree.Tree.{Tree}
use Rattle.berge_tree.specs.Boxed.{tree_of}
use Rattle.bound_fold.specs.Lists.{bounds_of, TreeHasBounds}
use Rattle.bound_fold.proofs.SetBounds.{tree_has_bounds, one_more_tree, all_trees}
use Rattle.bound_fold.proofs.sets.product_of_trees.Goals as goal

pub fold-requires : goal.fold-requires
fold-requires c =
    subst (λ (tree : Tree). TreeHasBounds c.args.lists.now (tree_of tree)) (sym c.tree-item.is)
    (tree_has_bounds c.args.lists.now c.args.trees.now c.loop-tree.tree-index c.tree-item.result c.requires c.loop-tree-test.true)

pub loop-tree-preserved : goal.loop-tree-preserved
loop-tree-preserved c =
    c.saturating_mul-product.ensures
    ∙ one_more_tree (bounds_of c.args.lists.now) c.args.trees.now c.loop-tree.tree-index c.tree-item.result c.loop-tree.product c.in_ok-fold.field-0 c.loop-tree-test.true c.tree-item.is
    c.loop-tree.invariant c.in_ok-fold.ensures.exact

pub returns : goal.returns
returns c = all_trees (bounds_of c.args.lists.now) c.args.trees.now c.loop-tree.product c.loop-tree.tree-index (omega arith) c.loop-tree.invariant
