use Rattle.std.proofs.Common.{◌≡◌, ◌∙◌, List, map, sym, subst}
use Rattle.std.specs.Prelude.{IfOk}
use Rattle.std.specs.List.{AllByRecursion}
use Rattle.degree_sequences.specs.Saturation.{saturated}
use Rattle.berge_tree.specs.declared.tree.Tree.{Tree}
use Rattle.berge_tree.specs.Boxed.{tree_of}
use Rattle.tree_bounds.specs.TreeBounds.{bound_of_trees}
use Rattle.bound_fold.specs.Lists.{bounds_of, TreeHasBounds}
use Rattle.bound_fold.proofs.SetBounds.{trees_have_bounds, turn_done}
use Rattle.bound_fold.proofs.sets.turn_bound.Goals as goal

pub product_of_trees-requires : goal.product_of_trees-requires
product_of_trees-requires c =
    subst (λ (trees : List Tree). AllByRecursion (TreeHasBounds c.args.lists.now) (map tree_of trees)) (sym c.as_slice-2.ensures)
    (trees_have_bounds c.args.parts.now.equalities c.args.subset c.args.turn c.as_slice.result.now (c.as_slice.ensures ∙ c.in_ok-edges.ensures.computed) (map tree_of c.in_ok-trees.trees)
    c.in_ok-trees.ensures c.args.lists.now c.requires)

pub returns : goal.returns
returns c =
    turn_done c.args.parts.now.equalities c.args.subset c.args.turn c.as_slice.result.now (c.as_slice.ensures ∙ c.in_ok-edges.ensures.computed) (map tree_of c.in_ok-trees.trees) c.in_ok-trees.ensures
    (bounds_of c.args.lists.now) c.product_of_trees.result
    (subst (λ (trees : List Tree). IfOk c.product_of_trees.result (λ n. n ≡ saturated (bound_of_trees (bounds_of c.args.lists.now) (map tree_of trees)))) c.as_slice-2.ensures c.product_of_trees.ensures)
