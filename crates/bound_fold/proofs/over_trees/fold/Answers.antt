use Rattle.std.proofs.Common.{◌≡◌, ◌⊎◌, ◌∙◌, ◌-◌, ◌^◌, ◌≤◌, List, ℕ, ap, length, map, sym}
use Rattle.std.specs.Prelude.{Option, unwrap_or}
use Rattle.std.specs.List.{AllByRecursion}
use Rattle.degree_sequences.specs.Composition.{root_total}
use Rattle.degree_sequences.specs.Saturation.{saturated}
use Rattle.piece_math.specs.Children.{lists_of}
use Rattle.berge_tree.specs.Boxed.{classes_of, tree_of}
use Rattle.berge_tree.specs.Trees.{entries}
use Rattle.tree_bounds.specs.Tables.{KeyedTables, Agrees, ChoicesAreDifferent, TreeDominates}
use Rattle.tree_bounds.specs.TreeBounds.{bound_of_tree}
use Rattle.bound_fold.specs.Lists.{bounds_of}
use Rattle.bound_fold.proofs.Below.{if_ok, columns_total, lists_of_children, root_done}
use Rattle.bound_fold.proofs.Folded.{choices_bounded}
use Rattle.bound_fold.proofs.over_trees.fold.Goals as goal

pub root_total-requires : goal.root_total-requires
root_total-requires c = record {
  columns = columns_total c.args.lists.now c.args.tree.now.root (classes_of c.args.tree.now.below) c.unwrap-rows.result c.as_slice.result.now c.requires.columns
      (lists_of_children (bounds_of c.args.lists.now) c.args.tree.now.root (classes_of c.args.tree.now.below) c.new-children.result.items c.add_children.new.children.items c.as_slice.result.now
      c.as_slice.ensures.value c.in_ok-add_children.ensures c.new-children.ensures.items)
      (ap (λ (o : Option ℕ). unwrap_or o 0) (sym c.rows.ensures ∙ c.unwrap-rows.ensures));
}

pub returns-clause-exact : goal.returns-clause-exact
returns-clause-exact c =
    if_ok (λ n. n ≡ saturated (root_total (map lists_of c.as_slice.result.now) c.unwrap-rows.result))
    (λ n. n ≡ saturated (bound_of_tree (bounds_of c.args.lists.now) (tree_of c.args.tree.now))) c.root_total.result
    (λ n is. root_done (bounds_of c.args.lists.now) (tree_of c.args.tree.now) c.unwrap-rows.result n c.as_slice.result.now
    (lists_of_children (bounds_of c.args.lists.now) c.args.tree.now.root (classes_of c.args.tree.now.below) c.new-children.result.items c.add_children.new.children.items c.as_slice.result.now
    c.as_slice.ensures.value c.in_ok-add_children.ensures c.new-children.ensures.items)
    (sym (ap (λ (o : Option ℕ). unwrap_or o 0) (sym c.rows.ensures ∙ c.unwrap-rows.ensures))) is) c.root_total.ensures

pub returns-clause-never_under : goal.returns-clause-never_under
returns-clause-never_under c =
    if_ok (λ n. n ≡ saturated (bound_of_tree (bounds_of c.args.lists.now) (tree_of c.args.tree.now)))
    (λ n. (tables : KeyedTables) → TreeDominates (bounds_of c.args.lists.now) tables (tree_of c.args.tree.now)
    → (choices : List (ℕ → ℕ)) → AllByRecursion (Agrees tables (tree_of c.args.tree.now)) choices → ChoicesAreDifferent (entries (tree_of c.args.tree.now)) choices → (length choices ≤ n) ⊎ (n ≡ 2 ^ 128 - 1))
    c.root_total.result
    (λ n is. choices_bounded c.args.lists.now (tree_of c.args.tree.now) n c.requires is) (returns-clause-exact c)
