use Rattle.std.proofs.Common.{◌≡◌, ◌∙◌, ◌++◌, List, ℕ, ap, map, sum, sym}
use Rattle.degree_sequences.specs.ByRank.{rank_product}
use Rattle.degree_sequences.specs.Composition.{composed}
use Rattle.degree_sequences.specs.Saturation.{saturated}
use Rattle.piece_math.specs.Children.{lists_of}
use Rattle.berge_tree.specs.Boxed.{classes_of, members_of}
use Rattle.tree_bounds.specs.Saturating.{saturated_class}
use Rattle.tree_bounds.specs.TreeBounds.{child_lists, class_list}
use Rattle.bound_fold.specs.Lists.{bounds_of}
use Rattle.bound_fold.proofs.Below.{if_ok, list_of_lookup, list_sum_fits, list_total, columns_total, lists_of_children, one_more_class, entry_done, class_done}
use Rattle.bound_fold.proofs.over_trees.+folding.Goals as goal

pub add_children-returns-in_ok-push-in-And : goal.add_children-returns-in_ok-push-in-And
add_children-returns-in_ok-push-in-And t c =
    if_ok (λ u. map lists_of c.add_children.new.children.items ≡ map lists_of c.push.new.self.items ++ map saturated_class (child_lists (bounds_of c.args.lists.now) c.args.entry (classes_of c.deref-in-And.result.now)))
    (λ u. map lists_of c.add_children.new.children.items ≡ map lists_of c.args.children.now.items ++ map saturated_class (child_lists (bounds_of c.args.lists.now) c.args.entry (classes_of c.args.below.now)))
    c.add_children.result
    (λ u is. one_more_class (bounds_of c.args.lists.now) c.args.entry c.in-And.column (members_of c.in-And.members.value) (classes_of c.in-And.rest.value) c.args.children.now.items
    c.push.new.self.items c.add_children.new.children.items c.in_ok-column-in-And.column c.in_ok-class-in-And.class
    (c.in_ok-column-in-And.ensures ∙ list_of_lookup c.list.result c.unwrap-list.result _ c.list.ensures c.unwrap-list.ensures)
    (c.in_ok-class-in-And.ensures ∙ ap (λ boxes. map saturated (class_list (bounds_of c.args.lists.now) (members_of boxes))) c.deref.ensures) c.in_ok-push-in-And.ensures.items
    (is ∙ ap (λ boxes. map lists_of c.push.new.self.items ++ map saturated_class (child_lists (bounds_of c.args.lists.now) c.args.entry (classes_of boxes))) c.deref-in-And.ensures)
    ∙ ap (λ boxes. map lists_of c.args.children.now.items ++ map saturated_class (child_lists (bounds_of c.args.lists.now) c.args.entry (classes_of boxes))) (sym c.in-And.is)) c.add_children.ensures

pub class_list-returns-in_ok-others-in-And : goal.class_list-returns-in_ok-others-in-And
class_list-returns-in_ok-others-in-And t c =
    if_ok (λ (list : List ℕ). list ≡ map saturated (rank_product c.in_ok-own-in-And.own c.in_ok-others-in-And.others))
    (λ (list : List ℕ). list ≡ map saturated (class_list (bounds_of c.args.lists.now) (members_of c.args.members.now))) c.product.result
    (λ list is. class_done (bounds_of c.args.lists.now) c.in-And.entry c.in-And.column (classes_of c.in-And.below) (members_of c.in-And.rest.value) c.in_ok-own-in-And.own
    c.in_ok-others-in-And.others list c.in_ok-own-in-And.ensures
    (c.in_ok-others-in-And.ensures ∙ ap (λ boxes. map saturated (class_list (bounds_of c.args.lists.now) (members_of boxes))) c.deref.ensures) is
    ∙ ap (λ boxes. map saturated (class_list (bounds_of c.args.lists.now) (members_of boxes))) (sym c.in-And.is)) c.product.ensures.value

pub entry_list-own_list-requires : goal.entry_list-own_list-requires
entry_list-own_list-requires t c =
    list_sum_fits c.args.lists.now c.args.entry c.args.column c.unwrap-list.result.now (list_of_lookup c.list.result c.unwrap-list.result _ c.list.ensures c.unwrap-list.ensures) c.requires.own

pub entry_list-compose-requires-clause-columns : goal.entry_list-compose-requires-clause-columns
entry_list-compose-requires-clause-columns t c =
    columns_total c.args.lists.now c.args.entry (classes_of c.args.below.now) (sum c.unwrap-list.result.now) c.as_slice.result.now c.requires.others
    (lists_of_children (bounds_of c.args.lists.now) c.args.entry (classes_of c.args.below.now) c.new-children.result.items c.add_children.new.children.items c.as_slice.result.now c.as_slice.ensures.value
    c.in_ok-add_children-in-And.ensures c.new-children.ensures.items)
    (sym (ap sum (list_of_lookup c.list.result c.unwrap-list.result _ c.list.ensures c.unwrap-list.ensures) ∙ list_total c.args.lists.now c.args.entry c.args.column c.requires.own))

pub entry_list-compose-requires-clause-small : goal.entry_list-compose-requires-clause-small
entry_list-compose-requires-clause-small t c =
    list_sum_fits c.args.lists.now c.args.entry c.args.column c.unwrap-list.result.now (list_of_lookup c.list.result c.unwrap-list.result _ c.list.ensures c.unwrap-list.ensures) c.requires.own

pub entry_list-returns-in_ok-add_children-in-And : goal.entry_list-returns-in_ok-add_children-in-And
entry_list-returns-in_ok-add_children-in-And t c =
    if_ok (λ (list : List ℕ). list ≡ map saturated (composed c.unwrap-list.result.now (map lists_of c.as_slice.result.now)))
    (λ (list : List ℕ). list ≡ map saturated (composed ((bounds_of c.args.lists.now).list c.args.entry c.args.column) (child_lists (bounds_of c.args.lists.now) c.args.entry (classes_of c.args.below.now))))
    c.compose.result
    (λ list is. entry_done (bounds_of c.args.lists.now) c.args.entry c.args.column (classes_of c.args.below.now) c.as_slice.result.now c.unwrap-list.result.now list
    (lists_of_children (bounds_of c.args.lists.now) c.args.entry (classes_of c.args.below.now) c.new-children.result.items c.add_children.new.children.items c.as_slice.result.now c.as_slice.ensures.value
    c.in_ok-add_children-in-And.ensures c.new-children.ensures.items)
    (list_of_lookup c.list.result c.unwrap-list.result _ c.list.ensures c.unwrap-list.ensures) is) c.compose.ensures.value
