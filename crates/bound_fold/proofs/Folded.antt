-- The number that the fold computes for a tree is never below the number of choices.
use Rattle.std.proofs.Common.{◌≡◌, ◌⊎◌, ℕ, ◌-◌, ◌^◌, ◌≤◌, List, [], length, refl, sym, subst}
use Rattle.std.specs.Prelude.{Option, Some, None, IsSome, unwrap_or}
use Rattle.std.specs.List.{AllByRecursion}
use Rattle.degree_sequences.specs.Descending.{IsDescending}
use Rattle.degree_sequences.specs.Saturation.{saturated}
use Rattle.berge_tree.specs.Trees.{Classes, no_class, and_class, Members, one_member, and_member, BergeTree, entries}
use Rattle.tree_bounds.specs.Columns.{EachColumnBelow, EachColumnWithin}
use Rattle.tree_bounds.specs.Tables.{KeyedTables, Agrees, ChoicesAreDifferent, TreeDominates}
use Rattle.tree_bounds.specs.TreeBounds.{HasList, TreeHasLists, bound_of_tree}
use Rattle.tree_bounds.proofs.Injected.{choices_within}
use Rattle.tree_bounds.proofs.Saturated.{within_saturated}
use Rattle.bound_fold.specs.declared.lists.EntryLists.{EntryLists}
use Rattle.bound_fold.specs.Lists.{bounds_of, list_of, TreeHasBounds}
use Rattle.bound_fold.proofs.Below.{list_total}

-- ---- a property of each column of a tree, carried over to a weaker property

abbrev mutual
  pub carried_below : (Q R : ℕ → ℕ → Type 0) → ((entry column : ℕ) → Q entry column → R entry column) → (entry : ℕ) (cs : Classes) → EachColumnBelow Q entry cs → EachColumnBelow R entry cs
  carried_below Q R f entry no_class h = tt
  carried_below Q R f entry (and_class column members rest) h = (f entry column h.0, carried_within Q R f members h.1, carried_below Q R f entry rest h.2)

  pub carried_within : (Q R : ℕ → ℕ → Type 0) → ((entry column : ℕ) → Q entry column → R entry column) → (ms : Members) → EachColumnWithin Q ms → EachColumnWithin R ms
  carried_within Q R f (one_member entry column below) h = (f entry column h.0, carried_below Q R f entry below h.1)
  carried_within Q R f (and_member entry column below rest) h = (f entry column h.0, carried_below Q R f entry below h.1, carried_within Q R f rest h.2)

list_descends : (lists : EntryLists) (entry column : ℕ) (o : Option (List ℕ)) → list_of lists entry column ≡ o → IsSome o → IsDescending (unwrap_or o [])
list_descends lists entry column None e h = absurd (cc h)
list_descends lists entry column (Some list) e h = (lists.sums entry column list e).0

pub has_list : (lists : EntryLists) (entry column : ℕ) → IsSome (list_of lists entry column) → HasList (bounds_of lists) entry column
has_list lists entry column h = record { descends = list_descends lists entry column (list_of lists entry column) refl h; total = list_total lists entry column h }

has_lists : (lists : EntryLists) (t : BergeTree) → TreeHasBounds lists t → TreeHasLists (bounds_of lists) t
has_lists lists t listed =
    carried_below (λ entry column. IsSome (list_of lists entry column)) (HasList (bounds_of lists)) (has_list lists) t.root t.below listed.columns

-- ---- the result is never below the number of choices

pub choices_bounded : (lists : EntryLists) (t : BergeTree) (n : ℕ) → TreeHasBounds lists t → n ≡ saturated (bound_of_tree (bounds_of lists) t)
    → (tables : KeyedTables) → TreeDominates (bounds_of lists) tables t → (choices : List (ℕ → ℕ)) → AllByRecursion (Agrees tables t) choices → ChoicesAreDifferent (entries t) choices
    → (length choices ≤ n) ⊎ (n ≡ 2 ^ 128 - 1)
choices_bounded lists t n listed is tables dominates choices agree differ =
    subst (λ m. (length choices ≤ m) ⊎ (m ≡ 2 ^ 128 - 1)) (sym is)
    (within_saturated (length choices) (bound_of_tree (bounds_of lists) t) (choices_within (bounds_of lists) tables t (has_lists lists t listed) dominates choices agree differ))
