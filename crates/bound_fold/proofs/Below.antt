-- The fold composes lists from the leaves of a join tree up. These lemmas are about its steps: the lists of the classes below an entry, and of the
-- entries below a class.
use Rattle.std.proofs.Common.{◌≡◌, ℕ, zero, suc, ◌^◌, ◌<◌, List, [], ◌∷◌, ◌++◌, length, get_or, map, refl, ap, sym, ◌∙◌, subst, sum, arith}
use Rattle.std.specs.Borrow.{Bor}
use Rattle.std.specs.Prelude.{Option, Some, None, IsSome, Result, Ok, Err, IfOk, unwrap_or}
use Rattle.std.specs.List.{AllByRecursion}
use Rattle.std.specs.Option.{option_copied}
use Rattle.std.proofs.lemmas.List.{append_assoc, map_push}
use Rattle.degree_sequences.specs.ByRank.{rank_product}
use Rattle.degree_sequences.specs.Composition.{ChildLists, composed, root_total}
use Rattle.degree_sequences.specs.Saturation.{saturated}
use Rattle.degree_sequences.proofs.SaturationLaws.{saturated-rank_product}
use Rattle.piece_math.specs.declared.weights.Child.{Child}
use Rattle.piece_math.specs.Children.{lists_of}
use Rattle.berge_tree.specs.Trees.{Classes, no_class, and_class, Members, and_member, BergeTree}
use Rattle.tree_bounds.specs.Columns.{EachColumnBelow}
use Rattle.tree_bounds.specs.Saturating.{saturated_class}
use Rattle.tree_bounds.specs.TreeBounds.{EntryBounds, child_lists, class_list, bound_of_tree}
use Rattle.tree_bounds.proofs.Saturated.{saturated-composed, saturated-root_total}
use Rattle.bound_fold.specs.declared.lists.EntryLists.{EntryLists}
use Rattle.bound_fold.specs.Lists.{bounds_of, row_bound_of, list_of}

pub if_ok : {T E : Type 0} (P Q : T → Type 0) (r : Result T E) → ((x : T) → P x → Q x) → IfOk r P → IfOk r Q
if_ok P Q (Ok x) f h = f x h
if_ok P Q (Err e) f h = tt

-- ---- the result of looking up a list

pub list_of_lookup : (r : Option (Bor (List ℕ))) (x : Bor (List ℕ)) (o : Option (List ℕ)) → option_copied r ≡ o → r ≡ Some x → x.now ≡ unwrap_or o []
list_of_lookup r x o e h = sym (ap (λ (p : Option (List ℕ)). unwrap_or p []) (sym e) ∙ ap (λ (p : Option (Bor (List ℕ))). unwrap_or (option_copied p) []) h)

-- ---- each list of an entry sums to its row bound

total_of : (lists : EntryLists) (entry column : ℕ) (o : Option (List ℕ)) → list_of lists entry column ≡ o → IsSome o → sum (unwrap_or o []) ≡ unwrap_or (row_bound_of lists entry) 0
total_of lists entry column None e h = absurd (cc h)
total_of lists entry column (Some list) e h = sym (ap (λ (o : Option ℕ). unwrap_or o 0) (lists.sums entry column list e).1)

pub list_total : (lists : EntryLists) (entry column : ℕ) → IsSome (list_of lists entry column) → sum ((bounds_of lists).list entry column) ≡ (bounds_of lists).rows entry
list_total lists entry column h = total_of lists entry column (list_of lists entry column) refl h

row_bound_fits : (lists : EntryLists) (entry : ℕ) (o : Option ℕ) → row_bound_of lists entry ≡ o → unwrap_or o 0 < 2 ^ 64
row_bound_fits lists entry None e = omega arith
row_bound_fits lists entry (Some n) e = lists.bounds entry n e

entry_rows_fit : (lists : EntryLists) (entry : ℕ) → (bounds_of lists).rows entry < 2 ^ 64
entry_rows_fit lists entry = row_bound_fits lists entry (row_bound_of lists entry) refl

pub list_sum_fits : (lists : EntryLists) (entry column : ℕ) (list : List ℕ) → list ≡ (bounds_of lists).list entry column → IsSome (list_of lists entry column) → sum list < 2 ^ 64
list_sum_fits lists entry column list is h = subst (λ n. n < 2 ^ 64) (sym (ap sum is ∙ list_total lists entry column h)) (entry_rows_fit lists entry)

at_each : (P : ChildLists → Type 0) (children : List Child) → AllByRecursion P (map lists_of children) → (k : ℕ) (d : Child) → k < length children → P (lists_of (get_or children k d))
at_each P [] h k d within = absurd (omega arith)
at_each P (c ∷ cs) h zero d within = h.0
at_each P (c ∷ cs) h (suc k) d within = at_each P cs h.1 k d (omega arith)

module _ (lists : EntryLists) (entry : ℕ) where
  each_total : (cs : Classes) → EachColumnBelow (λ e c. IsSome (list_of lists e c)) entry cs
      → AllByRecursion (λ (c : ChildLists). sum c.column ≡ (bounds_of lists).rows entry) (map saturated_class (child_lists (bounds_of lists) entry cs))
  each_total no_class h = tt
  each_total (and_class column members rest) h = (list_total lists entry column h.0, each_total rest h.2)

  pub columns_total : (cs : Classes) (total : ℕ) (children : List Child) → EachColumnBelow (λ e c. IsSome (list_of lists e c)) entry cs
      → map lists_of children ≡ map saturated_class (child_lists (bounds_of lists) entry cs) → (bounds_of lists).rows entry ≡ total
      → (k : ℕ) (d : Child) → k < length children → sum (get_or children k d).column ≡ total
  columns_total cs total children h same is k d within =
      at_each (λ c. sum c.column ≡ (bounds_of lists).rows entry) children
      (subst (AllByRecursion (λ (c : ChildLists). sum c.column ≡ (bounds_of lists).rows entry)) (sym same) (each_total cs h)) k d within ∙ is

-- ---- the lists of an entry, of a class and of the root

pub lists_of_children : (b : EntryBounds) (entry : ℕ) (cs : Classes) (none all children : List Child) → children ≡ all → map lists_of all ≡ map lists_of none ++ map saturated_class (child_lists b entry cs) → none ≡ []
    → map lists_of children ≡ map saturated_class (child_lists b entry cs)
lists_of_children b entry cs none all children is made empty =
    ap (map lists_of) is ∙ made ∙ ap (λ (start : List Child). map lists_of start ++ map saturated_class (child_lists b entry cs)) empty

module _ (b : EntryBounds) (entry column : ℕ) where
  pub one_more_class : (ms : Members) (rest : Classes) (old pushed new : List Child) (own class : List ℕ) → own ≡ b.list entry column → class ≡ map saturated (class_list b ms)
      → pushed ≡ old ++ (let child : Child = record { column = own; class = class } in child) ∷ [] → map lists_of new ≡ map lists_of pushed ++ map saturated_class (child_lists b entry rest)
      → map lists_of new ≡ map lists_of old ++ map saturated_class (child_lists b entry (and_class column ms rest))
  one_more_class ms rest old pushed new own class is_own is_class is_pushed is_new =
      let child : Child = record { column = own; class = class } in
      let others : List ChildLists = map saturated_class (child_lists b entry rest) in
      is_new
      ∙ ap (λ (cs : List Child). map lists_of cs ++ others) is_pushed
      ∙ ap (λ (cs : List ChildLists). cs ++ others) (map_push lists_of old child)
      ∙ append_assoc (map lists_of old) (lists_of child ∷ []) others
      ∙ ap (λ (s : List ℕ). map lists_of old ++ (let c : ChildLists = record { column = s; class = class } in c) ∷ others) is_own
      ∙ ap (λ (s : List ℕ). map lists_of old ++ (let c : ChildLists = record { column = b.list entry column; class = s } in c) ∷ others) is_class

  pub entry_done : (cs : Classes) (children : List Child) (parent list : List ℕ) → map lists_of children ≡ map saturated_class (child_lists b entry cs) → parent ≡ b.list entry column
      → list ≡ map saturated (composed parent (map lists_of children)) → list ≡ map saturated (composed (b.list entry column) (child_lists b entry cs))
  entry_done cs children parent list same is_parent is_list =
      is_list
      ∙ ap (λ (ls : List ChildLists). map saturated (composed parent ls)) same
      ∙ saturated-composed parent (child_lists b entry cs)
      ∙ ap (λ (s : List ℕ). map saturated (composed s (child_lists b entry cs))) is_parent

  pub class_done : (below : Classes) (rest : Members) (own others list : List ℕ) → own ≡ map saturated (composed (b.list entry column) (child_lists b entry below))
      → others ≡ map saturated (class_list b rest) → list ≡ map saturated (rank_product own others) → list ≡ map saturated (class_list b (and_member entry column below rest))
  class_done below rest own others list is_own is_others is_list =
      let first : List ℕ = composed (b.list entry column) (child_lists b entry below) in
      is_list
      ∙ ap (λ (s : List ℕ). map saturated (rank_product s others)) is_own
      ∙ ap (λ (s : List ℕ). map saturated (rank_product (map saturated first) s)) is_others
      ∙ saturated-rank_product first (class_list b rest)

pub root_done : (b : EntryBounds) (t : BergeTree) (rows n : ℕ) (children : List Child) → map lists_of children ≡ map saturated_class (child_lists b t.root t.below) → rows ≡ b.rows t.root
    → n ≡ saturated (root_total (map lists_of children) rows) → n ≡ saturated (bound_of_tree b t)
root_done b t rows n children same is_rows is_n =
    is_n
    ∙ ap (λ (cs : List ChildLists). saturated (root_total cs rows)) same
    ∙ saturated-root_total (child_lists b t.root t.below) rows
    ∙ ap (λ k. saturated (root_total (child_lists b t.root t.below) k)) is_rows
