-- A choice that satisfies all equalities of a set agrees in each tree of the kept equalities. If each column that the equalities name has a property,
-- each column of these trees has it.
use Rattle.std.proofs.Common.{◌≡◌, ℕ, zero, suc, ◌<◌, ◌≤◌, eqb, List, [], ◌∷◌, ◌++◌, length, take, drop, refl, sym, subst, inl, inr}
use Rattle.std.specs.List.{AllByRecursion, Contains}
use Rattle.std.proofs.lemmas.Bool.{cases_Bool}
use Rattle.berge_tree.specs.declared.edges.Place.{Place}
use Rattle.berge_tree.specs.declared.edges.Edge.{Edge}
use Rattle.berge_tree.specs.Equalities.{place, places_of, class_of}
use Rattle.berge_tree.specs.Rooted.{class_columns, member_places, FollowsBelow, FollowsWithin, IsTreeOf, AreAllTreesOf}
use Rattle.entry_sets.specs.Sets.{entries_of_set}
use Rattle.berge_tree.specs.Testing.{merged_components}
use Rattle.berge_tree.specs.Trees.{Classes, no_class, and_class, Members, one_member, and_member, BergeTree, entries_below, entries_within, entries, entries_of_all}
use Rattle.berge_tree.proofs.Joining.{same_class_same_keys}
use Rattle.berge_tree.proofs.Separate.{all_map}
use Rattle.join_graph.specs.Kept.{equalities_within, order_of_turn, kept_by_names, kept_of}
use Rattle.join_graph.proofs.Turning.{append_all}
use Rattle.entry_sets.proofs.Listing.{in_rest, in_front, not_in_empty, at_member, in_front_or_rest}
use Rattle.tree_bounds.specs.Columns.{EachColumnBelow, EachColumnWithin, EachColumn, EachNamedColumn}
use Rattle.tree_bounds.specs.TreeBounds.{EntryBounds, HasList, TreeHasLists, bound_of_trees}
use Rattle.tree_bounds.specs.SetBounds.{SetHasLists}
use Rattle.tree_bounds.specs.Tables.{KeyedTables, key_of, AgreesBelow, AgreesWithin, Agrees, Satisfies, ChoicesAreDifferent, RowsFit, Dominates, TreeDominates, SetDominates}
use Rattle.tree_bounds.proofs.Injected.{for_each, choices_within_all}

-- ---- a property of each equality of a set, carried over to the kept equalities

module _ (P : Edge → Type 0) where
  of_later : (n : ℕ) (es : List Edge) → AllByRecursion P es → AllByRecursion P (drop n es)
  of_later zero es h = h
  of_later (suc n) [] h = tt
  of_later (suc n) (e ∷ es) h = of_later n es h.1

  of_earlier : (n : ℕ) (es : List Edge) → AllByRecursion P es → AllByRecursion P (take n es)
  of_earlier zero es h = tt
  of_earlier (suc n) [] h = tt
  of_earlier (suc n) (e ∷ es) h = (h.0, of_earlier n es h.1)

  of_kept : (name : ℕ → ℕ) (es : List Edge) → AllByRecursion P es → AllByRecursion P (kept_by_names name es)
  of_kept name [] h = tt
  of_kept name (e ∷ es) h = elim (cases_Bool (eqb (name e.left.entry) (name e.right.entry))) [
    | inl t ↦ rw t (of_kept name es h.1)
    | inr n ↦ rw n (h.0, of_kept (merged_components name e.left.entry e.right.entry) es h.1)
  ]

  pub of_turn : (subset turn : ℕ) (es : List Edge) → AllByRecursion P (equalities_within subset es) → AllByRecursion P (kept_of subset turn es)
  of_turn subset turn es h =
      let of_set : List Edge = equalities_within subset es in
      of_kept (λ x. x) (order_of_turn subset turn es) (append_all P (drop turn of_set) (take turn of_set) (of_later turn of_set h) (of_earlier turn of_set h))

-- ---- a property of each column that equalities name, carried over to the columns of a tree

module _ (Q : ℕ → ℕ → Type 0) where
  abbrev AtBoth : Edge → Type 0
  AtBoth e = Q e.left.entry e.left.column × Q e.right.entry e.right.column

  by_edges : (es : List Edge) → EachNamedColumn Q es → AllByRecursion AtBoth es
  by_edges [] h = tt
  by_edges (e ∷ es) h = ((h.0, h.1.0), by_edges es h.1.1)

  by_places : (es : List Edge) → AllByRecursion AtBoth es → (p : Place) → Contains (places_of es) p → Q p.entry p.column
  by_places [] h p k = absurd (not_in_empty p k)
  by_places (e ∷ es) h p k = elim (in_front_or_rest e.left (e.right ∷ places_of es) p k) [
    | inr is ↦ subst (λ (q : Place). Q q.entry q.column) (sym is) h.0.0
    | inl old ↦ elim (in_front_or_rest e.right (places_of es) p old) [
      | inr is ↦ subst (λ (q : Place). Q q.entry q.column) (sym is) h.0.1
      | inl older ↦ by_places es h.1 p older
    ]
  ]

  pub named_in_turn : (subset turn : ℕ) (es : List Edge) → EachNamedColumn Q (equalities_within subset es) → (p : Place) → Contains (places_of (kept_of subset turn es)) p → Q p.entry p.column
  named_in_turn subset turn es h = by_places (kept_of subset turn es) (of_turn AtBoth subset turn es (by_edges (equalities_within subset es) h))

  module _ (es : List Edge) (h : (p : Place) → Contains (places_of es) p → Q p.entry p.column) where
    mutual
      columns_below : (entry : ℕ) (cs : Classes) → ((c : ℕ) → Contains (class_columns cs) c → Contains (places_of es) (place entry c)) → FollowsBelow es entry cs → EachColumnBelow Q entry cs
      columns_below entry no_class k f = tt
      columns_below entry (and_class column members rest) k f = (
        h (place entry column) (k column (in_front column (class_columns rest) column refl)),
        columns_within members (λ q m. (f.0.some q m).0) f.1,
        columns_below entry rest (λ c m. k c (in_rest column (class_columns rest) c m)) f.2,
      )

      columns_within : (ms : Members) → ((q : Place) → Contains (member_places ms) q → Contains (places_of es) q) → FollowsWithin es ms → EachColumnWithin Q ms
      columns_within (one_member entry column below) k f =
          (h (place entry column) (k (place entry column) (in_front (place entry column) [] (place entry column) refl)), columns_below entry below (λ c m. (f.0.some c m).0) f.1)
      columns_within (and_member entry column below rest) k f = (
        h (place entry column) (k (place entry column) (in_front (place entry column) (member_places rest) (place entry column) refl)),
        columns_below entry below (λ c m. (f.0.some c m).0) f.1,
        columns_within rest (λ q m. k q (in_rest (place entry column) (member_places rest) q m)) f.2,
      )

    pub tree_columns : (t : BergeTree) → IsTreeOf es t → EachColumn Q t
    tree_columns t tree = columns_below t.root t.below (λ c m. (tree.columns.some c m).0) tree.follows

pub for_trees : (Q R : BergeTree → Type 0) → ((t : BergeTree) → Q t → R t) → (ts : List BergeTree) → AllByRecursion Q ts → AllByRecursion R ts
for_trees Q R f [] h = tt
for_trees Q R f (t ∷ ts) h = (f t h.0, for_trees Q R f ts h.1)

-- ---- a choice that satisfies equalities agrees in their trees

pub all_left : (Q : ℕ → Type 0) (xs ys : List ℕ) → AllByRecursion Q (xs ++ ys) → AllByRecursion Q xs
all_left Q [] ys h = tt
all_left Q (x ∷ xs) ys h = (h.0, all_left Q xs ys h.1)

pub all_right : (Q : ℕ → Type 0) (xs ys : List ℕ) → AllByRecursion Q (xs ++ ys) → AllByRecursion Q ys
all_right Q [] ys h = h
all_right Q (x ∷ xs) ys h = all_right Q xs ys h.1

module _ (tables : KeyedTables) (choice : ℕ → ℕ) (es : List Edge)
    (equal : AllByRecursion (λ e. key_of tables choice e.left.entry e.left.column ≡ key_of tables choice e.right.entry e.right.column) es) where
  abbrev HasRow : ℕ → Type 0
  HasRow entry = choice entry < tables.rows entry

  same_key : (p q : Place) → class_of es p ≡ class_of es q → key_of tables choice q.entry q.column ≡ key_of tables choice p.entry p.column
  same_key p q same = sym (same_class_same_keys es p q same (key_of tables choice) equal)

  mutual
    agrees_below : (entry : ℕ) (cs : Classes) → FollowsBelow es entry cs → AllByRecursion HasRow (entries_below cs) → AgreesBelow tables choice entry cs
    agrees_below entry no_class f rows = tt
    agrees_below entry (and_class column members rest) f rows = (
      agrees_within (place entry column) members (λ q m. (f.0.some q m).1) f.1 (all_left HasRow (entries_within members) (entries_below rest) rows),
      agrees_below entry rest f.2 (all_right HasRow (entries_within members) (entries_below rest) rows),
    )

    agrees_within : (above : Place) (ms : Members) → ((q : Place) → Contains (member_places ms) q → class_of es above ≡ class_of es q) → FollowsWithin es ms
        → AllByRecursion HasRow (entries_within ms) → AgreesWithin tables choice (key_of tables choice above.entry above.column) ms
    agrees_within above (one_member entry column below) same f rows = (
      rows.0,
      same_key above (place entry column) (same (place entry column) (in_front (place entry column) [] (place entry column) refl)),
      agrees_below entry below f.1 rows.1,
    )
    agrees_within above (and_member entry column below rest) same f rows = (
      rows.0,
      same_key above (place entry column) (same (place entry column) (in_front (place entry column) (member_places rest) (place entry column) refl)),
      agrees_below entry below f.1 (all_left HasRow (entries_below below) (entries_within rest) rows.1),
      agrees_within above rest (λ q m. same q (in_rest (place entry column) (member_places rest) q m)) f.2 (all_right HasRow (entries_below below) (entries_within rest) rows.1),
    )

  agrees_all : (ts : List BergeTree) → AllByRecursion (IsTreeOf es) ts → AllByRecursion HasRow (entries_of_all ts) → AllByRecursion (λ t. Agrees tables t choice) ts
  agrees_all [] trees rows = tt
  agrees_all (t ∷ ts) trees rows = (
    let own : AllByRecursion HasRow (entries t) = all_left HasRow (entries t) (entries_of_all ts) rows in
        (own.0, agrees_below t.root t.below trees.0.follows own.1),
    agrees_all ts trees.1 (all_right HasRow (entries t) (entries_of_all ts) rows),
  )

-- ---- properties of the trees of a turn

pub at_roots : (Q : ℕ → Type 0) (ts : List BergeTree) → AllByRecursion Q (entries_of_all ts) → AllByRecursion (λ t. Q t.root) ts
at_roots Q [] h = tt
at_roots Q (t ∷ ts) h = (h.0, at_roots Q ts (all_right Q (entries t) (entries_of_all ts) h))

module _ (es : List Edge) (subset turn : ℕ) (ts : List BergeTree) (all : AreAllTreesOf (kept_of subset turn es) (entries_of_set subset) ts) where
  pub in_trees : (Q : ℕ → Type 0) → AllByRecursion Q (entries_of_set subset) → AllByRecursion Q (entries_of_all ts)
  in_trees Q h = all_map (Contains (entries_of_set subset)) Q (λ e k. at_member Q (entries_of_set subset) h e k) (entries_of_all ts) all.within

  pub have_lists : (b : EntryBounds) → SetHasLists b es subset → AllByRecursion (TreeHasLists b) ts
  have_lists b h = for_trees (IsTreeOf (kept_of subset turn es)) (TreeHasLists b)
      (tree_columns (HasList b) (kept_of subset turn es) (named_in_turn (HasList b) subset turn es h)) ts all.trees

module _ (b : EntryBounds) (tables : KeyedTables) (es : List Edge) (subset turn : ℕ) (ts : List BergeTree) (all : AreAllTreesOf (kept_of subset turn es) (entries_of_set subset) ts) where
  dominated : (us : List BergeTree) → SetDominates b tables es subset → AllByRecursion (λ t. RowsFit b tables t.root) us → AllByRecursion (IsTreeOf (kept_of subset turn es)) us → AllByRecursion (TreeDominates b tables) us
  dominated [] d fit trees = tt
  dominated (u ∷ us) d fit trees = (
    record { root = fit.0; columns = tree_columns (Dominates b tables) (kept_of subset turn es) (named_in_turn (Dominates b tables) subset turn es d.columns) u trees.0 },
    dominated us d fit.1 trees.1,
  )

  agree : (choice : ℕ → ℕ) → Satisfies tables (entries_of_set subset) (equalities_within subset es) choice → AllByRecursion (λ t. Agrees tables t choice) ts
  agree choice s =
      agrees_all tables choice (kept_of subset turn es)
      (of_turn (λ e. key_of tables choice e.left.entry e.left.column ≡ key_of tables choice e.right.entry e.right.column) subset turn es s.equal)
      ts all.trees (in_trees es subset turn ts all (λ e. choice e < tables.rows e) s.rows)

  pub satisfying_within : SetHasLists b es subset → SetDominates b tables es subset → (cs : List (ℕ → ℕ))
      → AllByRecursion (Satisfies tables (entries_of_set subset) (equalities_within subset es)) cs → ChoicesAreDifferent (entries_of_set subset) cs → length cs ≤ bound_of_trees b ts
  satisfying_within h d cs satisfy differ =
      choices_within_all b tables ts (have_lists es subset turn ts all b h) (dominated ts d (at_roots (RowsFit b tables) ts (in_trees es subset turn ts all (RowsFit b tables) d.rows)) all.trees) (entries_of_set subset) all.covers cs
      (for_each (Satisfies tables (entries_of_set subset) (equalities_within subset es)) (λ c. AllByRecursion (λ t. Agrees tables t c) ts) agree cs satisfy) differ
