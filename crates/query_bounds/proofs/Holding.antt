-- The row bounds and lists that the code takes from statistics, one after another, are those of the definitions.
use Rattle.std.proofs.Common.{◌≡◌, ◌≢◌, ◌⊎◌, inl, inr, ℕ, zero, suc, ◌+◌, ◌<◌, ◌≤◌, Bool, true, false, ◌||◌, eqb, ltb, List, [], ◌∷◌, ◌++◌, length, take, get_or, Option, Some, None, option_map, find, refl, ap, sym, ◌∙◌, subst, arith}
use Rattle.std.specs.Prelude.{IsSome, if◌then◌else◌, unwrap_or}
use Rattle.std.proofs.Math.Path.{fun_ext}
use Rattle.std.proofs.lemmas.Bool.{cases_lt, eq-eqb, eqb-true, le-ltb, lt-ltb}
use Rattle.std.proofs.lemmas.List.{get_or_past, take_more}
use Rattle.std.proofs.lemmas.List.Folds.{list_any-append}
use Rattle.std.proofs.Math.Bool.{or-true, or-false}
use Rattle.berge_tree.specs.declared.edges.Edge.{Edge}
use Rattle.berge_tree.specs.declared.edges.Place.{Place}
use Rattle.berge_tree.specs.Equalities.{places_of}
use Rattle.query_types.specs.declared.types.Query.{Query}
use Rattle.join_graph.specs.Conjuncts.{equalities_of}
use Rattle.tree_bounds.specs.Columns.{EachNamedColumn}
use Rattle.tree_bounds.specs.TreeBounds.{EntryBounds}
use Rattle.bound_fold.specs.declared.lists.EntryLists.{EntryLists}
use Rattle.bound_fold.specs.Lists.{bounds_of, list_of, row_bound_of}
use Rattle.filtered_lists.specs.Lists.{ColumnLists, RowCounts, filtered_list, row_bound}
use Rattle.filtered_lists.specs.Standing.{SumTo}
use Rattle.filtered_lists.proofs.Lists.{sum-filtered}
use Rattle.predicate_bounds.specs.declared.columns.ColumnSteps.{ColumnSteps}
use Rattle.predicate_bounds.specs.declared.columns.EntryStats.{EntryStats}
use Rattle.predicate_bounds.specs.declared.columns.QueryStats.{QueryStats}
use Rattle.predicate_bounds.specs.StatsLists.{HasLists, HasRowLists, steps_with_lists, column_steps, first_steps, no_columns}
use Rattle.query_bounds.specs.Adding.{MayAdd}
use Rattle.query_bounds.specs.Bounds.{HoldsKnown, entry_bounds, is_among, is_at, scan_list, scan_row_bound}
use Rattle.query_bounds.specs.Statistics.{Statistics, HasStatistics, HasColumnLists, HasRowBoundLists}

pub is_some_of : {X : Type 0} (o : Option X) (x : X) → o ≡ Some x → IsSome o
is_some_of o x e = rw e refl

-- ---- an entry that the statistics have

pub not_none_and_some : {X : Type 0} (o : Option X) (x : X) → o ≡ None → o ≡ Some x → ⊥
not_none_and_some o x e f = cc

pub known_entry : (query : Query) (stats : QueryStats) (entry column : ℕ) (lists : ColumnLists) → HasLists query stats entry column lists → entry < length stats.entries
known_entry query stats entry column lists tells = elim (cases_lt entry (length stats.entries)) [
  | inl below ↦ below
  | inr above ↦ absurd (not_none_and_some (column_steps stats entry column) (steps_with_lists query entry lists) (gone above) tells)
]
  where
    gone : length stats.entries ≤ entry → column_steps stats entry column ≡ None
    gone above =
        ap (λ (e : EntryStats). option_map (λ (x : ColumnSteps). x.steps) (find (λ (x : ColumnSteps). eqb x.column column) e.columns)) (get_or_past stats.entries entry no_columns above)

-- ---- row bounds

choose : {X : Type 0} (a b : Bool) (x : X) → a ≡ b → (if a then Some x else None) ≡ (if b then Some x else None)
choose a b x e = ap (λ (t : Bool). if t then Some x else None) e

pub nothing_held : (query : Query) (known : Statistics) (lists : EntryLists) → ((entry : ℕ) → row_bound_of lists entry ≡ None) → ((entry column : ℕ) → list_of lists entry column ≡ None)
    → HoldsKnown query known 0 [] lists
nothing_held query known lists rows none = record {
  rows = λ entry. rows entry ∙ choose false (ltb entry 0) (scan_row_bound query known entry) (sym (le-ltb entry 0 (omega arith)));
  columns = λ entry column. none entry column;
}

pub no_list : (query : Query) (known : Statistics) (n : ℕ) (lists : EntryLists) → HoldsKnown query known n [] lists → (entry column : ℕ) → list_of lists entry column ≡ None
no_list query known n lists held entry column = held.columns entry column

pub rows_more : (query : Query) (known : Statistics) (i rows : ℕ) (old new : EntryLists) → HoldsKnown query known i [] old → rows ≡ scan_row_bound query known i → row_bound_of new i ≡ Some rows
    → ((other : ℕ) → other ≢ i → row_bound_of new other ≡ row_bound_of old other) → ((entry column : ℕ) → list_of new entry column ≡ list_of old entry column) → HoldsKnown query known (i + 1) [] new
rows_more query known i rows old new held is set others lists = record {
  rows = λ entry. elim (cases_lt entry i) [
    | inl below ↦ others entry (omega arith) ∙ held.rows entry
        ∙ choose (ltb entry i) (ltb entry (i + 1)) (scan_row_bound query known entry) (lt-ltb entry i below ∙ sym (lt-ltb entry (i + 1) (omega arith)))
    | inr from ↦ elim (cases_lt i entry) [
      | inl above ↦ others entry (omega arith) ∙ held.rows entry
          ∙ choose (ltb entry i) (ltb entry (i + 1)) (scan_row_bound query known entry) (le-ltb entry i from ∙ sym (le-ltb entry (i + 1) (omega arith)))
      | inr up ↦ here entry (omega arith)
    ]
  ];
  columns = λ entry column. lists entry column ∙ held.columns entry column;
}
  where
    here : (entry : ℕ) → entry ≡ i → row_bound_of new entry ≡ (if ltb entry (i + 1) then Some (scan_row_bound query known entry) else None)
    here entry same =
        ap (row_bound_of new) same ∙ set ∙ ap Some (is ∙ ap (scan_row_bound query known) (sym same))
        ∙ choose true (ltb entry (i + 1)) (scan_row_bound query known entry) (sym (lt-ltb entry (i + 1) (omega arith)))

pub row_bound_is_known : (query : Query) (stats : QueryStats) (known : Statistics) (entry rows : ℕ) → HasStatistics query stats known → entry < length query.from
    → ((q : Query) (lists : ColumnLists) (counts : RowCounts) → HasRowLists q stats entry lists → SumTo lists counts → rows ≡ row_bound counts entry q.conjuncts)
    → rows ≡ scan_row_bound query known entry
row_bound_is_known query stats known entry rows tells low told =
    let here : HasRowBoundLists query stats known entry = tells.entries entry low in
    told query (known.lists entry here.column) (known.counts entry) here.lists here.sums

pub has_first : (query : Query) (stats : QueryStats) (known : Statistics) (entry : ℕ) → HasStatistics query stats known → entry < length query.from → IsSome (first_steps stats entry)
has_first query stats known entry tells low =
    let here : HasRowBoundLists query stats known entry = tells.entries entry low in
    is_some_of (first_steps stats entry) (steps_with_lists query entry (known.lists entry here.column)) here.lists

-- ---- the lists after the list of one column is added

among_more : (places : List Place) (place : Place) (entry column : ℕ) → is_among (places ++ place ∷ []) entry column ≡ (is_among places entry column || (is_at entry column place || false))
among_more places place entry column = list_any-append (is_at entry column) places (place ∷ [])

either : {X : Type 0} (b : Bool) (x : X) → unwrap_or (if b then Some x else None) x ≡ x
either true x = refl
either false x = refl

pub list_more : (query : Query) (known : Statistics) (n : ℕ) (places : List Place) (place : Place) (old new : EntryLists) → HoldsKnown query known n places old
    → list_of new place.entry place.column ≡ Some (unwrap_or (list_of old place.entry place.column) (scan_list query known place.entry place.column))
    → ((entry column : ℕ) → ((entry ≢ place.entry) ⊎ (column ≢ place.column)) → list_of new entry column ≡ list_of old entry column)
    → ((entry : ℕ) → row_bound_of new entry ≡ row_bound_of old entry) → HoldsKnown query known n (places ++ place ∷ []) new
list_more query known n places place old new held set others rows = record {
  rows = λ entry. rows entry ∙ held.rows entry;
  columns = λ entry column. at entry column (eqb place.entry entry) (eqb place.column column) refl refl;
}
  where
    there : (entry column : ℕ) → (is_at entry column place ≡ true) → is_among (places ++ place ∷ []) entry column ≡ true
    there entry column e = among_more places place entry column ∙ rw e (or-true (is_among places entry column))

    apart : (entry column : ℕ) → (is_at entry column place ≡ false) → is_among places entry column ≡ is_among (places ++ place ∷ []) entry column
    apart entry column e = sym (among_more places place entry column ∙ rw e (or-false (is_among places entry column)))

    old_list : (entry column : ℕ) → is_at entry column place ≡ false → ((entry ≢ place.entry) ⊎ (column ≢ place.column))
        → list_of new entry column ≡ (if is_among (places ++ place ∷ []) entry column then Some (scan_list query known entry column) else None)
    old_list entry column e ne =
        others entry column ne ∙ held.columns entry column
        ∙ choose (is_among places entry column) (is_among (places ++ place ∷ []) entry column) (scan_list query known entry column) (apart entry column e)

    here : list_of new place.entry place.column ≡ Some (scan_list query known place.entry place.column)
    here = set
        ∙ ap (λ (o : Option (List ℕ)). Some (unwrap_or o (scan_list query known place.entry place.column))) (held.columns place.entry place.column)
        ∙ ap Some (either (is_among places place.entry place.column) (scan_list query known place.entry place.column))

    new_list : (entry column : ℕ) → place.entry ≡ entry → place.column ≡ column → list_of new entry column ≡ Some (scan_list query known entry column)
    new_list entry column same like =
        ap (λ (e : ℕ). list_of new e column) (sym same) ∙ ap (λ (c : ℕ). list_of new place.entry c) (sym like) ∙ here
        ∙ ap (λ (c : ℕ). Some (scan_list query known place.entry c)) like ∙ ap (λ (e : ℕ). Some (scan_list query known e column)) same

    at : (entry column : ℕ) (s t : Bool) → eqb place.entry entry ≡ s → eqb place.column column ≡ t
        → list_of new entry column ≡ (if is_among (places ++ place ∷ []) entry column then Some (scan_list query known entry column) else None)
    at entry column true true e f =
        new_list entry column (eqb-true place.entry entry e) (eqb-true place.column column f)
        ∙ choose true (is_among (places ++ place ∷ []) entry column) (scan_list query known entry column) (sym (there entry column (rw (e, f) refl)))
    at entry column true false e f = old_list entry column (rw (e, f) refl) (inr (λ same. differ place.column column f (sym same)))
      where
        differ : (x y : ℕ) → eqb x y ≡ false → x ≡ y → ⊥
        differ x y k same = clash (eqb x y) k (eq-eqb x y same)
          where
            clash : (b : Bool) → b ≡ false → b ≡ true → ⊥
            clash b k h = cc
    at entry column false t e f = old_list entry column (rw e refl) (inl (λ same. differ place.entry entry e (sym same)))
      where
        differ : (x y : ℕ) → eqb x y ≡ false → x ≡ y → ⊥
        differ x y k same = clash (eqb x y) k (eq-eqb x y same)
          where
            clash : (b : Bool) → b ≡ false → b ≡ true → ⊥
            clash b k h = cc

-- ---- the lists after the two columns of an equality are added

pub pair_at : (Q : ℕ → ℕ → Type 0) (es : List Edge) → EachNamedColumn Q es → (i : ℕ) (d : Edge) → i < length es
    → Q (get_or es i d).left.entry (get_or es i d).left.column × Q (get_or es i d).right.entry (get_or es i d).right.column
pair_at Q [] h i d low = absurd (omega arith)
pair_at Q (e ∷ es) h zero d low = (h.0, h.1.0)
pair_at Q (e ∷ es) h (suc i) d low = pair_at Q es h.1.1 i d (omega arith)

places_then : (es : List Edge) (e : Edge) → places_of (es ++ e ∷ []) ≡ (places_of es ++ e.left ∷ []) ++ e.right ∷ []
places_then [] e = refl
places_then (x ∷ es) e = ap (λ (ps : List Place). x.left ∷ (x.right ∷ ps)) (places_then es e)

pub places_more : (es items : List Edge) (i : ℕ) (d : Edge) → items ≡ es → i < length items
    → places_of (take (i + 1) es) ≡ (places_of (take i es) ++ (get_or items i d).left ∷ []) ++ (get_or items i d).right ∷ []
places_more es items i d is low =
    subst (λ (s : List Edge). places_of (take (i + 1) s) ≡ (places_of (take i s) ++ (get_or items i d).left ∷ []) ++ (get_or items i d).right ∷ []) is
    (ap places_of (take_more items i d low) ∙ places_then (take i items) (get_or items i d))

pub pair_has_lists : (query : Query) (stats : QueryStats) (known : Statistics) (items : List Edge) → HasStatistics query stats known → items ≡ equalities_of query → (i : ℕ) (d : Edge) → i < length items
    → HasColumnLists query stats known (get_or items i d).left.entry (get_or items i d).left.column × HasColumnLists query stats known (get_or items i d).right.entry (get_or items i d).right.column
pair_has_lists query stats known items tells is i d low =
    pair_at (HasColumnLists query stats known) items (subst (EachNamedColumn (HasColumnLists query stats known)) (sym is) tells.columns) i d low

pub held_after_list : (query : Query) (stats : QueryStats) (known : Statistics) (n : ℕ) (places : List Place) (place : Place) (old new : EntryLists) → HasColumnLists query stats known place.entry place.column
    → HoldsKnown query known n places old
    → ((q : Query) (lists : ColumnLists) → HasLists q stats place.entry place.column lists
    → list_of new place.entry place.column ≡ Some (unwrap_or (list_of old place.entry place.column) (filtered_list lists place.entry q.conjuncts)))
    → ((entry column : ℕ) → ((entry ≢ place.entry) ⊎ (column ≢ place.column)) → list_of new entry column ≡ list_of old entry column)
    → ((entry : ℕ) → row_bound_of new entry ≡ row_bound_of old entry) → HoldsKnown query known n (places ++ place ∷ []) new
held_after_list query stats known n places place old new told held set others rows =
    list_more query known n places place old new held (set query (known.lists place.entry place.column) told.lists) others rows

-- `no_edge` is the default for reading past the last equality
abbrev pub no_edge : Edge
no_edge = record { left = record { entry = 0; column = 0 }; right = record { entry = 0; column = 0 } }

pub may_add : (query : Query) (stats : QueryStats) (known : Statistics) (n : ℕ) (places : List Place) (place : Place) (lists : EntryLists) → HasStatistics query stats known → n ≡ length query.from
    → HasColumnLists query stats known place.entry place.column → HoldsKnown query known n places lists → MayAdd stats place lists
may_add query stats known n places place lists tells whole told held = record {
  query = query;
  known = known.lists place.entry place.column;
  entry = there;
  tells = told.lists;
  rows = held.rows place.entry
      ∙ choose (ltb place.entry n) true (scan_row_bound query known place.entry) (lt-ltb place.entry n (omega (arith, there, tells.one_each, whole)))
      ∙ ap Some (sym (sum-filtered (known.lists place.entry place.column) (known.counts place.entry) place.entry query.conjuncts told.sums));
}
  where
    there : place.entry < length stats.entries
    there = known_entry query stats place.entry place.column (known.lists place.entry place.column) told.lists

-- ---- the row bounds and lists as one `EntryBounds`

pub bounds_are_known : (query : Query) (known : Statistics) (lists : EntryLists) → HoldsKnown query known (length query.from) (places_of (equalities_of query)) lists → bounds_of lists ≡ entry_bounds query known
bounds_are_known query known lists held =
    ap (λ (rows : ℕ → ℕ). made rows (λ entry column. unwrap_or (list_of lists entry column) [])) (fun_ext same_rows)
    ∙ ap (made (λ entry. if ltb entry (length query.from) then scan_row_bound query known entry else 0)) (fun_ext (λ (entry : ℕ). fun_ext (same_list entry)))
  where
    made : (ℕ → ℕ) → (ℕ → ℕ → List ℕ) → EntryBounds
    made rows list = record { rows = rows; list = list }

    told : {X : Type 0} (b : Bool) (x d : X) → unwrap_or (if b then Some x else None) d ≡ (if b then x else d)
    told true x d = refl
    told false x d = refl

    same_rows : (entry : ℕ) → unwrap_or (row_bound_of lists entry) 0 ≡ (if ltb entry (length query.from) then scan_row_bound query known entry else 0)
    same_rows entry = ap (λ (o : Option ℕ). unwrap_or o 0) (held.rows entry) ∙ told (ltb entry (length query.from)) (scan_row_bound query known entry) 0

    same_list : (entry column : ℕ) → unwrap_or (list_of lists entry column) [] ≡ (if is_among (places_of (equalities_of query)) entry column then scan_list query known entry column else [])
    same_list entry column = ap (λ (o : Option (List ℕ)). unwrap_or o []) (held.columns entry column) ∙ told (is_among (places_of (equalities_of query)) entry column) (scan_list query known entry column) []
