-- Row bounds and lists are added to an `EntryLists`, one after another.
use Rattle.std.proofs.Common.{◌≡◌, ◌≢◌, ◌⊎◌, inl, inr, ℕ, ◌+◌, ◌<◌, Bool, true, false, ◌||◌, cond, eqb, ltb, List, [], ◌∷◌, ◌++◌, length, get_or, Option, Some, None, option_map, find, refl, ap, sym, ◌∙◌, subst, arith}
use Rattle.std.specs.Prelude.{IsSome, if◌then◌else◌, unwrap_or}
use Rattle.std.specs.List.{list_any}
use Rattle.std.proofs.Math.Path.{fun_ext}
use Rattle.std.proofs.lemmas.Bool.{and_from, cases_lt, eq-eqb, eqb-false, eqb-true, le-ltb, lt-ltb}
use Rattle.std.proofs.lemmas.List.{get_or_past}
use Rattle.tree_bounds.specs.TreeBounds.{EntryBounds}
use Rattle.bound_fold.specs.declared.lists.EntryLists.{EntryLists}
use Rattle.bound_fold.specs.Lists.{bounds_of, list_of as list_held, row_bound_of}
use Rattle.safebound_lists.specs.declared.runs.Run.{Run}
use Rattle.safebound_lists.specs.Runs.{list_of}
use Rattle.safebound_bounds.specs.declared.arguments.ColumnList.{ColumnList}
use Rattle.safebound_bounds.specs.Arguments.{is_list_of_column, runs_of}
use Rattle.safebound_bounds.specs.Listed.{HoldsListed}
use Rattle.safebound_bounds.specs.Meaning.{fitted, fitted_or_empty, given_list, known, decoded_list}

-- ---- adding the row bounds

if_of_equal_tests : {X : Type 0} (a b : Bool) (x : X) → a ≡ b → (if a then Some x else None) ≡ (if b then Some x else None)
if_of_equal_tests a b x e = ap (λ (t : Bool). if t then Some x else None) e

pub nothing_is_held_yet : (rows : List ℕ) (held : EntryLists) → ((entry : ℕ) → row_bound_of held entry ≡ None) → ((entry column : ℕ) → list_held held entry column ≡ None) → HoldsListed rows 0 [] [] held
nothing_is_held_yet rows held no_rows no_lists = record {
  entries = λ entry. no_rows entry ∙ if_of_equal_tests false (ltb entry 0) (get_or rows entry 0) (sym (le-ltb entry 0 (omega arith)));
  columns = λ entry column. no_lists entry column;
}

pub one_more_row_bound_held : (rows : List ℕ) (i bound : ℕ) (old new : EntryLists) → HoldsListed rows i [] [] old → bound ≡ get_or rows i 0 → row_bound_of new i ≡ Some bound
    → ((other : ℕ) → other ≢ i → row_bound_of new other ≡ row_bound_of old other) → ((entry column : ℕ) → list_held new entry column ≡ list_held old entry column) → HoldsListed rows (i + 1) [] [] new
one_more_row_bound_held rows i bound old new held is set others lists = record {
  entries = λ entry. elim (cases_lt entry i) [
    | inl below ↦ others entry (omega arith) ∙ held.entries entry
        ∙ if_of_equal_tests (ltb entry i) (ltb entry (i + 1)) (get_or rows entry 0) (lt-ltb entry i below ∙ sym (lt-ltb entry (i + 1) (omega arith)))
    | inr from ↦ elim (cases_lt i entry) [
      | inl above ↦ others entry (omega arith) ∙ held.entries entry
          ∙ if_of_equal_tests (ltb entry i) (ltb entry (i + 1)) (get_or rows entry 0) (le-ltb entry i from ∙ sym (le-ltb entry (i + 1) (omega arith)))
      | inr up ↦ bound_of_new_entry entry (omega arith)
    ]
  ];
  columns = λ entry column. lists entry column ∙ held.columns entry column;
}
  where
    bound_of_new_entry : (entry : ℕ) → entry ≡ i → row_bound_of new entry ≡ (if ltb entry (i + 1) then Some (get_or rows entry 0) else None)
    bound_of_new_entry entry same =
        ap (row_bound_of new) same ∙ set ∙ ap Some (is ∙ ap (λ k. get_or rows k 0) (sym same))
        ∙ if_of_equal_tests true (ltb entry (i + 1)) (get_or rows entry 0) (sym (lt-ltb entry (i + 1) (omega arith)))

pub row_bound_is_held : (rows : List ℕ) (n : ℕ) (lists : List ColumnList) (runs : List Run) (held : EntryLists) → HoldsListed rows n lists runs held → (entry : ℕ) → entry < n → row_bound_of held entry ≡ Some (get_or rows entry 0)
row_bound_is_held rows n lists runs held h entry low = h.entries entry ∙ if_of_equal_tests (ltb entry n) true (get_or rows entry 0) (lt-ltb entry n low)

pub without_lists : (rows : List ℕ) (n : ℕ) (runs : List Run) (held : EntryLists) → HoldsListed rows n [] [] held → HoldsListed rows n [] runs held
without_lists rows n runs held h = record { entries = h.entries; columns = h.columns }

-- ---- the search for the list of a column

find_none : (entry column : ℕ) (lists : List ColumnList) → list_any (is_list_of_column entry column) lists ≡ false → find (is_list_of_column entry column) lists ≡ None
find_none entry column [] none = refl
find_none entry column (l ∷ lists) none = by (is_list_of_column entry column l) none (λ h. find_none entry column lists h)
  where
    by : (t : Bool) → (t || list_any (is_list_of_column entry column) lists) ≡ false → (list_any (is_list_of_column entry column) lists ≡ false → find (is_list_of_column entry column) lists ≡ None)
        → cond t (Some l) (find (is_list_of_column entry column) lists) ≡ None
    by true h rest = absurd (cc h)
    by false h rest = rest h

find_last : (entry column : ℕ) (lists : List ColumnList) (x : ColumnList) → list_any (is_list_of_column entry column) lists ≡ false → is_list_of_column entry column x ≡ true
    → find (is_list_of_column entry column) (lists ++ x ∷ []) ≡ Some x
find_last entry column [] x none is = ap (λ (t : Bool). cond t (Some x) None) is
find_last entry column (l ∷ lists) x none is = by (is_list_of_column entry column l) none (λ h. find_last entry column lists x h is)
  where
    by : (t : Bool) → (t || list_any (is_list_of_column entry column) lists) ≡ false → (list_any (is_list_of_column entry column) lists ≡ false → find (is_list_of_column entry column) (lists ++ x ∷ []) ≡ Some x)
        → cond t (Some l) (find (is_list_of_column entry column) (lists ++ x ∷ [])) ≡ Some x
    by true h rest = absurd (cc h)
    by false h rest = rest h

find_other : (entry column : ℕ) (lists : List ColumnList) (x : ColumnList) → is_list_of_column entry column x ≡ false → find (is_list_of_column entry column) (lists ++ x ∷ []) ≡ find (is_list_of_column entry column) lists
find_other entry column [] x is = ap (λ (t : Bool). cond t (Some x) None) is
find_other entry column (l ∷ lists) x is = ap (cond (is_list_of_column entry column l) (Some l)) (find_other entry column lists x is)

pub found : (entry column : ℕ) (lists : List ColumnList) → list_any (is_list_of_column entry column) lists ≡ true → IsSome (find (is_list_of_column entry column) lists)
found entry column [] any = absurd (cc any)
found entry column (l ∷ lists) any = by (is_list_of_column entry column l) any (λ h. found entry column lists h)
  where
    by : (t : Bool) → (t || list_any (is_list_of_column entry column) lists) ≡ true → (list_any (is_list_of_column entry column) lists ≡ true → IsSome (find (is_list_of_column entry column) lists))
        → IsSome (cond t (Some l) (find (is_list_of_column entry column) lists))
    by true h rest = refl
    by false h rest = rest h

-- ---- adding one more list

pub list_is_not_held : (rows : List ℕ) (n : ℕ) (lists : List ColumnList) (runs : List Run) (held : EntryLists) (entry column : ℕ) → HoldsListed rows n lists runs held
    → list_any (is_list_of_column entry column) lists ≡ false → list_held held entry column ≡ None
list_is_not_held rows n lists runs held entry column h none =
    h.columns entry column ∙ ap (λ (o : Option ColumnList). option_map (fitted (get_or rows entry 0)) (decoded_list runs o)) (find_none entry column lists none)

module _ (rows : List ℕ) (n : ℕ) (lists : List ColumnList) (runs : List Run) (x : ColumnList) (old new : EntryLists) (fitting : List ℕ) where
  pub one_more_list_held : HoldsListed rows n lists runs old → list_any (is_list_of_column x.entry x.column) lists ≡ false
      → fitting ≡ fitted (get_or rows x.entry 0) (list_of (runs_of runs x))
      → list_held new x.entry x.column ≡ Some fitting
      → ((entry column : ℕ) → ((entry ≢ x.entry) ⊎ (column ≢ x.column)) → list_held new entry column ≡ list_held old entry column)
      → ((entry : ℕ) → row_bound_of new entry ≡ row_bound_of old entry) → HoldsListed rows n (lists ++ x ∷ []) runs new
  one_more_list_held h once is set others same_rows = record {
    entries = λ entry. same_rows entry ∙ h.entries entry;
    columns = λ entry column. held_by_tests entry column (eqb x.entry entry) (eqb x.column column) refl refl;
  }
    where
      Held : ℕ → ℕ → Type 0
      Held entry column = list_held new entry column ≡ option_map (fitted (get_or rows entry 0)) (given_list (lists ++ x ∷ []) runs entry column)

      held_for_new_column : Held x.entry x.column
      held_for_new_column =
          set ∙ ap Some is
          ∙ ap (λ (o : Option ColumnList). option_map (fitted (get_or rows x.entry 0)) (decoded_list runs o))
          (sym (find_last x.entry x.column lists x once (and_from (eqb x.entry x.entry) (eqb x.column x.column) (eq-eqb x.entry x.entry refl) (eq-eqb x.column x.column refl))))

      held_for_equal_column : (entry column : ℕ) → x.entry ≡ entry → x.column ≡ column → Held entry column
      held_for_equal_column entry column e c = subst (λ (k : ℕ). Held k column) e (subst (λ (k : ℕ). Held x.entry k) c held_for_new_column)

      held_for_other_column : (entry column : ℕ) → is_list_of_column entry column x ≡ false → ((entry ≢ x.entry) ⊎ (column ≢ x.column)) → Held entry column
      held_for_other_column entry column e ne =
          others entry column ne ∙ h.columns entry column
          ∙ ap (λ (o : Option ColumnList). option_map (fitted (get_or rows entry 0)) (decoded_list runs o)) (sym (find_other entry column lists x e))

      held_by_tests : (entry column : ℕ) (s t : Bool) → eqb x.entry entry ≡ s → eqb x.column column ≡ t → Held entry column
      held_by_tests entry column true true e f = held_for_equal_column entry column (eqb-true x.entry entry e) (eqb-true x.column column f)
      held_by_tests entry column true false e f = held_for_other_column entry column (rw (e, f) refl) (inr (λ same. eqb-false x.column column f (sym same)))
      held_by_tests entry column false t e f = held_for_other_column entry column (rw e refl) (inl (λ same. eqb-false x.entry entry e (sym same)))

-- ---- the held row bounds and lists as one `EntryBounds`

pub bounds_known : (rows : List ℕ) (lists : List ColumnList) (runs : List Run) (held : EntryLists) → HoldsListed rows (length rows) lists runs held → bounds_of held ≡ known rows lists runs
bounds_known rows lists runs held h =
    ap (λ (r : ℕ → ℕ). bounds_with r (λ entry column. unwrap_or (list_held held entry column) [])) (fun_ext same_rows)
    ∙ ap (bounds_with (λ entry. get_or rows entry 0)) (fun_ext (λ (entry : ℕ). fun_ext (same_list entry)))
  where
    bounds_with : (ℕ → ℕ) → (ℕ → ℕ → List ℕ) → EntryBounds
    bounds_with r list = record { rows = r; list = list }

    same_rows : (entry : ℕ) → unwrap_or (row_bound_of held entry) 0 ≡ get_or rows entry 0
    same_rows entry = ap (λ (o : Option ℕ). unwrap_or o 0) (h.entries entry) ∙ elim (cases_lt entry (length rows)) [
      | inl below ↦ ap (λ (t : Bool). unwrap_or (if t then Some (get_or rows entry 0) else None) 0) (lt-ltb entry (length rows) below)
      | inr past ↦ ap (λ (t : Bool). unwrap_or (if t then Some (get_or rows entry 0) else None) 0) (le-ltb entry (length rows) past)
          ∙ sym (get_or_past rows entry 0 past)
    ]

    unwrapped : (r : ℕ) (o : Option (List ℕ)) → unwrap_or (option_map (fitted r) o) [] ≡ fitted_or_empty r o
    unwrapped r None = refl
    unwrapped r (Some list) = refl

    same_list : (entry column : ℕ) → unwrap_or (list_held held entry column) [] ≡ fitted_or_empty (get_or rows entry 0) (given_list lists runs entry column)
    same_list entry column =
        ap (λ (o : Option (List ℕ)). unwrap_or o []) (h.columns entry column) ∙ unwrapped (get_or rows entry 0) (given_list lists runs entry column)
