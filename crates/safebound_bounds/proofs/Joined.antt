-- A choice that satisfies the equalities of a set takes rows that have values in the columns of these equalities. So the row bounds and lists of the
-- set need to fit only these rows, and they do.
use Rattle.std.proofs.Common.{◌≡◌, ℕ, ◌<◌, ◌≤◌, Bool, true, false, ◌&&◌, eqb, List, [], ◌∷◌, length, map, get_or, Option, Some, None, refl, sym, subst, arith, inl, inr}
use Rattle.std.specs.Prelude.{if◌then◌else◌, is_some, unwrap_or}
use Rattle.std.specs.List.{AllByRecursion, Contains, filter, range_with_len}
use Rattle.std.proofs.lemmas.Bool.{and_from, and_parts, cases_lt, eqb-false, eqb-true}
use Rattle.std.proofs.lemmas.List.{get_or_past, length-map}
use Rattle.degree_sequences.specs.Degrees.{degree}
use Rattle.degree_sequences.proofs.DegreeLists.{length_at_most_sum}
use Rattle.berge_tree.specs.declared.edges.Edge.{Edge}
use Rattle.berge_tree.specs.declared.edges.Place.{Place}
use Rattle.berge_tree.specs.Equalities.{places_of}
use Rattle.entry_sets.specs.Sets.{entries_of_set, has_entry}
use Rattle.entry_sets.proofs.Listing.{not_in_empty, in_front_or_rest}
use Rattle.join_graph.specs.Kept.{equalities_within}
use Rattle.bound_fold.proofs.TestedSets.{each_in_set, each_named_column, entry_at}
use Rattle.set_bounds.proofs.Forests.{all_in, each}
use Rattle.tree_bounds.specs.Scans.{SatisfiesScanned, scanned}
use Rattle.tree_bounds.specs.SetBounds.{SetHasLists, bound_of_set}
use Rattle.tree_bounds.specs.Tables.{ChoicesAreDifferent, Dominates, RowsFit, SetDominates}
use Rattle.tree_bounds.proofs.Scanned.{scanned_within}
use Rattle.safebound_lists.specs.declared.runs.Run.{Run}
use Rattle.safebound_bounds.specs.declared.arguments.ColumnList.{ColumnList}
use Rattle.safebound_bounds.specs.Meaning.{given_list, known_in, rows_in_set, rows_with_value}
use Rattle.safebound_bounds.specs.Values.{FitsColumn, AreEqualValues, SatisfiesValues, ValuedTables, ValuesFit, values_that_exist, value_of}
use Rattle.safebound_bounds.proofs.JoinableRows.{HasAtLeast, in_set_at, in_set_past, joinable_at_least}
use Rattle.safebound_bounds.proofs.WithValues.{cut_dominates, passing_are_at_most, keys_are_values, row_in}

module _ (tables : ValuedTables) where
  -- ---- the rows of an entry with a value in each of its columns that equalities name

  abbrev value_at : ℕ → ℕ → ℕ → Option ℕ
  value_at entry column row = get_or (tables.values entry column) row None

  abbrev has_value : ℕ → ℕ → Place → Bool
  has_value entry row p = if eqb p.entry entry then is_some (value_at p.entry p.column row) else true

  abbrev has_values : ℕ → List Edge → ℕ → Bool
  has_values entry [] row = true
  has_values entry (e ∷ es) row = has_value entry row e.left && (has_value entry row e.right && has_values entry es row)

  abbrev with_values : List Edge → ℕ → List ℕ
  with_values es entry = filter (has_values entry es) (range_with_len 0 (tables.rows entry))

  abbrev key : ℕ → ℕ → ℕ → ℕ
  key entry column row = unwrap_or (value_at entry column row) 0

  module _ (entry row : ℕ) where
    value_at_place_is_key : (p : Place) → has_value entry row p ≡ true → p.entry ≡ entry → value_at p.entry p.column row ≡ Some (key p.entry p.column row)
    value_at_place_is_key p has here = by (eqb p.entry entry) refl has
      where
        some_of_unwrapped : (o : Option ℕ) → is_some o ≡ true → o ≡ Some (unwrap_or o 0)
        some_of_unwrapped None some = absurd (cc some)
        some_of_unwrapped (Some v) some = refl

        by : (t : Bool) → eqb p.entry entry ≡ t → (if t then is_some (value_at p.entry p.column row) else true) ≡ true → value_at p.entry p.column row ≡ Some (key p.entry p.column row)
        by true is some = some_of_unwrapped (value_at p.entry p.column row) some
        by false is some = absurd (eqb-false p.entry entry is here)

    at_place : (es : List Edge) → has_values entry es row ≡ true → (p : Place) → Contains (places_of es) p → p.entry ≡ entry → value_at p.entry p.column row ≡ Some (key p.entry p.column row)
    at_place [] has p there here = absurd (not_in_empty p there)
    at_place (e ∷ es) has p there here =
        let left = and_parts (has_value entry row e.left) (has_value entry row e.right && has_values entry es row) has in
        let right = and_parts (has_value entry row e.right) (has_values entry es row) left.1 in
        elim (in_front_or_rest e.left (e.right ∷ places_of es) p there) [
          | inr is ↦ subst (λ (q : Place). q.entry ≡ entry → value_at q.entry q.column row ≡ Some (key q.entry q.column row)) (sym is) (value_at_place_is_key e.left left.0) here
          | inl old ↦ elim (in_front_or_rest e.right (places_of es) p old) [
            | inr is ↦ subst (λ (q : Place). q.entry ≡ entry → value_at q.entry q.column row ≡ Some (key q.entry q.column row)) (sym is) (value_at_place_is_key e.right right.0) here
            | inl older ↦ at_place es right.1 p older here
          ]
        ]

  -- ---- a choice that satisfies the equalities takes rows with values

  module _ (choice : ℕ → ℕ) where
    abbrev AreMatched : Edge → Type 0
    AreMatched e = AreEqualValues (value_of tables choice e.left.entry e.left.column) (value_of tables choice e.right.entry e.right.column)

    both_some : (o p : Option ℕ) → AreEqualValues o p → (is_some o ≡ true) × (is_some p ≡ true)
    both_some None p m = absurd m
    both_some (Some x) None m = absurd m
    both_some (Some x) (Some y) m = (refl, refl)

    matching_values_have_one_key : (o p : Option ℕ) → AreEqualValues o p → unwrap_or o 0 ≡ unwrap_or p 0
    matching_values_have_one_key None p m = absurd m
    matching_values_have_one_key (Some x) None m = absurd m
    matching_values_have_one_key (Some x) (Some y) m = m

    chosen_has : (entry : ℕ) (p : Place) → is_some (value_of tables choice p.entry p.column) ≡ true → has_value entry (choice entry) p ≡ true
    chosen_has entry p some = by (eqb p.entry entry) refl
      where
        by : (t : Bool) → eqb p.entry entry ≡ t → (if t then is_some (value_at p.entry p.column (choice entry)) else true) ≡ true
        by true is = subst (λ (n : ℕ). is_some (value_at p.entry p.column (choice n)) ≡ true) (eqb-true p.entry entry is) some
        by false is = refl

    chosen_has_all : (entry : ℕ) (es : List Edge) → AllByRecursion AreMatched es → has_values entry es (choice entry) ≡ true
    chosen_has_all entry [] all = refl
    chosen_has_all entry (e ∷ es) all =
        let both = both_some (value_of tables choice e.left.entry e.left.column) (value_of tables choice e.right.entry e.right.column) all.0 in
        and_from (has_value entry (choice entry) e.left) (has_value entry (choice entry) e.right && has_values entry es (choice entry)) (chosen_has entry e.left both.0)
        (and_from (has_value entry (choice entry) e.right) (has_values entry es (choice entry)) (chosen_has entry e.right both.1) (chosen_has_all entry es all.1))

    equal_values_have_one_key : (es : List Edge) → AllByRecursion AreMatched es
        → AllByRecursion (λ e. key e.left.entry e.left.column (choice e.left.entry) ≡ key e.right.entry e.right.column (choice e.right.entry)) es
    equal_values_have_one_key [] all = tt
    equal_values_have_one_key (e ∷ es) all = (matching_values_have_one_key (value_of tables choice e.left.entry e.left.column) (value_of tables choice e.right.entry e.right.column) all.0, equal_values_have_one_key es all.1)

    chosen_there : (es : List Edge) → AllByRecursion AreMatched es → (entries : List ℕ) → AllByRecursion (λ entry. choice entry < tables.rows entry) entries
        → AllByRecursion (λ entry. Contains (with_values es entry) (choice entry)) entries
    chosen_there es all [] rows = tt
    chosen_there es all (entry ∷ entries) rows = (
      row_in (has_values entry es) 0 (tables.rows entry) (choice entry) (omega arith) (omega (arith, rows.0)) (chosen_has_all entry es all),
      chosen_there es all entries rows.1,
    )

  pub are_scanned : (es : List Edge) (entries : List ℕ) (choices : List (ℕ → ℕ)) → AllByRecursion (SatisfiesValues tables entries es) choices
      → AllByRecursion (SatisfiesScanned (with_values es) key entries es) choices
  are_scanned es entries [] all = tt
  are_scanned es entries (choice ∷ choices) all = (
    record { rows = chosen_there choice es all.0.equal entries all.0.rows; equal = equal_values_have_one_key choice es all.0.equal },
    are_scanned es entries choices all.1,
  )

  -- ---- the row bounds and lists in a set fit the rows with values

  module _ (rows : List ℕ) (lists : List ColumnList) (runs : List Run) (es : List Edge) (subset : ℕ) (values_fit : ValuesFit rows (given_list lists runs) tables es subset) where
    abbrev equalities_in_set : List Edge
    equalities_in_set = equalities_within subset es

    abbrev rows_with_values : ℕ → List ℕ
    rows_with_values = with_values equalities_in_set

    -- For a column that the set's equalities name: a key is at most as frequent among the rows with values as in the column. These rows are at most
    -- as many as the values in the column.
    keys_are_at_most_as_frequent : (p : Place) → Contains (places_of equalities_in_set) p
        → ((a : ℕ) → degree (map (key p.entry p.column) (rows_with_values p.entry)) a ≤ degree (values_that_exist (tables.values p.entry p.column)) a)
        × (length (rows_with_values p.entry) ≤ length (values_that_exist (tables.values p.entry p.column)))
    keys_are_at_most_as_frequent p there =
        let fits : FitsColumn (given_list lists runs) tables p.entry p.column = each (λ (q : Place). FitsColumn (given_list lists runs) tables q.entry q.column) (places_of equalities_in_set) values_fit.columns p there in
        let found = keys_are_values (has_values p.entry equalities_in_set) (key p.entry p.column) (tables.values p.entry p.column) (λ k low passes. at_place p.entry k equalities_in_set passes p there refl) in
        subst (λ (n : ℕ). ((a : ℕ) → degree (map (key p.entry p.column) (filter (has_values p.entry equalities_in_set) (range_with_len 0 n))) a
        ≤ degree (values_that_exist (tables.values p.entry p.column)) a)
        × (length (filter (has_values p.entry equalities_in_set) (range_with_len 0 n)) ≤ length (values_that_exist (tables.values p.entry p.column)))) fits.one_each found

    column_has_at_least_as_many : (entry : ℕ) (p : Place) → Contains (places_of equalities_in_set) p → HasAtLeast lists runs entry (length (rows_with_values entry)) p
    column_has_at_least_as_many entry p there here =
        let fits : FitsColumn (given_list lists runs) tables p.entry p.column = each (λ (q : Place). FitsColumn (given_list lists runs) tables q.entry q.column) (places_of equalities_in_set) values_fit.columns p there in
        subst (λ (n : ℕ). length (rows_with_values n) ≤ rows_with_value lists runs p) here
        (omega (arith, (keys_are_at_most_as_frequent p there).1, length_at_most_sum (unwrap_or (given_list lists runs p.entry p.column) []) (values_that_exist (tables.values p.entry p.column)) fits.values))

    rows_fit : (entry : ℕ) → tables.rows entry ≤ get_or rows entry 0 → length (rows_with_values entry) ≤ get_or (rows_in_set rows lists runs es subset) entry 0
    rows_fit entry within =
        let few : length (rows_with_values entry) ≤ tables.rows entry = passing_are_at_most (has_values entry equalities_in_set) (tables.rows entry) in
        elim (cases_lt entry (length rows)) [
          | inl low ↦ omega (
            arith,
            in_set_at rows lists runs es subset entry low,
            joinable_at_least lists runs entry equalities_in_set (length (rows_with_values entry)) (get_or rows entry 0) (omega (arith, few, within))
                (all_in (HasAtLeast lists runs entry (length (rows_with_values entry))) (places_of equalities_in_set) (column_has_at_least_as_many entry)),
          )
          | inr past ↦ omega (arith, in_set_past rows lists runs es subset entry past, few, within, get_or_past rows entry 0 past)
        ]

    -- an entry that the set's equalities name is in the set, and so has no more rows than its row bound
    row_bound : (p : Place) → Contains (places_of equalities_in_set) p → tables.rows p.entry ≤ get_or rows p.entry 0
    row_bound p there =
        let inside : AllByRecursion (λ (q : Place). has_entry subset q.entry ≡ true) (places_of equalities_in_set) =
        each_named_column (λ entry column. has_entry subset entry ≡ true) subset es
        (λ k d low joins. and_parts (has_entry subset (get_or es k d).left.entry) (has_entry subset (get_or es k d).right.entry) joins) in
        entry_at (λ entry. tables.rows entry ≤ get_or rows entry 0) subset values_fit.entries p.entry (each (λ (q : Place). has_entry subset q.entry ≡ true) (places_of equalities_in_set) inside p there)

    pub fits_set : SetDominates (known_in rows lists runs es subset) (scanned rows_with_values key) es subset
    fits_set = record {
      rows = each_in_set (RowsFit (known_in rows lists runs es subset) (scanned rows_with_values key)) subset
          (λ k low has. rows_fit k (entry_at (λ entry. tables.rows entry ≤ get_or rows entry 0) subset values_fit.entries k has));
      columns = all_in (λ (p : Place). Dominates (known_in rows lists runs es subset) (scanned rows_with_values key) p.entry p.column) (places_of equalities_in_set) (λ p there.
          let fits : FitsColumn (given_list lists runs) tables p.entry p.column = each (λ (q : Place). FitsColumn (given_list lists runs) tables q.entry q.column) (places_of equalities_in_set) values_fit.columns p there in
          record {
            keys = cut_dominates (map (key p.entry p.column) (rows_with_values p.entry)) (values_that_exist (tables.values p.entry p.column)) (keys_are_at_most_as_frequent p there).0
                (get_or (rows_in_set rows lists runs es subset) p.entry 0)
                (omega (arith, length-map (rows_with_values p.entry) (key p.entry p.column), rows_fit p.entry (row_bound p there)))
                (given_list lists runs p.entry p.column) fits.values;
            key_per_row = length-map (rows_with_values p.entry) (key p.entry p.column);
          });
    }

    pub joined_within : SetHasLists (known_in rows lists runs es subset) es subset → (choices : List (ℕ → ℕ))
        → AllByRecursion (SatisfiesValues tables (entries_of_set subset) equalities_in_set) choices → ChoicesAreDifferent (entries_of_set subset) choices
        → length choices ≤ bound_of_set (known_in rows lists runs es subset) es subset
    joined_within listed choices satisfy differ =
        scanned_within (known_in rows lists runs es subset) rows_with_values key es subset listed fits_set choices (are_scanned equalities_in_set (entries_of_set subset) choices satisfy) differ
