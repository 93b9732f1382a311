-- If the values of a call are valid, each set has the lists that its bound needs, the bounds are those of the definition, and no bound is too low.
use Rattle.std.proofs.Common.{◌≡◌, ◌⊎◌, inl, inr, ℕ, zero, suc, ◌+◌, ◌-◌, ◌<◌, ◌≤◌, ◌^◌, Bool, true, false, cond, eqb, List, [], ◌∷◌, ◌++◌, map, length, drop, get_or, Option, Some, None, option_map, find, refl, ap, sym, ◌∙◌, subst, sum, arith}
use Rattle.std.specs.Prelude.{IsSome, IfOk, OnOk, Result, Ok, Err, unwrap_or}
use Rattle.std.specs.List.{AllByRecursion, list_any, range_with_len}
use Rattle.std.proofs.lemmas.Bool.{and_parts, cases_lt, eqb-true}
use Rattle.std.proofs.lemmas.List.{length-map}
use Rattle.std.proofs.lemmas.List.FromFn.{get_or-map-range_with_len, length-map-range_with_len}
use Rattle.std.proofs.Math.Path.{fun_ext}
use Rattle.std.proofs.lemmas.Nat.{pow_pos}
use Rattle.entry_sets.specs.Sets.{entries_of_set}
use Rattle.degree_sequences.specs.Saturation.{saturated}
use Rattle.berge_tree.specs.declared.edges.Edge.{Edge}
use Rattle.join_graph.specs.Kept.{equalities_within}
use Rattle.tree_bounds.specs.SetBounds.{SetHasLists, bound_of_set}
use Rattle.tree_bounds.specs.Tables.{ChoicesAreDifferent}
use Rattle.tree_bounds.specs.TreeBounds.{EntryBounds, HasList}
use Rattle.bound_fold.specs.declared.lists.EntryLists.{EntryLists}
use Rattle.bound_fold.specs.Lists.{list_of as list_held, row_bound_of}
use Rattle.bound_fold.specs.Sets.{SetHasBounds}
use Rattle.bound_fold.proofs.TestedSets.{each_in_set, each_named_column}
use Rattle.set_bounds.specs.AllSets.{bound_in_128_bits, bounds_in_sets, bounds_of_sets}
use Rattle.safebound_lists.specs.declared.runs.Run.{Run}
use Rattle.safebound_lists.specs.Runs.{AreValid, list_of}
use Rattle.safebound_lists.specs.Written.{RoomBeginsWith}
use Rattle.entry_sets.proofs.Listing.{entry_below}
use Rattle.safebound_bounds.specs.declared.arguments.ColumnList.{ColumnList}
use Rattle.safebound_bounds.specs.declared.arguments.Equality.{Equality}
use Rattle.safebound_bounds.specs.Arguments.{equality_at, is_list_of_column, list_at, runs_of}
use Rattle.safebound_bounds.specs.Causes.{AreArgumentsValid}
use Rattle.safebound_bounds.specs.Listed.{HoldsListed}
use Rattle.safebound_bounds.specs.InSets.{CoversRows}
use Rattle.safebound_bounds.specs.Meaning.{all_bounds, bound_in, edge_of, edges_of, fitted, fitted_or_empty, given_list, known, known_in, decoded_list, in_64_bits, no_bound, rows_in_set, joinable_rows, rows_with_value}
use Rattle.safebound_bounds.specs.Values.{SatisfiesValues, ValuedTables, ValuesFit}
use Rattle.safebound_bounds.proofs.Fitting.{fitted_descends, fitted_sum, valid_runs_descend}
use Rattle.safebound_bounds.proofs.Holding.{found, row_bound_is_held}
use Rattle.safebound_bounds.proofs.Joined.{joined_within}
use Rattle.safebound_bounds.proofs.JoinableRows.{HasAtLeast, row_bounds_stay_in_set, joinable_at_least, joinable_at_most, arguments_stay_valid_in_set}

some_is_IsSome : {X : Type 0} (o : Option X) (x : X) → o ≡ Some x → IsSome o
some_is_IsSome o x e = rw e refl

-- ---- if every list has a property, a list that was found has it

pub list_found_satisfies : (entry column : ℕ) (lists : List ColumnList) (P : ColumnList → Type 0) → ((i : ℕ) → i < length lists → P (list_at lists i)) → (l : ColumnList)
    → find (is_list_of_column entry column) lists ≡ Some l → P l × (is_list_of_column entry column l ≡ true)
list_found_satisfies entry column [] P each l e = absurd (cc e)
list_found_satisfies entry column (x ∷ lists) P each l e = by (is_list_of_column entry column x) refl e (λ h. list_found_satisfies entry column lists P (λ i low. each (suc i) (omega arith)) l h)
  where
    some_same : (a b : ColumnList) → Some a ≡ Some b → a ≡ b
    some_same a b h = cc h

    by : (t : Bool) → is_list_of_column entry column x ≡ t → cond t (Some x) (find (is_list_of_column entry column) lists) ≡ Some l
        → (find (is_list_of_column entry column) lists ≡ Some l → P l × (is_list_of_column entry column l ≡ true)) → P l × (is_list_of_column entry column l ≡ true)
    by true is h rest =
        let same : x ≡ l = some_same x l h in
        (subst P same (each 0 (omega arith)), subst (λ (y : ColumnList). is_list_of_column entry column y ≡ true) same is)
    by false is h rest = rest h

module _ (rows : List ℕ) (equalities : List Equality) (lists : List ColumnList) (runs : List Run) (arguments_valid : AreArgumentsValid rows equalities lists runs) where
  given_list_is_valid : (entry column : ℕ) → list_any (is_list_of_column entry column) lists ≡ true → (l : ColumnList) × (find (is_list_of_column entry column) lists ≡ Some l) × AreValid (runs_of runs l)
  given_list_is_valid entry column any = by (find (is_list_of_column entry column) lists) refl (found entry column lists any)
    where
      by : (o : Option ColumnList) → find (is_list_of_column entry column) lists ≡ o → IsSome o → (l : ColumnList) × (find (is_list_of_column entry column) lists ≡ Some l) × AreValid (runs_of runs l)
      by None is some = absurd (cc some)
      by (Some l) is some = (l, is, (list_found_satisfies entry column lists (λ x. AreValid (runs_of runs x)) arguments_valid.runs_are_valid l is).0)

  -- ---- both columns of each equality have a list

  edge_at : (es : List Equality) (k : ℕ) (d : Edge) → k < length es → get_or (edges_of es) k d ≡ edge_of (equality_at es k)
  edge_at [] k d low = absurd (omega arith)
  edge_at (e ∷ es) zero d low = refl
  edge_at (e ∷ es) (suc k) d low = edge_at es k d (omega arith)

  edges_are_as_many : (es : List Equality) → length (edges_of es) ≡ length es
  edges_are_as_many es = length-map es edge_of

  columns_of_equality_satisfy : (Q : ℕ → ℕ → Type 0) → ((entry column : ℕ) → entry < length rows → list_any (is_list_of_column entry column) lists ≡ true → Q entry column)
      → (k : ℕ) (d : Edge) → k < length (edges_of equalities)
      → Q (get_or (edges_of equalities) k d).left.entry (get_or (edges_of equalities) k d).left.column
      × Q (get_or (edges_of equalities) k d).right.entry (get_or (edges_of equalities) k d).right.column
  columns_of_equality_satisfy Q h k d low =
      let here : k < length equalities = omega (arith, low, edges_are_as_many equalities) in
      let e : Equality = equality_at equalities k in
      subst (λ (x : Edge). Q x.left.entry x.left.column × Q x.right.entry x.right.column) (sym (edge_at equalities k d here)) (
        h (equality_at equalities k).left_entry (equality_at equalities k).left_column (arguments_valid.equalities_are_valid.each k here).left (arguments_valid.listed k here).left,
        h (equality_at equalities k).right_entry (equality_at equalities k).right_column (arguments_valid.equalities_are_valid.each k here).right (arguments_valid.listed k here).right,
      )

  pub every_set_has_bounds : (held : EntryLists) → HoldsListed rows (length rows) lists runs held → SetHasBounds held (edges_of equalities) (2 ^ length rows - 1)
  every_set_has_bounds held h = record {
    rows = each_in_set (λ k. IsSome (row_bound_of held k)) (2 ^ length rows - 1) (λ k low has.
        some_is_IsSome (row_bound_of held k) (get_or rows k 0) (row_bound_is_held rows (length rows) lists runs held h k
        (entry_below (length rows) (2 ^ length rows - 1) k (omega (arith, pow_pos (length rows))) has)));
    columns = each_named_column (λ entry column. IsSome (list_held held entry column)) (2 ^ length rows - 1) (edges_of equalities)
        (λ k d low joins. columns_of_equality_satisfy (λ entry column. IsSome (list_held held entry column)) (held_there held h) k d low);
  }
    where
      held_there : (held : EntryLists) → HoldsListed rows (length rows) lists runs held → (entry column : ℕ) → entry < length rows → list_any (is_list_of_column entry column) lists ≡ true → IsSome (list_held held entry column)
      held_there held h entry column low any =
          let l = given_list_is_valid entry column any in
          some_is_IsSome (list_held held entry column) (fitted (get_or rows entry 0) (list_of (runs_of runs l.0)))
          (h.columns entry column ∙ ap (λ (o : Option ColumnList). option_map (fitted (get_or rows entry 0)) (decoded_list runs o)) l.1)

  known_list : (entry column : ℕ) (l : ColumnList) → find (is_list_of_column entry column) lists ≡ Some l → (known rows lists runs).list entry column ≡ fitted (get_or rows entry 0) (list_of (runs_of runs l))
  known_list entry column l is = ap (λ (o : Option ColumnList). fitted_or_empty (get_or rows entry 0) (decoded_list runs o)) is

  has_list : (entry column : ℕ) → entry < length rows → list_any (is_list_of_column entry column) lists ≡ true → HasList (known rows lists runs) entry column
  has_list entry column low any =
      let l = given_list_is_valid entry column any in
      record {
        descends = rw (known_list entry column l.0 l.1) (fitted_descends (get_or rows entry 0) (list_of (runs_of runs l.0)) (valid_runs_descend (runs_of runs l.0) l.2));
        total = rw (known_list entry column l.0 l.1) (fitted_sum (get_or rows entry 0) (list_of (runs_of runs l.0)));
      }

  set_has_lists : (subset : ℕ) → SetHasLists (known rows lists runs) (edges_of equalities) subset
  set_has_lists subset =
      each_named_column (HasList (known rows lists runs)) subset (edges_of equalities) (λ k d low joins. columns_of_equality_satisfy (HasList (known rows lists runs)) has_list k d low)

-- ---- no bound is too low

module _ (rows : List ℕ) (equalities : List Equality) (lists : List ColumnList) (runs : List Run) (arguments_valid : AreArgumentsValid rows equalities lists runs) where
  pub set_within : (subset : ℕ) (tables : ValuedTables) → ValuesFit rows (given_list lists runs) tables (edges_of equalities) subset → (choices : List (ℕ → ℕ))
      → AllByRecursion (SatisfiesValues tables (entries_of_set subset) (equalities_within subset (edges_of equalities))) choices
      → ChoicesAreDifferent (entries_of_set subset) choices → length choices ≤ bound_of_set (known_in rows lists runs (edges_of equalities) subset) (edges_of equalities) subset
  set_within subset tables fit choices satisfy differ =
      joined_within tables rows lists runs (edges_of equalities) subset fit
      (set_has_lists (rows_in_set rows lists runs (edges_of equalities) subset) equalities lists runs
      (arguments_stay_valid_in_set rows lists runs (edges_of equalities) subset equalities arguments_valid) subset) choices satisfy differ

-- ---- bounds that are cut off at 64 bits

narrowed_after_saturated : (xs : List ℕ) (f : ℕ → ℕ) → map in_64_bits (map (λ x. saturated (f x)) xs) ≡ map (λ x. in_64_bits (f x)) xs
narrowed_after_saturated [] f = refl
narrowed_after_saturated (x ∷ xs) f =
    let same : in_64_bits (saturated (f x)) ≡ in_64_bits (f x) = omega arith in
    ap (λ y. y ∷ map in_64_bits (map (λ x. saturated (f x)) xs)) same ∙ ap (λ (ys : List ℕ). in_64_bits (f x) ∷ ys) (narrowed_after_saturated xs f)

pub narrowed_bounds_are_all_bounds : (b : ℕ → EntryBounds) (es fs : List Edge) (n : ℕ) (bounds : List ℕ) → es ≡ fs → bounds ≡ bounds_in_sets b es n → map in_64_bits bounds ≡ all_bounds b fs n
narrowed_bounds_are_all_bounds b es fs n bounds like is =
    ap (map in_64_bits) is
    ∙ narrowed_after_saturated (range_with_len 0 (2 ^ n)) (λ subset. bound_of_set (b subset) es subset)
    ∙ ap (λ (x : List Edge). all_bounds b x n) like

pub one_bound_for_each_set : (b : ℕ → EntryBounds) (es : List Edge) (n : ℕ) (bounds : List ℕ) → bounds ≡ bounds_in_sets b es n → length bounds ≡ 2 ^ n
one_bound_for_each_set b es n bounds is = ap length is ∙ length-map-range_with_len (λ (subset : ℕ). bound_in_128_bits (b subset) es subset) 0 (2 ^ n)

pub room_has_all_bounds : (b : ℕ → EntryBounds) (es fs : List Edge) (n : ℕ) (told bounds old new : List ℕ) (count : ℕ) → es ≡ fs → told ≡ bounds_in_sets b es n → bounds ≡ told
    → count ≡ length told → RoomBeginsWith (map in_64_bits bounds) old new (length bounds) → RoomBeginsWith (all_bounds b fs n) old new count
room_has_all_bounds b es fs n told bounds old new count like is same counted filled =
    subst (λ (s : List ℕ). RoomBeginsWith s old new count) (ap (map in_64_bits) same ∙ narrowed_bounds_are_all_bounds b es fs n told like is)
    (subst (RoomBeginsWith (map in_64_bits bounds) old new) (ap length same ∙ sym counted) filled)

pub narrowed_bound_is_bound_in : (b : ℕ → EntryBounds) (es fs : List Edge) (subset bound result : ℕ) → es ≡ fs → bound ≡ bound_in_128_bits (b subset) es subset → result ≡ in_64_bits bound
    → result ≡ bound_in b fs subset
narrowed_bound_is_bound_in b es fs subset bound result like is told =
    let same : in_64_bits (saturated (bound_of_set (b subset) es subset)) ≡ in_64_bits (bound_of_set (b subset) es subset) = omega arith in
    told ∙ ap in_64_bits is ∙ same ∙ ap (λ (x : List Edge). bound_in b x subset) like

pub within_bound_or_no_bound : (n bound narrowed : ℕ) → n ≤ bound → narrowed ≡ in_64_bits bound → (n ≤ narrowed) ⊎ (narrowed ≡ no_bound)
within_bound_or_no_bound n bound narrowed low is = elim (cases_lt bound (2 ^ 64 - 1)) [
  | inl small ↦ inl (omega (arith, low, is, small))
  | inr large ↦ inr (omega (arith, is, large))
]

pub bound_at_index_of_room : (b : ℕ → EntryBounds) (es : List Edge) (n : ℕ) (old new : List ℕ) (count : ℕ) → RoomBeginsWith (all_bounds b es n) old new count → (subset : ℕ) → subset < 2 ^ n
    → get_or new subset 0 ≡ bound_in b es subset
bound_at_index_of_room b es n old new count filled subset fits =
    ap (λ (s : List ℕ). get_or s subset 0) filled.filled
    ∙ element_of_front (all_bounds b es n) (drop count old) subset (omega (arith, fits, length-map-range_with_len (bound_in b es) 0 (2 ^ n)))
    ∙ get_or-map-range_with_len (bound_in b es) 0 (2 ^ n) subset subset 0 fits (omega arith)
  where
    element_of_front : (xs ys : List ℕ) (k : ℕ) → k < length xs → get_or (xs ++ ys) k 0 ≡ get_or xs k 0
    element_of_front [] ys k low = absurd (omega arith)
    element_of_front (x ∷ xs) ys zero low = refl
    element_of_front (x ∷ xs) ys (suc k) low = element_of_front xs ys k (omega arith)

module _ (rows : List ℕ) (equalities : List Equality) (lists : List ColumnList) (runs : List Run) (arguments_valid : AreArgumentsValid rows equalities lists runs) where
  pub room_never_under : (old new : List ℕ) (count : ℕ)
      → RoomBeginsWith (all_bounds (known_in rows lists runs (edges_of equalities)) (edges_of equalities) (length rows)) old new count
      → (subset : ℕ) → subset < 2 ^ length rows → (tables : ValuedTables) → ValuesFit rows (given_list lists runs) tables (edges_of equalities) subset → (choices : List (ℕ → ℕ))
      → AllByRecursion (SatisfiesValues tables (entries_of_set subset) (equalities_within subset (edges_of equalities))) choices
      → ChoicesAreDifferent (entries_of_set subset) choices → (length choices ≤ get_or new subset 0) ⊎ (get_or new subset 0 ≡ no_bound)
  room_never_under old new count filled subset fits tables fit choices satisfy differ =
      within_bound_or_no_bound (length choices) (bound_of_set (known_in rows lists runs (edges_of equalities) subset) (edges_of equalities) subset) (get_or new subset 0)
      (set_within rows equalities lists runs arguments_valid subset tables fit choices satisfy differ)
      (bound_at_index_of_room (known_in rows lists runs (edges_of equalities)) (edges_of equalities) (length rows) old new count filled subset fits)

  pub room_told : {E : Type 0} (old new : List ℕ) (r : Result ℕ E)
      → IfOk r (RoomBeginsWith (all_bounds (known_in rows lists runs (edges_of equalities)) (edges_of equalities) (length rows)) old new)
      → OnOk r ((subset : ℕ) → subset < 2 ^ length rows → (tables : ValuedTables) → ValuesFit rows (given_list lists runs) tables (edges_of equalities) subset → (choices : List (ℕ → ℕ))
      → AllByRecursion (SatisfiesValues tables (entries_of_set subset) (equalities_within subset (edges_of equalities))) choices
      → ChoicesAreDifferent (entries_of_set subset) choices → (length choices ≤ get_or new subset 0) ⊎ (get_or new subset 0 ≡ no_bound))
  room_told old new (Ok count) filled = room_never_under old new count filled
  room_told old new (Err e) filled = tt

  pub bound_never_under : (subset bound : ℕ) → bound ≡ bound_in (known_in rows lists runs (edges_of equalities)) (edges_of equalities) subset
      → (tables : ValuedTables) → ValuesFit rows (given_list lists runs) tables (edges_of equalities) subset → (choices : List (ℕ → ℕ))
      → AllByRecursion (SatisfiesValues tables (entries_of_set subset) (equalities_within subset (edges_of equalities))) choices
      → ChoicesAreDifferent (entries_of_set subset) choices → (length choices ≤ bound) ⊎ (bound ≡ no_bound)
  bound_never_under subset bound is tables fit choices satisfy differ =
      within_bound_or_no_bound (length choices) (bound_of_set (known_in rows lists runs (edges_of equalities) subset) (edges_of equalities) subset) bound
      (set_within rows equalities lists runs arguments_valid subset tables fit choices satisfy differ) is

-- ---- if the sum of every list is at least its entry's row bound, row bounds and lists are the same in every set

module _ (rows : List ℕ) (equalities : List Equality) (lists : List ColumnList) (runs : List Run) (arguments_valid : AreArgumentsValid rows equalities lists runs)
    (full : (i : ℕ) → i < length lists → CoversRows rows runs (list_at lists i)) where
  list_covers_row_bound : (entry column : ℕ) → list_any (is_list_of_column entry column) lists ≡ true → get_or rows entry 0 ≤ rows_with_value lists runs (record { entry = entry; column = column })
  list_covers_row_bound entry column any =
      let l = given_list_is_valid rows equalities lists runs arguments_valid entry column any in
      let found : CoversRows rows runs l.0 × (is_list_of_column entry column l.0 ≡ true) = list_found_satisfies entry column lists (CoversRows rows runs) full l.0 l.1 in
      let same : l.0.entry ≡ entry = eqb-true l.0.entry entry (and_parts (eqb l.0.entry entry) (eqb l.0.column column) found.1).0 in
      let whole : sum (unwrap_or (given_list lists runs entry column) []) ≡ sum (list_of (runs_of runs l.0)) = ap (λ (o : Option ColumnList). sum (unwrap_or (decoded_list runs o) [])) l.1 in
      omega (arith, whole, found.0, ap (λ (k : ℕ). get_or rows k 0) same)

  pub all_keep_rows : (subset : ℕ) → known_in rows lists runs (edges_of equalities) subset ≡ known rows lists runs
  all_keep_rows subset = ap (λ (s : List ℕ). known s lists runs) (row_bounds_stay_in_set rows lists runs (edges_of equalities) subset row_bound_stays)
    where
      row_bound_stays : (entry : ℕ) → entry < length rows → joinable_rows lists runs entry (equalities_within subset (edges_of equalities)) (get_or rows entry 0) ≡ get_or rows entry 0
      row_bound_stays entry low =
          omega (
            arith,
            joinable_at_most lists runs entry (equalities_within subset (edges_of equalities)) (get_or rows entry 0),
            joinable_at_least lists runs entry (equalities_within subset (edges_of equalities)) (get_or rows entry 0) (get_or rows entry 0) (omega arith)
                (each_named_column (λ e c. HasAtLeast lists runs entry (get_or rows entry 0) (record { entry = e; column = c })) subset (edges_of equalities) (λ k d low joins.
                columns_of_equality_satisfy rows equalities lists runs arguments_valid (λ e c. HasAtLeast lists runs entry (get_or rows entry 0) (record { entry = e; column = c }))
                (λ e c there any same. subst (λ (n : ℕ). get_or rows n 0 ≤ rows_with_value lists runs (record { entry = e; column = c })) same (list_covers_row_bound e c any)) k d low)),
          )

  pub bounds_if_covered : (es : List Edge) (bounds : List ℕ) → bounds ≡ bounds_of_sets (known rows lists runs) es (length rows)
      → bounds ≡ bounds_in_sets (known_in rows lists runs (edges_of equalities)) es (length rows)
  bounds_if_covered es bounds is = is ∙ ap (λ (b : ℕ → EntryBounds). bounds_in_sets b es (length rows)) (sym (fun_ext all_keep_rows))
