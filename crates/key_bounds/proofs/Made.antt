-- The code collects the row bounds and lists of entries in a set one by one. These lemmas are the invariants of its loops.
use Rattle.std.proofs.Common.{◌≡◌, ◌≢◌, ◌⊎◌, inl, inr, ℕ, ◌<◌, ◌≤◌, ◌^◌, Bool, true, false, ◌&&◌, cond, eqb, List, [], ◌∷◌, length, map, min, sum, get_or, Option, None, Some, option_map, refl, ap, sym, ◌∙◌, subst, arith}
use Rattle.std.specs.Prelude.{All, IsSome, if◌then◌else◌, unwrap_or}
use Rattle.std.specs.List.{AllByRecursion, filter}
use Rattle.std.proofs.lemmas.Bool.{and_parts, cases_Bool, cases_eq, cases_lt, eqb-true, false≢true, lt-ltb, le-ltb}
use Rattle.std.proofs.lemmas.List.Elements.{recursion_from_All}
use Rattle.berge_tree.specs.declared.edges.Edge.{Edge}
use Rattle.degree_sequences.specs.RunningSums.{lesser}
use Rattle.join_graph.specs.Kept.{joins_within}
use Rattle.tree_bounds.specs.TreeBounds.{EntryBounds}
use Rattle.bound_fold.specs.declared.lists.EntryLists.{EntryLists}
use Rattle.bound_fold.specs.Lists.{bounds_of, list_of, row_bound_of}
use Rattle.bound_fold.specs.Sets.{HaveLists, SetHasBounds}
use Rattle.bound_fold.proofs.TestedSets.{each_in_set, each_named_column}
use Rattle.entry_sets.proofs.Listing.{entry_below}
use Rattle.filtered_lists.proofs.Lists.{sum-lesser}
use Rattle.set_bounds.specs.AllSets.{bound_in_128_bits, bounds_of_sets}
use Rattle.set_bounds.proofs.SetBySet.{bound_of_sets_at}
use Rattle.query_bounds.proofs.Holding.{pair_at}
use Rattle.planning.proofs.SameBounds.{sets_same}
use Rattle.key_stats.specs.declared.carried.CarriedBounds.{CarriedBounds}
use Rattle.key_bounds.specs.declared.key_lists.KeyLists.{KeyLists}
use Rattle.key_bounds.specs.Bounds.{least_list, least_rows}
use Rattle.key_bounds.specs.InSets.{CarriesLists, CarriesTo, IsPartOf, carried_to, lowered_rows, is_carried, bounds_with_carried, list_carried, list_within, lowered_list, rows_carried, rows_within}

some_there : {X : Type 0} (o : Option X) → IsSome o → (x : X) × (o ≡ Some x)
some_there None h = absurd (false≢true h)
some_there (Some x) h = (x, refl)

pub is_some : {X : Type 0} (o : Option X) (x : X) → o ≡ Some x → IsSome o
is_some o x is = subst (λ o. IsSome o) (sym is) refl

-- ---- one more carried bound in the loop

module _ (subset entry : ℕ) where
  next_carried : (c : CarriedBounds) (carried : List CarriedBounds)
      → carried_to (c ∷ carried) subset entry ≡ cond (is_carried subset entry c) (c ∷ carried_to carried subset entry) (carried_to carried subset entry)
  next_carried c carried = by (joins_within subset c.edge)
    where
      by : (b : Bool) → filter (λ (c : CarriedBounds). eqb c.edge.left.entry entry) (cond b (c ∷ filter (λ (c : CarriedBounds). joins_within subset c.edge) carried) (filter (λ (c : CarriedBounds). joins_within subset c.edge) carried))
          ≡ cond (b && eqb c.edge.left.entry entry) (c ∷ carried_to carried subset entry) (carried_to carried subset entry)
      by true = refl
      by false = refl

  next_rows : (c : CarriedBounds) (carried : List CarriedBounds) (rows : ℕ) → rows_within (c ∷ carried) subset entry rows ≡ rows_within carried subset entry (lowered_rows subset entry c rows)
  next_rows c carried rows = ap (λ (s : List CarriedBounds). least_rows rows (map (rows_carried entry) s)) (next_carried c carried) ∙ by (is_carried subset entry c)
    where
      by : (b : Bool) → least_rows rows (map (rows_carried entry) (cond b (c ∷ carried_to carried subset entry) (carried_to carried subset entry)))
          ≡ rows_within carried subset entry (cond b (min rows (rows_carried entry c)) rows)
      by true = refl
      by false = refl

  module _ (column : ℕ) where
    next_list : (c : CarriedBounds) (carried : List CarriedBounds) (list : List ℕ)
        → list_within (c ∷ carried) subset entry column list ≡ list_within carried subset entry column (lowered_list subset entry column c list)
    next_list c carried list = ap (λ (s : List CarriedBounds). least_list list (map (list_carried entry column) s)) (next_carried c carried) ∙ by (is_carried subset entry c)
      where
        by : (b : Bool) → least_list list (map (list_carried entry column) (cond b (c ∷ carried_to carried subset entry) (carried_to carried subset entry)))
            ≡ list_within carried subset entry column (cond b (lesser list (list_carried entry column c)) list)
        by true = refl
        by false = refl

    carried_sum : (c : CarriedBounds) → IsSome (list_of c.lists entry column) → sum (list_carried entry column c) ≡ rows_carried entry c
    carried_sum c there =
        let found = some_there (list_of c.lists entry column) there in
        ap (λ (o : Option (List ℕ)). sum (unwrap_or o [])) found.1 ∙ sym (ap (λ (o : Option ℕ). unwrap_or o 0) (c.lists.sums entry column found.0 found.1).1)

    narrowed_sum : (c : CarriedBounds) (list : List ℕ) → (c.edge.left.entry ≡ entry → IsSome (list_of c.lists entry column))
        → sum (lowered_list subset entry column c list) ≡ lowered_rows subset entry c (sum list)
    narrowed_sum c list carries = elim (cases_Bool (is_carried subset entry c)) [
      | inl counts ↦ (let here : c.edge.left.entry ≡ entry = eqb-true c.edge.left.entry entry (and_parts (joins_within subset c.edge) (eqb c.edge.left.entry entry) counts).1 in
          ap (λ (b : Bool). sum (cond b (lesser list (list_carried entry column c)) list)) counts
          ∙ sum-lesser list (list_carried entry column c) ∙ ap (min (sum list)) (carried_sum c (carries here))
          ∙ sym (ap (λ (b : Bool). cond b (min (sum list) (rows_carried entry c)) (sum list)) counts))
      | inr passed ↦ ap (λ (b : Bool). sum (cond b (lesser list (list_carried entry column c)) list)) passed
          ∙ sym (ap (λ (b : Bool). cond b (min (sum list) (rows_carried entry c)) (sum list)) passed)
    ]

    within_sum : (carried : List CarriedBounds) (list : List ℕ) → AllByRecursion (λ c. c.edge.left.entry ≡ entry → IsSome (list_of c.lists entry column)) carried
        → sum (list_within carried subset entry column list) ≡ rows_within carried subset entry (sum list)
    within_sum [] list carry = refl
    within_sum (c ∷ carried) list carry =
        ap (λ (s : List ℕ). sum s) (next_list c carried list) ∙ within_sum carried (lowered_list subset entry column c list) carry.1
        ∙ ap (rows_within carried subset entry) (narrowed_sum c list carry.0) ∙ sym (next_rows c carried (sum list))

-- ---- row bounds that were collected

module _ (bounds : EntryBounds) where
  pub record HasRowsTo (i : ℕ) (made : EntryLists) : Type 0 where
    pub there : (entry : ℕ) → entry < i → row_bound_of made entry ≡ Some (bounds.rows entry)
    pub past : (entry : ℕ) → i ≤ entry → row_bound_of made entry ≡ None

  -- ---- lists that were collected

  pub part_first : (count : ℕ) (made : EntryLists) → ((entry : ℕ) → entry < count → row_bound_of made entry ≡ Some (bounds.rows entry))
      × ((entry : ℕ) → count ≤ entry → row_bound_of made entry ≡ None) → ((entry column : ℕ) → list_of made entry column ≡ None) → IsPartOf bounds count made
  part_first count made rows none = record {
    rows = rows.0;
    past = rows.1;
    columns = λ entry column list is. (let clash : None ≡ Some list = sym (none entry column) ∙ is in absurd (cc));
  }

  one_some : {X : Type 0} (o : Option X) (x y : X) → o ≡ Some x → o ≡ Some y → x ≡ y
  one_some o x y e f = cc

  pub part_more : (count at in_column : ℕ) (list : List ℕ) (old new : EntryLists) → IsPartOf bounds count old → list ≡ bounds.list at in_column
      → list_of new at in_column ≡ Some list → ((e c : ℕ) → ((e ≢ at) ⊎ (c ≢ in_column)) → list_of new e c ≡ list_of old e c)
      → ((entry : ℕ) → row_bound_of new entry ≡ row_bound_of old entry) → IsPartOf bounds count new
  part_more count at in_column list old new before is set others rows = record {
    rows = λ entry entry_in_range. rows entry ∙ before.rows entry entry_in_range;
    past = λ entry past. rows entry ∙ before.past entry past;
    columns = λ e c l found. elim (cases_eq e at) [
      | inr apart ↦ before.columns e c l (sym (others e c (inl apart)) ∙ found)
      | inl same ↦ elim (cases_eq c in_column) [
        | inr apart ↦ before.columns e c l (sym (others e c (inr apart)) ∙ found)
        | inl like ↦ (let here : list_of new e c ≡ Some list = ap (λ (n : ℕ). list_of new n c) same ∙ ap (list_of new at) like ∙ set in
            one_some (list_of new e c) l list found here ∙ is ∙ ap (λ (n : ℕ). bounds.list n in_column) (sym same) ∙ ap (bounds.list e) (sym like))
      ]
    ];
  }

  pub kept_there : (at in_column : ℕ) (list : List ℕ) (old new : EntryLists) → list_of new at in_column ≡ Some list
      → ((e c : ℕ) → ((e ≢ at) ⊎ (c ≢ in_column)) → list_of new e c ≡ list_of old e c)
      → (e c : ℕ) → IsSome (list_of old e c) → IsSome (list_of new e c)
  kept_there at in_column list old new set others e c there = elim (cases_eq e at) [
    | inr apart ↦ subst (λ (o : Option (List ℕ)). IsSome o) (sym (others e c (inl apart))) there
    | inl same ↦ elim (cases_eq c in_column) [
      | inr apart ↦ subst (λ (o : Option (List ℕ)). IsSome o) (sym (others e c (inr apart))) there
      | inl like ↦ is_some (list_of new e c) list (ap (λ (n : ℕ). list_of new n c) same ∙ ap (list_of new at) like ∙ set)
    ]
  ]

  -- ---- the bounds of a set, after all row bounds and lists were collected

  module _ (count : ℕ) (made : EntryLists) (part : IsPartOf bounds count made) (zero_past_count : (entry : ℕ) → count ≤ entry → bounds.rows entry ≡ 0)
      (es : List Edge) (have : All (HaveLists made) es) (subset : ℕ) (fits : subset < 2 ^ count) where
    rows_same : (entry : ℕ) → (bounds_of made).rows entry ≡ bounds.rows entry
    rows_same entry = elim (cases_lt entry count) [
      | inl entry_in_range ↦ ap (λ (o : Option ℕ). unwrap_or o 0) (part.rows entry entry_in_range)
      | inr past ↦ ap (λ (o : Option ℕ). unwrap_or o 0) (part.past entry past) ∙ sym (zero_past_count entry past)
    ]

    list_same : (entry column : ℕ) → IsSome (list_of made entry column) → (bounds_of made).list entry column ≡ bounds.list entry column
    list_same entry column there =
        let found = some_there (list_of made entry column) there in
        ap (λ (o : Option (List ℕ)). unwrap_or o []) found.1 ∙ part.columns entry column found.0 found.1

    pub same_set_bound : bound_in_128_bits (bounds_of made) es subset ≡ bound_in_128_bits bounds es subset
    same_set_bound =
        let same : bounds_of_sets (bounds_of made) es count ≡ bounds_of_sets bounds es count =
        sets_same (bounds_of made) bounds rows_same es (λ k d k_in_range. (
          list_same (get_or es k d).left.entry (get_or es k d).left.column (have k d k_in_range).0,
          list_same (get_or es k d).right.entry (get_or es k d).right.column (have k d k_in_range).1,
        )) count in
        sym (bound_of_sets_at (bounds_of made) es count subset (bounds_of_sets (bounds_of made) es count) refl fits)
        ∙ bound_of_sets_at bounds es count subset (bounds_of_sets (bounds_of made) es count) same fits

    pub set_has_bounds : SetHasBounds made es subset
    set_has_bounds = record {
      rows = each_in_set (λ k. IsSome (row_bound_of made k)) subset (λ k k_in_range has. is_some (row_bound_of made k) (bounds.rows k) (part.rows k (entry_below count subset k fits has)));
      columns = each_named_column (λ entry column. IsSome (list_of made entry column)) subset es (λ k d k_in_range joins. have k d k_in_range);
    }

-- ---- the collected bounds are those of `bounds_with_carried`

module _ (keys : KeyLists) (subset : ℕ) where
  abbrev known : EntryBounds
  known = bounds_with_carried keys subset

  pub rows_known : (entry : ℕ) → entry < keys.count → rows_within keys.carried subset entry (unwrap_or (row_bound_of keys.own entry) 0) ≡ known.rows entry
  rows_known entry entry_in_range = sym (ap (λ (b : Bool). if b then rows_within keys.carried subset entry (unwrap_or (row_bound_of keys.own entry) 0) else 0) (lt-ltb entry keys.count entry_in_range))

  pub none_known : (entry : ℕ) → keys.count ≤ entry → known.rows entry ≡ 0
  none_known entry past = ap (λ (b : Bool). if b then rows_within keys.carried subset entry (unwrap_or (row_bound_of keys.own entry) 0) else 0) (le-ltb entry keys.count past)

  module _ (entry column : ℕ) (own : List ℕ) (there : list_of keys.own entry column ≡ Some own) where
    pub list_known : list_within keys.carried subset entry column own ≡ known.list entry column
    list_known = sym (ap (λ (o : Option (List ℕ)). unwrap_or (option_map (list_within keys.carried subset entry column) o) []) there)

    pub sum_known : (made : EntryLists) (list : List ℕ) → row_bound_of made entry ≡ Some (known.rows entry) → entry < keys.count
        → All (λ c. c.edge.left.entry ≡ entry → IsSome (list_of c.lists entry column)) keys.carried
        → list ≡ list_within keys.carried subset entry column own → row_bound_of made entry ≡ Some (sum list)
    sum_known made list rows entry_in_range carry is =
        rows ∙ ap Some (
        sym (rows_known entry entry_in_range)
        ∙ ap (λ (o : Option ℕ). rows_within keys.carried subset entry (unwrap_or o 0)) (keys.own.sums entry column own there).1
        ∙ sym (within_sum subset entry column keys.carried own (recursion_from_All (λ c. c.edge.left.entry ≡ entry → IsSome (list_of c.lists entry column)) keys.carried carry))
        ∙ sym (ap (λ (s : List ℕ). sum s) is)
        )

-- ---- lists that the code reads

pub listed_sum_fits : (lists : EntryLists) (entry column : ℕ) (list : List ℕ) → list_of lists entry column ≡ Some list → sum list < 2 ^ 64
listed_sum_fits lists entry column list is = lists.bounds entry (sum list) (lists.sums entry column list is).1

pub lesser_sum_fits : (own other made : List ℕ) → made ≡ lesser own other → sum own < 2 ^ 64 → sum made < 2 ^ 64
lesser_sum_fits own other made is in_range = omega (arith, ap (λ (s : List ℕ). sum s) is, sum-lesser own other, in_range)

pub carried_at : (es : List Edge) (carried : List CarriedBounds) → All (CarriesLists es) carried → (i : ℕ) (d : Edge) → i < length es
    → All (CarriesTo (get_or es i d).left) carried × All (CarriesTo (get_or es i d).right) carried
carried_at es carried all i d i_in_range = (
  (λ k c h. (pair_at (λ entry column. (get_or carried k c).edge.left.entry ≡ entry → IsSome (list_of (get_or carried k c).lists entry column)) es (all k c h) i d i_in_range).0),
  (λ k c h. (pair_at (λ entry column. (get_or carried k c).edge.left.entry ≡ entry → IsSome (list_of (get_or carried k c).lists entry column)) es (all k c h) i d i_in_range).1),
)
