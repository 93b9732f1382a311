-- The bounds that `KeyLists` gives, from statistics and carried lists, are those that `bounds_by_keys` specifies.
use Rattle.std.proofs.Common.{◌≡◌, ℕ, ◌<◌, ◌≤◌, ◌^◌, Bool, true, false, cond, eqb, List, [], ◌∷◌, length, map, get_or, Option, None, Some, option_map, refl, ap, sym, ◌∙◌, subst, arith, inl, inr}
use Rattle.std.specs.Prelude.{if◌then◌else◌, nat_lt, unwrap_or}
use Rattle.std.specs.List.{AllByRecursion, range_with_len}
use Rattle.std.proofs.Math.Path.{fun_ext}
use Rattle.std.proofs.lemmas.Bool.{and_parts, cases_Bool, eqb-true, false≢true, or_cases}
use Rattle.std.proofs.lemmas.List.Elements.{All-from_recursion, recursion_from_All}
use Rattle.limits.specs.Profile.{most_entries}
use Rattle.berge_tree.specs.declared.edges.Edge.{Edge}
use Rattle.berge_tree.specs.declared.edges.Place.{Place}
use Rattle.berge_tree.specs.Equalities.{places_of}
use Rattle.schema_types.specs.declared.types.Schema.{Schema}
use Rattle.query_types.specs.declared.types.Query.{Query}
use Rattle.join_graph.specs.Conjuncts.{equalities_of}
use Rattle.join_graph.specs.Kept.{joins_within}
use Rattle.tree_bounds.specs.Columns.{EachNamedColumn}
use Rattle.tree_bounds.specs.TreeBounds.{EntryBounds}
use Rattle.bound_fold.specs.declared.lists.EntryLists.{EntryLists}
use Rattle.bound_fold.specs.Lists.{bounds_of, list_of, row_bound_of}
use Rattle.set_bounds.specs.AllSets.{bounds_in_sets}
use Rattle.set_bounds.specs.Parts.{DependsOnPartsOnly}
use Rattle.sql_meaning.specs.Tables.{Tables}
use Rattle.query_bounds.specs.Bounds.{HoldsKnown, entry_bounds, is_among, is_at, joined_columns, scan_list, scan_row_bound}
use Rattle.query_bounds.proofs.Sets.{both_among, list_is_held, row_bound_is_held}
use Rattle.gathered_stats.specs.Statistics.{statistics_of}
use Rattle.planning.specs.declared.known.QueryBounds.{QueryBounds}
use Rattle.planning.specs.Bounds.{scan_bounds_of}
use Rattle.planning.specs.HasBounds.{HasBounds}
use Rattle.planning.proofs.Giving.{scans_from_statistics}
use Rattle.key_carriers.specs.Carriers.{carrying_equalities, carriers_to}
use Rattle.key_stats.specs.declared.carried.CarriedBounds.{CarriedBounds}
use Rattle.key_stats.specs.Carrying.{HaveCarriedBounds, HasCarriedBounds}
use Rattle.key_stats.specs.Lists.{carried_list, carried_rows}
use Rattle.key_bounds.specs.declared.key_lists.KeyLists.{KeyLists}
use Rattle.key_bounds.specs.Bounds.{bounds_by_keys, least_list, least_rows, list_by_keys, set_bounds_by_keys}
use Rattle.key_bounds.specs.InSets.{HaveKeyLists, CarriesLists, CarriesTo, carried_to, bounds_with_carried, list_carried, list_within, rows_carried, rows_within}
use Rattle.key_bounds.proofs.InParts.{depends_on_parts}
use Rattle.key_bounds.proofs.Made.{is_some}

each_among : (Q : ℕ → ℕ → Type 0) (places : List Place) → AllByRecursion (λ p. Q p.entry p.column) places → (entry column : ℕ) → is_among places entry column ≡ true → Q entry column
each_among Q [] all entry column among = absurd (false≢true among)
each_among Q (p ∷ places) all entry column among = elim (or_cases (is_at entry column p) (is_among places entry column) among) [
  | inl here ↦ (let both = and_parts (eqb p.entry entry) (eqb p.column column) here in
      subst (λ (n : ℕ). Q n column) (eqb-true p.entry entry both.0) (subst (Q p.entry) (eqb-true p.column column both.1) all.0))
  | inr later ↦ each_among Q places all.1 entry column later
]

-- ---- the carried bounds of an entry, in the order of its carriers

module _ {Y : Type 0} (subset entry : ℕ) (f : CarriedBounds → Y) (g : Edge → Y) where
  same_made : (carried : List CarriedBounds) → AllByRecursion (λ c. c.edge.left.entry ≡ entry → f c ≡ g c.edge) carried
      → map f (carried_to carried subset entry) ≡ map g (carriers_to (map (λ c. c.edge) carried) subset entry)
  same_made [] same = refl
  same_made (c ∷ carried) same =
      let rest : map f (carried_to carried subset entry) ≡ map g (carriers_to (map (λ c. c.edge) carried) subset entry) = same_made carried same.1 in
      elim (cases_Bool (joins_within subset c.edge)) [
        | inl joins ↦ elim (cases_Bool (eqb c.edge.left.entry entry)) [
          | inl here ↦ rw (joins, here) (
              ap (λ (y : Y). y ∷ map f (carried_to carried subset entry)) (same.0 (eqb-true c.edge.left.entry entry here))
              ∙ ap (λ (s : List Y). g c.edge ∷ s) rest)
          | inr other ↦ rw (joins, other) rest
        ]
        | inr outside ↦ rw outside rest
      ]

-- ---- the bounds in a set, from statistics and carried lists

module _ (schema : Schema) (query : Query) (tables : Tables) (accuracy : ℕ) (carried : List CarriedBounds) (along : HaveCarriedBounds query tables accuracy (carrying_equalities schema query) carried)
    (own : EntryLists) (held : HoldsKnown query (statistics_of tables accuracy) (length query.from) (joined_columns query) own) (count : ℕ) (all : count ≡ length query.from) where
  abbrev keys : KeyLists
  keys = record { count = count; own = own; carried = carried }

  tell_each : AllByRecursion (HasCarriedBounds query tables accuracy) carried
  tell_each = recursion_from_All (HasCarriedBounds query tables accuracy) carried along.tell

  each_of_them : (Q : CarriedBounds → Type 0) → ((c : CarriedBounds) → HasCarriedBounds query tables accuracy c → Q c) → (these : List CarriedBounds) → AllByRecursion (HasCarriedBounds query tables accuracy) these → AllByRecursion Q these
  each_of_them Q more [] tell = tt
  each_of_them Q more (c ∷ these) tell = (more c tell.0, each_of_them Q more these tell.1)

  carried_rows_same : (subset entry : ℕ) → map (rows_carried entry) (carried_to carried subset entry) ≡ map (carried_rows query tables) (carriers_to (carrying_equalities schema query) subset entry)
  carried_rows_same subset entry =
      same_made subset entry (rows_carried entry) (carried_rows query tables) carried
      (each_of_them (λ c. c.edge.left.entry ≡ entry → rows_carried entry c ≡ carried_rows query tables c.edge)
      (λ c tell same. ap (λ (n : ℕ). unwrap_or (row_bound_of c.lists n) 0) (sym same) ∙ ap (λ (o : Option ℕ). unwrap_or o 0) tell.rows) carried tell_each)
      ∙ ap (λ (es : List Edge). map (carried_rows query tables) (carriers_to es subset entry)) along.edges

  carried_lists_same : (subset entry column : ℕ) → is_among (joined_columns query) entry column ≡ true
      → map (list_carried entry column) (carried_to carried subset entry) ≡ map (λ e. carried_list query tables accuracy e column) (carriers_to (carrying_equalities schema query) subset entry)
  carried_lists_same subset entry column among =
      same_made subset entry (list_carried entry column) (λ e. carried_list query tables accuracy e column) carried
      (each_of_them (λ c. c.edge.left.entry ≡ entry → list_carried entry column c ≡ carried_list query tables accuracy c.edge column)
      (λ c tell same. ap (λ (o : Option (List ℕ)). unwrap_or o []) (each_among
      (λ entry column. entry ≡ c.edge.left.entry → list_of c.lists entry column ≡ Some (carried_list query tables accuracy c.edge column)) (places_of (equalities_of query)) tell.lists entry column among (sym same)))
      carried tell_each)
      ∙ ap (λ (es : List Edge). map (λ e. carried_list query tables accuracy e column) (carriers_to es subset entry)) along.edges

  rows_same : (subset entry : ℕ) → (bounds_with_carried keys subset).rows entry ≡ (bounds_by_keys schema query tables accuracy subset).rows entry
  rows_same subset entry =
      ap (λ (n : ℕ). if nat_lt entry n then rows_within carried subset entry (unwrap_or (row_bound_of own entry) 0) else 0) all
      ∙ by (nat_lt entry (length query.from)) (held.rows entry)
      ∙ ap (λ (s : List ℕ). if nat_lt entry (length query.from) then least_rows (scan_row_bound query (statistics_of tables accuracy) entry) s else 0) (carried_rows_same subset entry)
    where
      by : (b : Bool) → row_bound_of own entry ≡ cond b (Some (scan_row_bound query (statistics_of tables accuracy) entry)) None
          → cond b (rows_within carried subset entry (unwrap_or (row_bound_of own entry) 0)) 0
          ≡ cond b (least_rows (scan_row_bound query (statistics_of tables accuracy) entry) (map (rows_carried entry) (carried_to carried subset entry))) 0
      by true is = ap (λ (o : Option ℕ). rows_within carried subset entry (unwrap_or o 0)) is
      by false is = refl

  list_same : (subset entry column : ℕ) → (bounds_with_carried keys subset).list entry column ≡ (bounds_by_keys schema query tables accuracy subset).list entry column
  list_same subset entry column = by (is_among (joined_columns query) entry column) refl (held.columns entry column)
    where
      by : (b : Bool) → is_among (joined_columns query) entry column ≡ b → list_of own entry column ≡ cond b (Some (scan_list query (statistics_of tables accuracy) entry column)) None
          → (bounds_with_carried keys subset).list entry column
          ≡ (if is_among (joined_columns query) entry column then list_by_keys query tables accuracy entry column (carriers_to (carrying_equalities schema query) subset entry) else [])
      by true among is =
          ap (λ (o : Option (List ℕ)). unwrap_or (option_map (list_within carried subset entry column) o) []) is
          ∙ ap (least_list (scan_list query (statistics_of tables accuracy) entry column)) (carried_lists_same subset entry column among)
          ∙ sym (ap (λ (b : Bool). if b then list_by_keys query tables accuracy entry column (carriers_to (carrying_equalities schema query) subset entry) else []) among)
      by false among is =
          ap (λ (o : Option (List ℕ)). unwrap_or (option_map (list_within carried subset entry column) o) []) is
          ∙ sym (ap (λ (b : Bool). if b then list_by_keys query tables accuracy entry column (carriers_to (carrying_equalities schema query) subset entry) else []) among)

  same_bounds : (r s : ℕ → ℕ) (l m : ℕ → ℕ → List ℕ) → r ≡ s → l ≡ m → (let b : EntryBounds = record { rows = r; list = l } in b) ≡ record { rows = s; list = m }
  same_bounds r s l m h k = rw (h, k) refl

  pub known_is : bounds_with_carried keys ≡ bounds_by_keys schema query tables accuracy
  known_is = fun_ext (λ subset. same_bounds (bounds_with_carried keys subset).rows (bounds_by_keys schema query tables accuracy subset).rows (bounds_with_carried keys subset).list (bounds_by_keys schema query tables accuracy subset).list
      (fun_ext (rows_same subset)) (fun_ext (λ entry. fun_ext (list_same subset entry))))

  -- ---- the premises for the bounds of all sets

  pub are_keyed : (es : List Edge) → es ≡ equalities_of query → EachNamedColumn (λ entry column. entry < length query.from) (equalities_of query) → length query.from ≤ most_entries
      → (subset : ℕ) → subset < 2 ^ length query.from → HaveKeyLists keys es subset
  are_keyed es split named within_limit subset fits =
      subst (λ (s : List Edge). HaveKeyLists keys s subset) (sym split) (record {
        few = omega (arith, all, within_limit);
        fits = subst (λ (n : ℕ). subset < 2 ^ n) (sym all) fits;
        rows = λ entry in_range. is_some (row_bound_of own entry) (scan_row_bound query (statistics_of tables accuracy) entry)
            (row_bound_is_held query (statistics_of tables accuracy) (length query.from) (joined_columns query) own held entry (omega (arith, in_range, all)));
        lists = λ k d in_range.
            let among = both_among (equalities_of query) k d in_range in
            let e : Edge = get_or (equalities_of query) k d in (
              is_some (list_of own e.left.entry e.left.column) (scan_list query (statistics_of tables accuracy) e.left.entry e.left.column)
                  (list_is_held query (statistics_of tables accuracy) (length query.from) (joined_columns query) own held e.left.entry e.left.column among.0),
              is_some (list_of own e.right.entry e.right.column) (scan_list query (statistics_of tables accuracy) e.right.entry e.right.column)
                  (list_is_held query (statistics_of tables accuracy) (length query.from) (joined_columns query) own held e.right.entry e.right.column among.1),
            );
        entries = subst (λ (n : ℕ). EachNamedColumn (λ entry column. entry < n) (equalities_of query)) (sym all) named;
        carried = All-from_recursion (CarriesLists (equalities_of query)) carried (each_of_them (CarriesLists (equalities_of query)) (λ c tell. carries c (places_of (equalities_of query)) tell.lists) carried tell_each);
      })
    where
      carries : (c : CarriedBounds) (places : List Place)
          → AllByRecursion (λ p. p.entry ≡ c.edge.left.entry → list_of c.lists p.entry p.column ≡ Some (carried_list query tables accuracy c.edge p.column)) places
          → AllByRecursion (λ place. CarriesTo place c) places
      carries c [] lists = tt
      carries c (p ∷ places) lists = (
        (λ same. is_some (list_of c.lists p.entry p.column) (carried_list query tables accuracy c.edge p.column) (lists.0 (sym same))),
        carries c places lists.1,
      )

  pub bounds_depend_on_parts : (es : List Edge) → es ≡ equalities_of query → EachNamedColumn (λ entry column. entry < length query.from) (equalities_of query) → DependsOnPartsOnly (bounds_with_carried keys) es
  bounds_depend_on_parts es split named =
      subst (λ (s : List Edge). DependsOnPartsOnly (bounds_with_carried keys) s) (sym split)
      (subst (λ (b : ℕ → EntryBounds). DependsOnPartsOnly b (equalities_of query)) (sym known_is) (depends_on_parts schema query tables accuracy named))

  pub keys_give_bounds : (es : List Edge) (scans : List ℕ) (known : QueryBounds) → es ≡ equalities_of query → scans ≡ map (bounds_of own).rows (range_with_len 0 count) → length scans ≡ length query.from
      → bounds_of own ≡ entry_bounds query (statistics_of tables accuracy)
      → known.sets ≡ bounds_in_sets (bounds_with_carried keys) es (length scans) → known.scans ≡ scans
      → HasBounds (set_bounds_by_keys schema query tables accuracy) (scan_bounds_of query tables accuracy) known
  keys_give_bounds es scans known split are same_length bounds_known made kept = record {
    sets =
        made ∙ ap (λ (b : ℕ → EntryBounds). bounds_in_sets b es (length scans)) known_is
        ∙ ap (λ (s : List Edge). bounds_in_sets (bounds_by_keys schema query tables accuracy) s (length scans)) split
        ∙ ap (bounds_in_sets (bounds_by_keys schema query tables accuracy) (equalities_of query)) same_length;
    scans = kept ∙ are ∙ ap (λ (n : ℕ). map (bounds_of own).rows (range_with_len 0 n)) all ∙ scans_from_statistics query (statistics_of tables accuracy) own bounds_known;
  }
