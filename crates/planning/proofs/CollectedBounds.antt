-- Invariants of the loops that collect row bounds and degree sequences one after another. The collected row bounds and degree sequences together are
-- the bounds of the entries.
use Rattle.std.proofs.Common.{◌≡◌, ◌≢◌, ◌⊎◌, inl, inr, ℕ, ◌+◌, ◌-◌, ◌<◌, ◌^◌, List, [], length, get_or, Option, None, Some, refl, ap, sym, ◌∙◌, subst, arith}
use Rattle.std.specs.Prelude.{All, IsSome, unwrap_or}
use Rattle.std.proofs.lemmas.Bool.{cases_eq, cases_lt, false≢true}
use Rattle.std.proofs.lemmas.List.{get_or_past}
use Rattle.std.proofs.lemmas.Nat.{pow_pos}
use Rattle.berge_tree.specs.declared.edges.Edge.{Edge}
use Rattle.csv_tables.specs.declared.types.Database.{Database}
use Rattle.tree_bounds.specs.TreeBounds.{EntryBounds}
use Rattle.bound_fold.specs.declared.lists.EntryLists.{EntryLists}
use Rattle.bound_fold.specs.Lists.{bounds_of, list_of, row_bound_of}
use Rattle.bound_fold.specs.Sets.{HaveLists, SetHasBounds}
use Rattle.bound_fold.proofs.TestedSets.{each_in_set, each_named_column}
use Rattle.set_bounds.specs.AllSets.{bounds_of_sets}
use Rattle.query_bounds.proofs.Holding.{is_some_of, not_none_and_some}
use Rattle.sql_meaning.specs.Tables.{tables_of}
use Rattle.join_steps.specs.Lists.{listed_row_count}
use Rattle.entry_sets.proofs.Listing.{entry_below}
use Rattle.planning.specs.ListedBounds.{entry_bounds_over}
use Rattle.planning.specs.ListsSoFar.{HasRows, IsKnown}
use Rattle.planning.proofs.SameBounds.{sets_same}

some_there : {X : Type 0} (o : Option X) → IsSome o → (x : X) × (o ≡ Some x)
some_there None h = absurd (false≢true h)
some_there (Some x) h = (x, refl)

one_some : {X : Type 0} (o : Option X) (x y : X) → o ≡ Some x → o ≡ Some y → x ≡ y
one_some o x y e f = cc

-- ---- row bounds that were collected

pub rows_at_start : (lists : List (List ℕ)) (known : EntryLists) → ((entry : ℕ) → row_bound_of known entry ≡ None) → HasRows lists 0 known
rows_at_start lists known none = record { there = λ entry entry_in_range. absurd (omega arith); past = λ entry past. none entry }

pub rows_after_step : (lists : List (List ℕ)) (i rows : ℕ) (old new : EntryLists) → HasRows lists i old → rows ≡ listed_row_count lists i → row_bound_of new i ≡ Some rows
    → ((other : ℕ) → other ≢ i → row_bound_of new other ≡ row_bound_of old other) → HasRows lists (i + 1) new
rows_after_step lists i rows old new before is set others = record {
  there = λ entry entry_in_range. elim (cases_eq entry i) [
    | inl same ↦ ap (row_bound_of new) same ∙ set ∙ ap Some (is ∙ ap (listed_row_count lists) (sym same))
    | inr apart ↦ others entry apart ∙ before.there entry (omega arith)
  ];
  past = λ entry past. others entry (λ same. absurd (omega arith)) ∙ before.past entry (omega arith);
}

-- ---- lists that were collected

module _ (db : Database) (lists : List (List ℕ)) (accuracy : ℕ) where
  abbrev bounds : EntryBounds
  bounds = entry_bounds_over (tables_of db) lists accuracy

  pub known_at_start : (count : ℕ) (known : EntryLists) → count ≡ length lists → HasRows lists count known → ((entry column : ℕ) → list_of known entry column ≡ None)
      → IsKnown db lists accuracy known
  known_at_start count known all rows none = record {
    rows = subst (λ (n : ℕ). HasRows lists n known) all rows;
    columns = λ entry column list is. absurd (not_none_and_some (list_of known entry column) list (none entry column) is);
  }

  pub known_after_step : (at in_column : ℕ) (list : List ℕ) (old new : EntryLists) → IsKnown db lists accuracy old → list ≡ bounds.list at in_column
      → list_of new at in_column ≡ Some list → ((e c : ℕ) → ((e ≢ at) ⊎ (c ≢ in_column)) → list_of new e c ≡ list_of old e c)
      → ((entry : ℕ) → row_bound_of new entry ≡ row_bound_of old entry) → IsKnown db lists accuracy new
  known_after_step at in_column list old new before is set others rows = record {
    rows = record {
      there = λ entry entry_in_range. rows entry ∙ before.rows.there entry entry_in_range;
      past = λ entry past. rows entry ∙ before.rows.past entry past;
    };
    columns = λ e c l found. elim (cases_eq e at) [
      | inr apart ↦ before.columns e c l (sym (others e c (inl apart)) ∙ found)
      | inl same ↦ elim (cases_eq c in_column) [
        | inr apart ↦ before.columns e c l (sym (others e c (inr apart)) ∙ found)
        | inl like ↦ (let here : list_of new e c ≡ Some list = ap (λ (n : ℕ). list_of new n c) same ∙ ap (list_of new at) like ∙ set in
            one_some (list_of new e c) l list found here ∙ is ∙ ap (λ (n : ℕ). bounds.list n in_column) (sym same) ∙ ap (bounds.list e) (sym like))
      ]
    ];
  }

  pub kept_there : (at in_column : ℕ) (list : List ℕ) (old new : EntryLists) → list_of new at in_column ≡ Some list
      → ((e c : ℕ) → ((e ≢ at) ⊎ (c ≢ in_column)) → list_of new e c ≡ list_of old e c)
      → (e c : ℕ) → IsSome (list_of old e c) → IsSome (list_of new e c)
  kept_there at in_column list old new set others e c there = elim (cases_eq e at) [
    | inr apart ↦ subst (λ (o : Option (List ℕ)). IsSome o) (sym (others e c (inl apart))) there
    | inl same ↦ elim (cases_eq c in_column) [
      | inr apart ↦ subst (λ (o : Option (List ℕ)). IsSome o) (sym (others e c (inr apart))) there
      | inl like ↦ is_some_of (list_of new e c) list (ap (λ (n : ℕ). list_of new n c) same ∙ ap (list_of new at) like ∙ set)
    ]
  ]

  -- ---- the bounds of entries, from all row bounds and lists together

  module _ (known : EntryLists) (is : IsKnown db lists accuracy known) where
    pub row_bound_is : (entry : ℕ) → unwrap_or (row_bound_of known entry) 0 ≡ listed_row_count lists entry
    row_bound_is entry = elim (cases_lt entry (length lists)) [
      | inl entry_in_range ↦ ap (λ (o : Option ℕ). unwrap_or o 0) (is.rows.there entry entry_in_range)
      | inr past ↦ ap (λ (o : Option ℕ). unwrap_or o 0) (is.rows.past entry past) ∙ ap (λ (l : List ℕ). length l) (sym (get_or_past lists entry [] past))
    ]

    list_told : (entry column : ℕ) → IsSome (list_of known entry column) → unwrap_or (list_of known entry column) [] ≡ bounds.list entry column
    list_told entry column there =
        let found = some_there (list_of known entry column) there in
        ap (λ (o : Option (List ℕ)). unwrap_or o []) found.1 ∙ is.columns entry column found.0 found.1

    module _ (es : List Edge) (joined : All (HaveLists known) es) where
      pub sets_are : (n : ℕ) → bounds_of_sets (bounds_of known) es n ≡ bounds_of_sets bounds es n
      sets_are n = sets_same (bounds_of known) bounds row_bound_is es (λ k d k_in_range. (
        list_told (get_or es k d).left.entry (get_or es k d).left.column (joined k d k_in_range).0,
        list_told (get_or es k d).right.entry (get_or es k d).right.column (joined k d k_in_range).1,
      )) n

      pub all_have_bounds : (n : ℕ) → n ≡ length lists → SetHasBounds known es (2 ^ n - 1)
      all_have_bounds n all = record {
        rows = each_in_set (λ k. IsSome (row_bound_of known k)) (2 ^ n - 1) (λ k k_in_range has.
            let below : k < n = entry_below n (2 ^ n - 1) k (omega (arith, pow_pos n)) has in
            is_some_of (row_bound_of known k) (listed_row_count lists k) (is.rows.there k (omega (arith, below, all))));
        columns = each_named_column (λ entry column. IsSome (list_of known entry column)) (2 ^ n - 1) es (λ k d k_in_range joins. joined k d k_in_range);
      }
