-- In each set of entries, bounds with carried conjuncts stand for the rows that may take part in a choice for the set.
use Rattle.std.proofs.Common.{◌≡◌, ℕ, ◌<◌, ◌≤◌, ◌^◌, Bool, true, eqb, List, [], ◌∷◌, length, map, sum, get_or, ap, sym, ◌∙◌, subst, arith, inl, inr}
use Rattle.std.specs.Prelude.{if◌then◌else◌}
use Rattle.std.specs.List.{AllByRecursion, Contains, filter, range_with_len}
use Rattle.std.proofs.lemmas.Bool.{and_parts, cases_Bool, eqb-true, lt-ltb}
use Rattle.std.proofs.lemmas.List.{length-map}
use Rattle.berge_tree.specs.declared.edges.Edge.{Edge}
use Rattle.degree_sequences.specs.Domination.{DominatesKeys}
use Rattle.degree_sequences.specs.Descending.{IsDescending}
use Rattle.entry_sets.specs.Sets.{has_entry}
use Rattle.entry_sets.proofs.Listing.{entry_below}
use Rattle.schema_types.specs.declared.types.Schema.{Schema}
use Rattle.query_types.specs.declared.types.Query.{Query}
use Rattle.join_graph.specs.Conjuncts.{equalities_of}
use Rattle.join_graph.specs.Kept.{equalities_within, joins_within}
use Rattle.tree_bounds.specs.Columns.{EachNamedColumn}
use Rattle.tree_bounds.specs.Scans.{scanned}
use Rattle.tree_bounds.specs.SetBounds.{SetHasLists}
use Rattle.tree_bounds.specs.Tables.{Dominates, RowsFit, SetDominates}
use Rattle.tree_bounds.specs.TreeBounds.{EntryBounds, HasList}
use Rattle.bound_fold.proofs.TestedSets.{each_in_set, each_named_column}
use Rattle.sql_meaning.specs.Answers.{conjuncts_of}
use Rattle.sql_meaning.specs.Levels.{passes_own}
use Rattle.sql_meaning.specs.Tables.{Tables, row_counts}
use Rattle.level_bounds.specs.Keys.{Keys}
use Rattle.level_bounds.proofs.Lists.{from_members, all_true, from_filter}
use Rattle.filtered_lists.proofs.Counting.{count_is_enough, list_dominates}
use Rattle.filtered_lists.proofs.Lists.{filtered_descends, sum-filtered}
use Rattle.join_steps.specs.Lists.{list_at, scans_of}
use Rattle.table_stats.specs.Keys.{SeparatesValues}
use Rattle.table_stats.specs.Statistics.{column_lists, entry_counts}
use Rattle.table_stats.proofs.Dominating.{lists_stand}
use Rattle.table_stats.proofs.FewerRows.{PassesBoth, fewer_dominated}
use Rattle.table_stats.proofs.Summing.{counts_stand, lists_descend, lists_sum}
use Rattle.table_stats.proofs.ValueNumbers.{have_keys}
use Rattle.query_bounds.specs.Bounds.{is_among, joined_columns, scan_list, scan_row_bound}
use Rattle.query_bounds.proofs.Sets.{both_among}
use Rattle.gathered_stats.specs.Statistics.{statistics_of}
use Rattle.planning.specs.Standing.{StandForLists, StandInSet}
use Rattle.key_carriers.specs.Carriers.{carrying_equalities, carriers_to}
use Rattle.key_carriers.specs.DeclaredKeys.{DeclaredKeysHold}
use Rattle.key_carriers.specs.Widened.{refers_to_scanned}
use Rattle.key_stats.specs.Lists.{carried_list, carried_rows}
use Rattle.key_stats.proofs.CarriedLists.{carried_dominates, carried_descends, carried_fits, carried_sum}
use Rattle.key_bounds.specs.Bounds.{bounds_by_keys, least_rows, list_by_keys, rows_by_keys}
use Rattle.key_bounds.proofs.Least.{least_dominates, least_falls, least_fits, least_sum}
use Rattle.key_bounds.proofs.Taking.{none_lost, of_scans, refers_to_all, taken_at, may_take_part, rows_taking_part, taking_at}

stricter_filter_not_longer : (p q : ℕ → Bool) → ((row : ℕ) → p row ≡ true → q row ≡ true) → (rows : List ℕ) → length (filter p rows) ≤ length (filter q rows)
stricter_filter_not_longer p q more [] = omega arith
stricter_filter_not_longer p q more (row ∷ rows) =
    let rest : length (filter p rows) ≤ length (filter q rows) = stricter_filter_not_longer p q more rows in
    elim (cases_Bool (p row)) [
      | inl passes ↦ rw (passes, more row passes) (omega (arith, rest))
      | inr fails ↦ elim (cases_Bool (q row)) [
        | inl passes ↦ rw (fails, passes) (omega (arith, rest))
        | inr fails_too ↦ rw (fails, fails_too) rest
      ]
    ]

all_rows_pass : (p q : ℕ → Bool) → ((row : ℕ) → p row ≡ true → q row ≡ true) → (key : ℕ → ℕ) (rows : List ℕ) → AllByRecursion (PassesBoth key p q) rows
all_rows_pass p q more key [] = tt
all_rows_pass p q more key (row ∷ rows) = (more row, all_rows_pass p q more key rows)

-- ---- the bounds of an entry to which conjuncts are carried along any equalities

module _ (query : Query) (tables : Tables) (accuracy entry : ℕ) (es : List Edge) where
  base_sum : (column : ℕ) → sum (scan_list query (statistics_of tables accuracy) entry column) ≡ scan_row_bound query (statistics_of tables accuracy) entry
  base_sum column =
      sum-filtered (column_lists tables accuracy entry column) (entry_counts tables entry) entry query.conjuncts (lists_sum tables accuracy entry column)

  base_falls : (column : ℕ) → IsDescending (scan_list query (statistics_of tables accuracy) entry column)
  base_falls column = filtered_descends (column_lists tables accuracy entry column) entry query.conjuncts (lists_descend tables accuracy entry column)

  pub keyed_falls : (column : ℕ) → IsDescending (list_by_keys query tables accuracy entry column es)
  keyed_falls column =
      least_falls (λ e. carried_list query tables accuracy e column) (scan_list query (statistics_of tables accuracy) entry column) es (base_falls column)
      (λ e. carried_descends query tables e accuracy column)

  pub keyed_sum : (column : ℕ) → sum (list_by_keys query tables accuracy entry column es) ≡ rows_by_keys query tables accuracy entry es
  keyed_sum column =
      least_sum (λ e. carried_list query tables accuracy e column) (carried_rows query tables) (scan_list query (statistics_of tables accuracy) entry column) es
      (λ e. carried_sum query tables e accuracy column)
      ∙ ap (λ (n : ℕ). least_rows n (map (carried_rows query tables) es)) (base_sum column)

-- ---- the bounds of entries in a set

module _ (schema : Schema) (query : Query) (tables : Tables) (accuracy subset : ℕ) where
  abbrev bounds : EntryBounds
  bounds = bounds_by_keys schema query tables accuracy subset

  abbrev carried_edges_to : ℕ → List Edge
  carried_edges_to entry = carriers_to (carrying_equalities schema query) subset entry

  pub rows_are : (entry : ℕ) → entry < length query.from → bounds.rows entry ≡ rows_by_keys query tables accuracy entry (carried_edges_to entry)
  rows_are entry entry_in_range = ap (λ (b : Bool). if b then rows_by_keys query tables accuracy entry (carried_edges_to entry) else 0) (lt-ltb entry (length query.from) entry_in_range)

  pub list_is : (entry column : ℕ) → is_among (joined_columns query) entry column ≡ true → bounds.list entry column ≡ list_by_keys query tables accuracy entry column (carried_edges_to entry)
  list_is entry column among = ap (λ (b : Bool). if b then list_by_keys query tables accuracy entry column (carried_edges_to entry) else []) among

  pub has_list : (entry column : ℕ) → entry < length query.from → is_among (joined_columns query) entry column ≡ true → HasList bounds entry column
  has_list entry column entry_in_range among = record {
    descends = subst IsDescending (sym (list_is entry column among)) (keyed_falls query tables accuracy entry (carried_edges_to entry) column);
    total = ap (λ (s : List ℕ). sum s) (list_is entry column among) ∙ keyed_sum query tables accuracy entry (carried_edges_to entry) column ∙ sym (rows_are entry entry_in_range);
  }

  module _ (fits : subset < 2 ^ length query.from) where
    both_entries_in_range : (e : Edge) → joins_within subset e ≡ true → (e.left.entry < length query.from) × (e.right.entry < length query.from)
    both_entries_in_range e joins =
        let both = and_parts (has_entry subset e.left.entry) (has_entry subset e.right.entry) joins in
        (entry_below (length query.from) subset e.left.entry fits both.0, entry_below (length query.from) subset e.right.entry fits both.1)

    pub at_named : (Q : ℕ → ℕ → Type 0) → ((entry column : ℕ) → entry < length query.from → has_entry subset entry ≡ true → is_among (joined_columns query) entry column ≡ true → Q entry column)
        → EachNamedColumn Q (equalities_within subset (equalities_of query))
    at_named Q each =
        each_named_column Q subset (equalities_of query) (λ k d k_in_range joins.
        let among = both_among (equalities_of query) k d k_in_range in
        let e : Edge = get_or (equalities_of query) k d in
        let both = and_parts (has_entry subset e.left.entry) (has_entry subset e.right.entry) joins in
        let below = both_entries_in_range e joins in
        (each e.left.entry e.left.column below.0 both.0 among.0, each e.right.entry e.right.column below.1 both.1 among.1))

    pub set_has_lists : SetHasLists bounds (equalities_of query) subset
    set_has_lists = at_named (HasList bounds) (λ entry column entry_in_range has among. has_list entry column entry_in_range among)

    -- ---- the rows that may take part

    abbrev takes_part : ℕ → ℕ → Bool
    takes_part entry = may_take_part schema query tables subset fits entry

    own_passes : (entry row : ℕ) → takes_part entry row ≡ true → passes_own (conjuncts_of query tables) entry row ≡ true
    own_passes entry row passes =
        (and_parts (passes_own (conjuncts_of query tables) entry row) (refers_to_all schema query tables subset fits entry row) passes).0

    it_refers : (e : Edge) (entry row : ℕ) → Contains (carried_edges_to entry) e → takes_part entry row ≡ true → refers_to_scanned query tables e row ≡ true
    it_refers e entry row there passes =
        all_true (λ e. refers_to_scanned query tables e row) (carried_edges_to entry)
        (and_parts (passes_own (conjuncts_of query tables) entry row) (refers_to_all schema query tables subset fits entry row) passes).1 e there

    its_left : (e : Edge) (entry : ℕ) → Contains (carried_edges_to entry) e → e.left.entry ≡ entry
    its_left e entry there =
        eqb-true e.left.entry entry (from_filter (λ (e : Edge). eqb e.left.entry entry) (equalities_within subset (carrying_equalities schema query)) e there).1

    carried_rows_fit : (e : Edge) (entry : ℕ) → Contains (carried_edges_to entry) e → length (taking_at schema query tables subset fits entry) ≤ carried_rows query tables e
    carried_rows_fit e entry there =
        subst (λ (n : ℕ). Contains (carried_edges_to n) e → length (taking_at schema query tables subset fits n) ≤ carried_rows query tables e) (its_left e entry there)
        (λ here. omega (
          arith,
          stricter_filter_not_longer (takes_part e.left.entry) (refers_to_scanned query tables e) (λ row passes. it_refers e e.left.entry row here passes) (range_with_len 0 (row_counts tables e.left.entry)),
          carried_fits query tables e,
        )) there

    pub rows_fit : (entry : ℕ) → entry < length query.from → length (taking_at schema query tables subset fits entry) ≤ rows_by_keys query tables accuracy entry (carried_edges_to entry)
    rows_fit entry entry_in_range =
        least_fits (carried_rows query tables) (length (taking_at schema query tables subset fits entry)) (scan_row_bound query (statistics_of tables accuracy) entry) (carried_edges_to entry)
        (omega (
          arith,
          stricter_filter_not_longer (takes_part entry) (passes_own (conjuncts_of query tables) entry) (own_passes entry) (range_with_len 0 (row_counts tables entry)),
          count_is_enough (entry_counts tables entry) tables entry query.conjuncts (counts_stand tables entry),
        ))
        (from_members (λ e. length (taking_at schema query tables subset fits entry) ≤ carried_rows query tables e) (carried_edges_to entry) (λ e there. carried_rows_fit e entry there))

    module _ (key : Keys) (tells : (entry column : ℕ) → SeparatesValues tables entry column (key entry column)) where
      carried_keys : (e : Edge) (entry column : ℕ) → Contains (carried_edges_to entry) e
          → DominatesKeys (carried_list query tables accuracy e column) (map (key entry column) (taking_at schema query tables subset fits entry))
      carried_keys e entry column there =
          subst (λ (n : ℕ). Contains (carried_edges_to n) e → DominatesKeys (carried_list query tables accuracy e column) (map (key n column) (taking_at schema query tables subset fits n))) (its_left e entry there)
          (λ here. let rows : List ℕ = range_with_len 0 (row_counts tables e.left.entry) in
          fewer_dominated (key e.left.entry column) (takes_part e.left.entry) (refers_to_scanned query tables e) (carried_list query tables accuracy e column) rows
          (all_rows_pass (takes_part e.left.entry) (refers_to_scanned query tables e) (λ row passes. it_refers e e.left.entry row here passes) (key e.left.entry column) rows)
          (carried_dominates query tables e accuracy column (key e.left.entry column) (tells e.left.entry column))) there

      keys_dominated : (entry column : ℕ) → DominatesKeys (list_by_keys query tables accuracy entry column (carried_edges_to entry)) (map (key entry column) (taking_at schema query tables subset fits entry))
      keys_dominated entry column =
          let rows : List ℕ = range_with_len 0 (row_counts tables entry) in
          least_dominates (λ e. carried_list query tables accuracy e column) (map (key entry column) (taking_at schema query tables subset fits entry))
          (scan_list query (statistics_of tables accuracy) entry column) (carried_edges_to entry)
          (fewer_dominated (key entry column) (takes_part entry) (passes_own (conjuncts_of query tables) entry) (scan_list query (statistics_of tables accuracy) entry column) rows
          (all_rows_pass (takes_part entry) (passes_own (conjuncts_of query tables) entry) (own_passes entry) (key entry column) rows)
          (list_dominates (column_lists tables accuracy entry column) tables entry (key entry column) query.conjuncts (lists_stand tables accuracy entry column (key entry column) (tells entry column))))
          (from_members (λ e. DominatesKeys (carried_list query tables accuracy e column) (map (key entry column) (taking_at schema query tables subset fits entry))) (carried_edges_to entry)
          (λ e there. carried_keys e entry column there))

      dominates_at : (entry column : ℕ) → entry < length query.from → is_among (joined_columns query) entry column ≡ true
          → Dominates bounds (scanned (list_at (rows_taking_part schema query tables subset fits)) key) entry column
      dominates_at entry column entry_in_range among = record {
        keys =
            subst (λ (s : List ℕ). DominatesKeys (bounds.list entry column) (map (key entry column) s)) (sym (taken_at schema query tables subset fits entry entry_in_range))
            (subst (λ (s : List ℕ). DominatesKeys s (map (key entry column) (taking_at schema query tables subset fits entry))) (sym (list_is entry column among)) (keys_dominated entry column));
        key_per_row = length-map (list_at (rows_taking_part schema query tables subset fits) entry) (key entry column);
      }

      set_dominates : SetDominates bounds (scanned (list_at (rows_taking_part schema query tables subset fits)) key) (equalities_of query) subset
      set_dominates = record {
        rows = each_in_set (RowsFit bounds (scanned (list_at (rows_taking_part schema query tables subset fits)) key)) subset (λ entry small has.
            let entry_in_range : entry < length query.from = entry_below (length query.from) subset entry fits has in
            subst (λ (s : List ℕ). length s ≤ bounds.rows entry) (sym (taken_at schema query tables subset fits entry entry_in_range))
            (subst (λ (n : ℕ). length (taking_at schema query tables subset fits entry) ≤ n) (sym (rows_are entry entry_in_range)) (rows_fit entry entry_in_range)));
        columns = at_named (Dominates bounds (scanned (list_at (rows_taking_part schema query tables subset fits)) key)) (λ entry column entry_in_range has among. dominates_at entry column entry_in_range among);
      }

      pub stand_in_set : DeclaredKeysHold schema query tables → StandInSet query tables (scans_of query tables) key bounds subset
      stand_in_set holds = record {
        sufficient_lists = rows_taking_part schema query tables subset fits;
        are = of_scans schema query tables subset fits;
        none_lost = λ order o. none_lost schema query tables subset fits holds order o;
        have_lists = set_has_lists;
        dominate = set_dominates;
      }

-- ---- the bounds in all sets stand for the scans

pub stand_by_keys : (schema : Schema) (query : Query) (tables : Tables) (accuracy : ℕ) → DeclaredKeysHold schema query tables
    → (key : Keys) × StandForLists query tables (scans_of query tables) key (bounds_by_keys schema query tables accuracy)
stand_by_keys schema query tables accuracy holds =
    let keys = have_keys tables in (
      keys.0,
      record {
        keys = keys.2 (equalities_of query);
        each_set = λ subset fits. stand_in_set schema query tables accuracy subset fits keys.0 keys.1 holds;
      },
    )
