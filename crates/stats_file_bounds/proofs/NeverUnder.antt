-- If a file stands for tables, the statistics that the file gives for a query stand for these tables.
use Rattle.std.proofs.Common.{◌≡◌, ℕ, suc, ◌<◌, ◌≤◌, Bool, true, false, ◌&&◌, cond, eqb, List, [], ◌∷◌, map, length, get_or, sum, Option, None, Some, option_map, refl, ap, sym, ◌∙◌, subst, inl, inr, arith}
use Rattle.std.specs.Prelude.{unwrap_or}
use Rattle.std.specs.List.{Contains, filter, list_all, list_any, range_with_len}
use Rattle.std.proofs.lemmas.Bool.{and_parts, cases_Bool, cond_both, eq-eqb, eqb-true, ne_eqb}
use Rattle.std.proofs.lemmas.List.{length-map}
use Rattle.berge_tree.specs.declared.edges.Edge.{Edge}
use Rattle.berge_tree.specs.declared.edges.Place.{Place}
use Rattle.berge_tree.specs.Equalities.{places_of}
use Rattle.csv_tables.specs.Values.{Value}
use Rattle.cond_stats.specs.Columns.{value_le}
use Rattle.cond_stats.specs.Leaves.{in_node, node_size}
use Rattle.cond_stats.proofs.LastPlaces.{last_place-mono, last_place-within}
use Rattle.cond_stats.proofs.Nodes.{node_between}
use Rattle.cond_stats.proofs.Ranges.{value_le-trans}
use Rattle.column_stats.proofs.NodeLists.{node_size-is}
use Rattle.degree_sequences.specs.Degrees.{different}
use Rattle.degree_sequences.specs.Domination.{DominatesKeys}
use Rattle.degree_sequences.proofs.Counting.{is_in, is_in-different}
use Rattle.degree_sequences.proofs.DegreeLists.{length_at_most_sum}
use Rattle.filtered_lists.specs.Ranges.{Range}
use Rattle.filtered_lists.specs.Standing.{CountsStandFor, ListsStandFor, has_value, is_from, is_in_range, is_up_to, rows_where, value_in_row}
use Rattle.filtered_lists.proofs.Counting.{all_pass}
use Rattle.gathered_stats.specs.Asked.{joined_columns}
use Rattle.join_graph.specs.Conjuncts.{equalities_of}
use Rattle.level_bounds.specs.Keys.{Keys}
use Rattle.level_bounds.proofs.Lists.{from_members, at_member, in_filter, in_map, in_from_test}
use Rattle.query_bounds.specs.Statistics.{StandFor}
use Rattle.query_types.specs.declared.types.Query.{Query}
use Rattle.query_types.specs.Named.{NamesItsEntries}
use Rattle.sql_meaning.specs.Tables.{Tables, row_counts}
use Rattle.stats_file.specs.declared.types.PairStats.{PairStats}
use Rattle.stats_file.specs.declared.types.StatsFile.{StatsFile}
use Rattle.stats_file.specs.declared.types.TableStats.{TableStats}
use Rattle.table_stats.specs.Keys.{SeparatesValues}
use Rattle.table_stats.proofs.EqualValues.{le_from_ge}
use Rattle.table_stats.proofs.FewerRows.{PassesBoth, all_in_range, fewer_dominated}
use Rattle.stats_file_of_query.specs.declared.needs.Needs.{Needs}
use Rattle.stats_file_of_query.specs.Needs.{needs_of, pairs_of}
use Rattle.stats_file_of_query.specs.ColumnPairs.{column_pair, pairs_between}
use Rattle.entry_sets.proofs.Listing.{in_front}
use Rattle.stats_file_of_query.specs.Standing.{PairStandsFor, SectionStandsFor, StandsFor, leaf_cut, leaf_of_value, list_between, list_of_value}
use Rattle.stats_file_bounds.specs.Entries.{KeepsRulesOfSome, IsSectionOfSome}
use Rattle.stats_file_bounds.specs.FileStatistics.{stats_file_counts, stats_file_lists, stats_file_statistics, paired_with, whole_by, whole_list}
use Rattle.stats_file_bounds.specs.Found.{are_columns, first_missing, has_pair, is_missing, no_pair, pair_for, pair_in, section_for}
use Rattle.stats_file_bounds.proofs.Finding.{none_passes}
use Rattle.stats_file_of_query.proofs.Leaves.{range_length}
use Rattle.stats_file_bounds.proofs.Small.{pair_for_within}
use Rattle.stats_file_bounds.proofs.Sums.{IsJoined, contained, found_at, pair_for_found, joined_needed, lead_joined, pair_found, partner_found, whole_sum}
use Rattle.stats_file_bounds.proofs.Telling.{IsThere, is_there, section_from_file, its_pairs, place_entry_in_range, section_is}

-- ---- the lists of a pair dominate keys of their rows

module _ (pair : PairStats) (tables : Tables) (entry : ℕ) (key : ℕ → ℕ) (stands : PairStandsFor pair tables entry key) (cuts_within_limit : length pair.cuts ≤ 32) where
  abbrev rows : List ℕ
  rows = range_with_len 0 (row_counts tables entry)

  abbrev value_at : ℕ → Value
  value_at row = value_in_row tables entry pair.filter row

  leaf_in_range : (value : Value) → leaf_of_value pair value ≤ 31
  leaf_in_range value =
      last_place-within (λ leaf. value_le (leaf_cut pair leaf) value) (range_with_len 0 (length pair.cuts)) 31 (omega (arith, cuts_within_limit, range_length (length pair.cuts) 0))

  abbrev first_leaf : Option Value → ℕ
  first_leaf lower = unwrap_or (option_map (leaf_of_value pair) lower) 0

  abbrev last_leaf : Option Value → ℕ
  last_leaf upper = unwrap_or (option_map (leaf_of_value pair) upper) 31

  first_leaf_in_range : (lower : Option Value) → first_leaf lower ≤ 31
  first_leaf_in_range None = omega arith
  first_leaf_in_range (Some lower) = leaf_in_range lower

  last_leaf_in_range : (upper : Option Value) → last_leaf upper ≤ 31
  last_leaf_in_range None = omega arith
  last_leaf_in_range (Some upper) = leaf_in_range upper

  from_first : (lower : Option Value) (value : Value) → is_from lower value ≡ true → first_leaf lower ≤ leaf_of_value pair value
  from_first None value h = omega arith
  from_first (Some lower) value h =
      last_place-mono (λ leaf. value_le (leaf_cut pair leaf) lower) (λ leaf. value_le (leaf_cut pair leaf) value)
      (λ leaf under. value_le-trans (leaf_cut pair leaf) lower value under (le_from_ge value lower h)) (range_with_len 0 (length pair.cuts))

  up_to_last : (upper : Option Value) (value : Value) → is_up_to upper value ≡ true → leaf_of_value pair value ≤ last_leaf upper
  up_to_last None value h = leaf_in_range value
  up_to_last (Some upper) value h =
      last_place-mono (λ leaf. value_le (leaf_cut pair leaf) value) (λ leaf. value_le (leaf_cut pair leaf) upper)
      (λ leaf under. value_le-trans (leaf_cut pair leaf) value upper under h) (range_with_len 0 (length pair.cuts))

  pub between_dominates : (lower upper : Option Value)
      → DominatesKeys (list_between pair lower upper) (map key (rows_where tables entry (λ row. is_from lower (value_at row) && is_up_to upper (value_at row))))
  between_dominates lower upper =
      let first : ℕ = first_leaf lower in
      let last : ℕ = last_leaf upper in
      let size : ℕ = node_size first last in
      let test : ℕ → Bool = λ row. is_from lower (value_at row) && is_up_to upper (value_at row) in
      let holds : ℕ → Bool = λ row. in_node size first (leaf_of_value pair (value_at row)) in
      fewer_dominated key test holds (list_between pair lower upper) rows
      (all_in_range (PassesBoth key test holds) 0 (row_counts tables entry)
      (λ row low_row h.
      let parts = and_parts (is_from lower (value_at row)) (is_up_to upper (value_at row)) h in
      node_between first last (leaf_of_value pair (value_at row)) (first_leaf_in_range lower) (last_leaf_in_range upper) (from_first lower (value_at row) parts.0) (up_to_last upper (value_at row) parts.1)))
      (stands.node size first (node_size-is first last) (omega (arith, first_leaf_in_range lower)))

-- ---- the list of all rows dominates the keys of fewer rows

filtered_rows_dominated : (tables : Tables) (entry : ℕ) (key : ℕ → ℕ) (s : List ℕ) (test : ℕ → Bool) → DominatesKeys s (map key (range_with_len 0 (row_counts tables entry)))
    → DominatesKeys s (map key (rows_where tables entry test))
filtered_rows_dominated tables entry key s test dominates =
    let rows : List ℕ = range_with_len 0 (row_counts tables entry) in
    fewer_dominated key test (λ row. true) s rows (all_in_range (PassesBoth key test (λ row. true)) 0 (row_counts tables entry) (λ row row_in_range h. refl))
    (subst (λ (those : List ℕ). DominatesKeys s (map key those)) (sym (all_pass (λ row. true) rows)) dominates)

-- ---- each filter column is paired with a joined column

pub partner_joined : (needs : Needs) (joined filter_column : ℕ) → Contains needs.joined joined → paired_with needs joined filter_column ≡ joined
partner_joined needs joined filter_column has = some needs.joined has
  where
    some : (joins : List ℕ) → Contains joins joined → cond (eqb (length joins) 0) filter_column joined ≡ joined
    some [] has = absurd (omega (arith, has.1))
    some (j ∷ joins) has = let there : eqb (length (j ∷ joins)) 0 ≡ false = ne_eqb (length (j ∷ joins)) 0 (λ e. absurd (omega (arith, e))) in rw there refl

-- ---- the statistics of an entry stand for its table

module _ (section : TableStats) (from_stats_file : IsSectionOfSome section) (needs : Needs) (has_all_pairs : list_all (has_pair section) (pairs_of needs) ≡ true)
    (tables : Tables) (entry : ℕ) (key : ℕ → ℕ → ℕ) (tells : (column : ℕ) → SeparatesValues tables entry column (key column)) (stands : SectionStandsFor section tables entry) where
  found_stands : (filter_column joined : ℕ) (p : PairStats) → pair_in section filter_column joined ≡ Some p
      → (p.filter ≡ filter_column) × (p.joined ≡ joined) × PairStandsFor p tables entry (key joined)
  found_stands filter_column joined p here =
      let at = found_at (are_columns filter_column joined) section.pairs p here in
      let parts = and_parts (eqb p.filter filter_column) (eqb p.joined joined) at.3 in
      let joined_is : p.joined ≡ joined = eqb-true p.joined joined parts.1 in (
        eqb-true p.filter filter_column parts.0,
        joined_is,
        subst (λ (q : PairStats). (k : ℕ → ℕ) → SeparatesValues tables entry q.joined k → PairStandsFor q tables entry k) (at.2 no_pair) (stands.pairs at.0 no_pair at.1) (key joined)
            (subst (λ j. SeparatesValues tables entry j (key joined)) (sym joined_is) (tells joined)),
      )

  abbrev its_pair : ℕ → ℕ → PairStats
  its_pair filter_column joined = pair_for section filter_column (paired_with needs joined filter_column)

  pair_stands : (filter_column joined : ℕ) → Contains needs.filters filter_column → IsJoined needs joined
      → ((its_pair filter_column joined).filter ≡ filter_column) × PairStandsFor (its_pair filter_column joined) tables entry (key (paired_with needs joined filter_column))
  pair_stands filter_column joined has joins =
      let found = partner_found section from_stats_file needs has_all_pairs filter_column joined has joins in
      let holds = found_stands filter_column (paired_with needs joined filter_column) found.0 found.1 in
      let same : its_pair filter_column joined ≡ found.0 = pair_for_found section from_stats_file needs has_all_pairs filter_column (paired_with needs joined filter_column) found.0 found.1 in
      (ap (λ (p : PairStats). p.filter) same ∙ holds.0, subst (λ (p : PairStats). PairStandsFor p tables entry (key (paired_with needs joined filter_column))) (sym same) holds.2)

  pair_cuts_within_limit : (filter_column joined : ℕ) → length (its_pair filter_column joined).cuts ≤ 32
  pair_cuts_within_limit filter_column joined = (pair_for_within section from_stats_file filter_column (paired_with needs joined filter_column)).cuts

  value_dominates : (filter_column joined : ℕ) → Contains needs.filters filter_column → IsJoined needs joined → (value : Value)
      → DominatesKeys (list_of_value (its_pair filter_column joined) value) (map (key (paired_with needs joined filter_column)) (rows_where tables entry (has_value tables entry filter_column value)))
  value_dominates filter_column joined has joins value =
      let its_stands = pair_stands filter_column joined has joins in
      subst (λ c. DominatesKeys (list_of_value (its_pair filter_column joined) value) (map (key (paired_with needs joined filter_column)) (rows_where tables entry (has_value tables entry c value))))
      its_stands.0 (its_stands.1.value value)

  range_dominates : (range : Range) (joined : ℕ) → Contains needs.filters range.column → IsJoined needs joined
      → DominatesKeys (list_between (its_pair range.column joined) range.low range.high) (map (key (paired_with needs joined range.column)) (rows_where tables entry (is_in_range tables entry range)))
  range_dominates range joined has joins =
      let its_stands = pair_stands range.column joined has joins in
      subst (λ c. DominatesKeys (list_between (its_pair range.column joined) range.low range.high) (map (key (paired_with needs joined range.column))
      (rows_where tables entry (λ row. is_from range.low (value_in_row tables entry c row) && is_up_to range.high (value_in_row tables entry c row)))))
      its_stands.0 (between_dominates (its_pair range.column joined) tables entry (key (paired_with needs joined range.column)) its_stands.1 (pair_cuts_within_limit range.column joined) range.low range.high)

  -- ---- the lists of a joined column dominate keys

  whole_dominates : (joined : ℕ) → Contains needs.joined joined → DominatesKeys (whole_list section needs joined) (map (key joined) (range_with_len 0 (row_counts tables entry)))
  whole_dominates joined has = by needs.filters refl
    where
      by : (filters : List ℕ) → needs.filters ≡ filters → DominatesKeys (whole_by section needs filters joined) (map (key joined) (range_with_len 0 (row_counts tables entry)))
      by [] is =
          let not_none : eqb (length needs.joined) 0 ≡ false = some needs.joined has in
          let needed : Contains (pairs_of needs) (column_pair joined joined) =
          subst (λ (f : List ℕ). Contains (pairs_between f needs.joined) (column_pair joined joined)) (sym is) (joined_needed needs.joined joined has) in
          let found = pair_found section from_stats_file needs has_all_pairs joined joined needed in
          let holds = found_stands joined joined found.0 found.1 in
          rw not_none (subst (λ (p : PairStats). DominatesKeys p.whole (map (key joined) (range_with_len 0 (row_counts tables entry))))
          (sym (pair_for_found section from_stats_file needs has_all_pairs joined joined found.0 found.1)) holds.2.whole)
        where
          some : (joins : List ℕ) → Contains joins joined → eqb (length joins) 0 ≡ false
          some [] has = absurd (omega (arith, has.1))
          some (j ∷ joins) has = ne_eqb (length (j ∷ joins)) 0 (λ e. absurd (omega (arith, e)))
      by (column ∷ columns) is =
          let its_stands = pair_stands column joined (subst (λ (f : List ℕ). Contains f column) (sym is) (in_front column columns column refl)) (contained needs joined has) in
          subst (λ j. DominatesKeys (its_pair column joined).whole (map (key j) (range_with_len 0 (row_counts tables entry)))) (partner_joined needs joined column has) its_stands.1.whole

  pub lists_stand : (joined : ℕ) → Contains needs.joined joined → ListsStandFor (stats_file_lists section needs joined) tables entry (key joined)
  lists_stand joined has =
      let joins : IsJoined needs joined = contained needs joined has in record {
        whole = whole_dominates joined has;
        equal = λ column value. elim (cases_Bool (list_any (λ other. eqb column other) needs.filters)) [
          | inl t ↦ rw t (subst (λ j. DominatesKeys (list_of_value (its_pair column joined) value) (map (key j) (rows_where tables entry (has_value tables entry column value))))
              (partner_joined needs joined column has) (value_dominates column joined (in_from_test needs.filters column t) joins value))
          | inr n ↦ rw n (filtered_rows_dominated tables entry (key joined) (whole_list section needs joined) (has_value tables entry column value) (whole_dominates joined has))
        ];
        range = λ range. elim (cases_Bool (list_any (λ other. eqb range.column other) needs.filters)) [
          | inl t ↦ rw t (subst (λ j. DominatesKeys (list_between (its_pair range.column joined) range.low range.high) (map (key j) (rows_where tables entry (is_in_range tables entry range))))
              (partner_joined needs joined range.column has) (range_dominates range joined (in_from_test needs.filters range.column t) joins))
          | inr n ↦ rw n (filtered_rows_dominated tables entry (key joined) (whole_list section needs joined) (is_in_range tables entry range) (whole_dominates joined has))
        ];
      }

  -- ---- the numbers of rows aren't too low

  fits : (s : List ℕ) (test : ℕ → Bool) (k : ℕ → ℕ) → DominatesKeys s (map k (rows_where tables entry test)) → length (rows_where tables entry test) ≤ sum s
  fits s test k dominates = omega (arith, length_at_most_sum s (map k (rows_where tables entry test)) dominates, length-map (rows_where tables entry test) k)

  abbrev lead : ℕ
  lead = get_or needs.joined 0 0

  all_rows : sum (whole_list section needs lead) ≡ row_counts tables entry
  all_rows = whole_sum section from_stats_file needs has_all_pairs lead (lead_joined needs) ∙ stands.rows

  fewer : (test : ℕ → Bool) → length (rows_where tables entry test) ≤ sum (whole_list section needs lead)
  fewer test = omega (arith, all_rows, kept_few test (range_with_len 0 (row_counts tables entry)), range_length (row_counts tables entry) 0)
    where
      kept_few : (p : ℕ → Bool) (xs : List ℕ) → length (filter p xs) ≤ length xs
      kept_few p [] = omega arith
      kept_few p (x ∷ xs) = cond_both (p x) (x ∷ filter p xs) (filter p xs) (λ s. length s ≤ suc (length xs)) (λ e. omega (arith, kept_few p xs)) (λ e. omega (arith, kept_few p xs))

  pub counts_stand : CountsStandFor (stats_file_counts section needs) tables entry
  counts_stand = record {
    whole = omega (arith, all_rows);
    equal = λ column value. elim (cases_Bool (list_any (λ other. eqb column other) needs.filters)) [
      | inl t ↦ rw t (fits (list_of_value (its_pair column lead) value) (has_value tables entry column value) (key (paired_with needs lead column))
          (value_dominates column lead (in_from_test needs.filters column t) (lead_joined needs) value))
      | inr n ↦ rw n (fewer (has_value tables entry column value))
    ];
    range = λ range. elim (cases_Bool (list_any (λ other. eqb range.column other) needs.filters)) [
      | inl t ↦ rw t (fits (list_between (its_pair range.column lead) range.low range.high) (is_in_range tables entry range) (key (paired_with needs lead range.column))
          (range_dominates range lead (in_from_test needs.filters range.column t) (lead_joined needs)))
      | inr n ↦ rw n (fewer (is_in_range tables entry range))
    ];
  }

-- ---- the statistics of a query stand for its tables

pub joined_has : (es : List Edge) (p : Place) → Contains (places_of es) p → Contains (joined_columns p.entry es) p.column
joined_has es p k =
    let L : List ℕ = map (λ (q : Place). q.column) (filter (λ (q : Place). eqb q.entry p.entry) (places_of es)) in
    let has : Contains L p.column =
    in_map (λ (q : Place). q.column) (filter (λ (q : Place). eqb q.entry p.entry) (places_of es)) p
    (in_filter (λ (q : Place). eqb q.entry p.entry) (places_of es) p k (eq-eqb p.entry p.entry refl)) in
    in_from_test (different L) p.column (at_member (λ x. is_in (different L) x ≡ true) L (is_in-different L) p.column has)

module _ (query : Query) (file : StatsFile) (is : KeepsRulesOfSome file) (tables : Tables) (key : Keys) (stands : StandsFor query file tables)
    (none : first_missing query file ≡ None) (own : NamesItsEntries query) (tells : (entry column : ℕ) → SeparatesValues tables entry column (key entry column)) where
  nothing_missing : (entry : ℕ) → entry < length query.from → is_missing query file entry ≡ false
  nothing_missing entry entry_in_range = none_passes (is_missing query file) 0 (length query.from) none entry (omega arith) (omega (arith, entry_in_range))

  its_section : (entry : ℕ) → entry < length query.from → SectionStandsFor (section_for query file entry) tables entry
  its_section entry entry_in_range =
      let t : IsThere query file entry = is_there query file entry (nothing_missing entry entry_in_range) in
      subst (λ (s : TableStats). SectionStandsFor s tables entry) (sym (section_is query file entry t)) (stands entry t.section entry_in_range t.is)

  abbrev section : ℕ → TableStats
  section entry = section_for query file entry

  lists_of : (p : Place) → Contains (places_of (equalities_of query)) p → ListsStandFor (stats_file_lists (section p.entry) (needs_of query p.entry) p.column) tables p.entry (key p.entry p.column)
  lists_of p has =
      let in_range : p.entry < length query.from = place_entry_in_range query own p has in
      let t : IsThere query file p.entry = is_there query file p.entry (nothing_missing p.entry in_range) in
      lists_stand (section p.entry) (section_from_file query file is p.entry t) (needs_of query p.entry) (its_pairs query file is p.entry t) tables p.entry (key p.entry) (tells p.entry)
      (its_section p.entry in_range) p.column (joined_has (equalities_of query) p has)

  pub known_stands : StandFor query (stats_file_statistics query file) tables key
  known_stands = record {
    counts = λ entry entry_in_range.
        let t : IsThere query file entry = is_there query file entry (nothing_missing entry entry_in_range) in
        counts_stand (section entry) (section_from_file query file is entry t) (needs_of query entry) (its_pairs query file is entry t) tables entry (key entry) (tells entry)
        (its_section entry entry_in_range);
    lists = from_members (λ (p : Place). ListsStandFor (stats_file_lists (section p.entry) (needs_of query p.entry) p.column) tables p.entry (key p.entry p.column))
        (places_of (equalities_of query)) lists_of;
  }
