-- The bounds from the statistics file of a query are the bounds from the query's tables.
use Rattle.std.proofs.Common.{◌≡◌, ℕ, ◌<◌, ◌≤◌, true, false, eqb, List, [], ◌∷◌, length, get_or, sum, Option, None, Some, refl, ap, sym, ◌∙◌, subst, inl, inr, arith}
use Rattle.std.specs.Prelude.{if◌then◌else◌, nat_lt, IfSome}
use Rattle.std.specs.Bool.{IsTrue}
use Rattle.std.specs.List.{Contains, list_all, list_any, range_with_len}
use Rattle.std.proofs.Math.Path.{fun_ext}
use Rattle.std.proofs.lemmas.Bool.{and_parts, cases_Bool, eqb-true, ltb-true, ne_eqb}
use Rattle.std.proofs.lemmas.List.Elements.{All-contains}
use Rattle.berge_tree.specs.declared.edges.Place.{Place}
use Rattle.berge_tree.specs.Equalities.{places_of}
use Rattle.csv_tables.specs.declared.types.Database.{Database}
use Rattle.entry_sets.proofs.Listing.{in_front}
use Rattle.filtered_lists.specs.Lists.{ColumnLists, filtered_list}
use Rattle.filtered_lists.specs.Standing.{SumTo}
use Rattle.filtered_lists.proofs.Lists.{sum-filtered}
use Rattle.gathered_stats.specs.Asked.{compared_column}
use Rattle.gathered_stats.specs.Statistics.{statistics_of}
use Rattle.join_graph.specs.Conjuncts.{equalities_of}
use Rattle.level_bounds.proofs.Lists.{map_same_on_members, range_within, in_from_test}
use Rattle.predicate_bounds.specs.declared.steps.Step.{Step}
use Rattle.predicate_bounds.specs.Steps.{steps_of}
use Rattle.query_bounds.specs.Bounds.{entry_bounds, is_among, is_at, scan_bounds, scan_list, scan_row_bound, set_bounds}
use Rattle.query_bounds.specs.Statistics.{Statistics}
use Rattle.query_types.specs.Named.{NamesItsEntries}
use Rattle.query_types.specs.declared.types.Query.{Query}
use Rattle.schema_types.specs.declared.types.Schema.{Schema}
use Rattle.set_bounds.specs.AllSets.{bounds_of_sets}
use Rattle.sql_meaning.specs.Tables.{Tables, row_counts, tables_of}
use Rattle.stats_file.specs.declared.types.PairStats.{PairStats}
use Rattle.stats_file.specs.declared.types.StatsFile.{StatsFile}
use Rattle.stats_file.specs.declared.types.TableStats.{TableStats}
use Rattle.table_stats.specs.Statistics.{column_lists, entry_counts}
use Rattle.table_stats.proofs.Summing.{lists_sum}
use Rattle.tree_bounds.specs.TreeBounds.{EntryBounds}
use Rattle.stats_file_of_query.specs.declared.needs.Needs.{Needs}
use Rattle.stats_file_of_query.specs.Needs.{needs_of, pairs_of}
use Rattle.stats_file_of_query.specs.ColumnPairs.{column_pair, pairs_between}
use Rattle.stats_file_of_query.specs.Databases.{FitsQueryAndTexts}
use Rattle.stats_file_of_query.specs.Files.{file_of_query}
use Rattle.stats_file_of_query.specs.Pairs.{pair_in_table}
use Rattle.stats_file_of_query.specs.Standing.{list_between, list_of_value}
use Rattle.stats_file_of_query.proofs.Exact.{range_same, value_same, whole_same}
use Rattle.stats_file_of_query.proofs.Finding.{none_found}
use Rattle.stats_file_of_query.proofs.Rules.{file_keeps}
use Rattle.stats_file_of_query.proofs.Standing.{file_stands, share_rows}
use Rattle.stats_file_bounds.specs.Entries.{AsksForFilterColumn, KeepsRulesOfSome, IsSectionOfSome}
use Rattle.stats_file_bounds.specs.FileStatistics.{stats_file_counts, stats_file_lists, stats_file_statistics, is_filter, paired_with, whole_by, whole_list}
use Rattle.stats_file_bounds.specs.Found.{first_missing, has_pair, is_missing, pair_for, pair_in, section_for}
use Rattle.stats_file_bounds.proofs.EntryFacts.{asks_among}
use Rattle.join_graph.proofs.FromEntries.{names_its_entries}
use Rattle.stats_file_bounds.proofs.Sums.{IsJoined, contained, pair_for_found, joined_needed, lead_joined, pair_found, partner_found, whole_sum}
use Rattle.stats_file_bounds.proofs.Telling.{IsThere, is_there, section_from_file, its_pairs, place_entry_in_range, section_is}
use Rattle.stats_file_bounds.proofs.NeverUnder.{joined_has, partner_joined}
use Rattle.stats_file_exactness.proofs.SameLists.{AgreeAt, filtered_alike}
use Rattle.stats_file_exactness.proofs.Members.{any_passes}
use Rattle.stats_file_exactness.proofs.Sections as sections
use Rattle.stats_file_exactness.proofs.Sections.{IsSectionOf, has_needed_pairs, found_is, section_there}

-- ---- a file that has the statistics of the tables

-- each pair of the file is the pair that is made from the table's rows. A pair has the statistics of a joined column by the values of a filter column
pub record HasPairsOfTables (query : Query) (file : StatsFile) (tables : Tables) (accuracy : ℕ) : Type 0 where
  pub is_file : KeepsRulesOfSome file
  pub names : NamesItsEntries query
  pub there : (entry : ℕ) → entry < length query.from → is_missing query file entry ≡ false
  pub rows : (entry : ℕ) → entry < length query.from → (section_for query file entry).rows ≡ row_counts tables entry
  pub pairs : (entry : ℕ) → entry < length query.from → (filter_column joined : ℕ) (p : PairStats) → pair_in (section_for query file entry) filter_column joined ≡ Some p
      → p ≡ pair_in_table tables accuracy entry filter_column joined

module _ (query : Query) (file : StatsFile) (tables : Tables) (accuracy : ℕ) (knows : HasPairsOfTables query file tables accuracy) where
  -- ---- the section of an entry's table

  module _ (entry : ℕ) (entry_in_range : entry < length query.from) where
    there : IsThere query file entry
    there = is_there query file entry (knows.there entry entry_in_range)

    abbrev section : TableStats
    section = section_for query file entry

    abbrev needs : Needs
    needs = needs_of query entry

    from_stats_file : IsSectionOfSome section
    from_stats_file = section_from_file query file knows.is_file entry there

    all : list_all (has_pair section) (pairs_of needs) ≡ true
    all = its_pairs query file knows.is_file entry there

    found_pair : (filter_column joined : ℕ) → (p : PairStats) × (pair_in section filter_column joined ≡ Some p) → pair_for section filter_column joined ≡ pair_in_table tables accuracy entry filter_column joined
    found_pair filter_column joined found =
        pair_for_found section from_stats_file needs all filter_column joined found.0 found.1 ∙ knows.pairs entry entry_in_range filter_column joined found.0 found.1

    pair_is : (filter_column joined : ℕ) → Contains needs.filters filter_column → IsJoined needs joined
        → pair_for section filter_column (paired_with needs joined filter_column) ≡ pair_in_table tables accuracy entry filter_column (paired_with needs joined filter_column)
    pair_is filter_column joined has joins = found_pair filter_column (paired_with needs joined filter_column) (partner_found section from_stats_file needs all filter_column joined has joins)

    -- ---- the lists of an entry's columns

    -- the list of all rows is from the file; the other lists are from the tables
    abbrev made : ℕ → ColumnLists
    made joined = record {
      whole = whole_list section needs joined;
      equal = λ column value. (column_lists tables accuracy entry (paired_with needs joined column)).equal column value;
      range = λ range. (column_lists tables accuracy entry (paired_with needs joined range.column)).range range;
    }

    agree : (joined column : ℕ) → IsJoined needs joined → list_any (λ other. eqb column other) needs.filters ≡ true → AgreeAt (stats_file_lists section needs joined) (made joined) column
    agree joined column joins is = record {
      equal = λ value. rw is (ap (λ (p : PairStats). list_of_value p value) (pair_is column joined (in_from_test needs.filters column is) joins)
          ∙ value_same tables accuracy entry column (paired_with needs joined column) value);
      range = λ entry_in_range upper. rw is (ap (λ (p : PairStats). list_between p entry_in_range upper) (pair_is column joined (in_from_test needs.filters column is) joins)
          ∙ range_same tables accuracy entry column (paired_with needs joined column) entry_in_range upper);
    }

    asked_filter : (s : Step) → Contains (steps_of entry query.conjuncts) s → (column : ℕ) → compared_column s ≡ Some column → list_any (λ other. eqb column other) needs.filters ≡ true
    asked_filter s has column is =
        subst (λ (o : Option ℕ). IfSome o (λ column. IsTrue (is_filter needs column))) is
        (All-contains (AsksForFilterColumn needs) (steps_of entry query.conjuncts) s (asks_among needs (steps_of entry query.conjuncts) refl) has)

    filed_alike : (joined : ℕ) → IsJoined needs joined → filtered_list (stats_file_lists section needs joined) entry query.conjuncts ≡ filtered_list (made joined) entry query.conjuncts
    filed_alike joined joins =
        filtered_alike (stats_file_lists section needs joined) (made joined) refl entry query.conjuncts (λ s has column is. agree joined column joins (asked_filter s has column is))

    -- ---- the row bound of an entry

    abbrev lead : ℕ
    lead = get_or needs.joined 0 0

    own_sums : SumTo (stats_file_lists section needs lead) (stats_file_counts section needs)
    own_sums = record { whole = refl; equal = λ column value. refl; range = λ range. refl }

    made_sums : SumTo (made lead) (entry_counts tables entry)
    made_sums = record {
      whole = whole_sum section from_stats_file needs all lead (lead_joined needs) ∙ knows.rows entry entry_in_range;
      equal = λ column value. (lists_sum tables accuracy entry (paired_with needs lead column)).equal column value;
      range = λ range. (lists_sum tables accuracy entry (paired_with needs lead range.column)).range range;
    }

    rows_same : scan_row_bound query (stats_file_statistics query file) entry ≡ scan_row_bound query (statistics_of tables accuracy) entry
    rows_same =
        sym (sum-filtered (stats_file_lists section needs lead) (stats_file_counts section needs) entry query.conjuncts own_sums) ∙ ap (λ (s : List ℕ). sum s) (filed_alike lead (lead_joined needs))
        ∙ sum-filtered (made lead) (entry_counts tables entry) entry query.conjuncts made_sums

    -- ---- the list of a joined column

    module _ (joined : ℕ) (has : Contains needs.joined joined) where
      whole_is : whole_list section needs joined ≡ (column_lists tables accuracy entry joined).whole
      whole_is = by needs.filters refl
        where
          some : (joins : List ℕ) → Contains joins joined → eqb (length joins) 0 ≡ false
          some [] has = absurd (omega (arith, has.1))
          some (j ∷ joins) has = ne_eqb (length (j ∷ joins)) 0 (λ e. absurd (omega (arith, e)))

          by : (filters : List ℕ) → needs.filters ≡ filters → whole_by section needs filters joined ≡ (column_lists tables accuracy entry joined).whole
          by [] is =
              let needed : Contains (pairs_of needs) (column_pair joined joined) =
              subst (λ (f : List ℕ). Contains (pairs_between f needs.joined) (column_pair joined joined)) (sym is) (joined_needed needs.joined joined has) in
              rw (some needs.joined has) (ap (λ (p : PairStats). p.whole) (found_pair joined joined (pair_found section from_stats_file needs all joined joined needed))
              ∙ whole_same tables accuracy entry joined joined)
          by (column ∷ columns) is =
              ap (λ (p : PairStats). p.whole) (pair_is column joined (subst (λ (f : List ℕ). Contains f column) (sym is) (in_front column columns column refl)) (contained needs joined has))
              ∙ whole_same tables accuracy entry column (paired_with needs joined column) ∙ ap (λ j. (column_lists tables accuracy entry j).whole) (partner_joined needs joined column has)

      made_alike : (column : ℕ) → AgreeAt (made joined) (column_lists tables accuracy entry joined) column
      made_alike column = record {
        equal = λ value. ap (λ j. (column_lists tables accuracy entry j).equal column value) (partner_joined needs joined column has);
        range = λ lower upper. ap (λ j. (column_lists tables accuracy entry j).range (record { column = column; low = lower; high = upper })) (partner_joined needs joined column has);
      }

      list_same : scan_list query (stats_file_statistics query file) entry joined ≡ scan_list query (statistics_of tables accuracy) entry joined
      list_same =
          filed_alike joined (contained needs joined has)
          ∙ filtered_alike (made joined) (column_lists tables accuracy entry joined) whole_is entry query.conjuncts (λ s asked column is. made_alike column)

  -- ---- the bounds of scans, entries and sets

  pub scans_known : scan_bounds query (stats_file_statistics query file) ≡ scan_bounds query (statistics_of tables accuracy)
  scans_known =
      map_same_on_members (scan_row_bound query (stats_file_statistics query file)) (scan_row_bound query (statistics_of tables accuracy)) (range_with_len 0 (length query.from))
      (λ entry has. rows_same entry (omega (arith, (range_within 0 (length query.from) entry has).1)))

  same_bounds : (rows rows' : ℕ → ℕ) (lists lists' : ℕ → ℕ → List ℕ) → rows ≡ rows' → lists ≡ lists'
      → (let b : EntryBounds = record { rows = rows; list = lists } in b) ≡ record { rows = rows'; list = lists' }
  same_bounds rows rows' lists lists' h k = rw (h, k) refl

  abbrev rows_by : Statistics → ℕ → ℕ
  rows_by known entry = if nat_lt entry (length query.from) then scan_row_bound query known entry else 0

  abbrev list_by : Statistics → ℕ → ℕ → List ℕ
  list_by known entry column = if is_among (places_of (equalities_of query)) entry column then scan_list query known entry column else []

  each_rows : (entry : ℕ) → rows_by (stats_file_statistics query file) entry ≡ rows_by (statistics_of tables accuracy) entry
  each_rows entry = elim (cases_Bool (nat_lt entry (length query.from))) [
    | inl t ↦ rw t (rows_same entry (ltb-true entry (length query.from) t))
    | inr n ↦ rw n refl
  ]

  each_list : (entry column : ℕ) → list_by (stats_file_statistics query file) entry column ≡ list_by (statistics_of tables accuracy) entry column
  each_list entry column = elim (cases_Bool (is_among (places_of (equalities_of query)) entry column)) [
    | inl t ↦ rw t (at_place (any_passes (is_at entry column) (places_of (equalities_of query)) t))
    | inr n ↦ rw n refl
  ]
    where
      at_place : (p : Place) × Contains (places_of (equalities_of query)) p × (is_at entry column p ≡ true)
          → scan_list query (stats_file_statistics query file) entry column ≡ scan_list query (statistics_of tables accuracy) entry column
      at_place (p, has, is) =
          let parts = and_parts (eqb p.entry entry) (eqb p.column column) is in
          let in_range : p.entry < length query.from = place_entry_in_range query knows.names p has in
          subst (λ c. scan_list query (stats_file_statistics query file) entry c ≡ scan_list query (statistics_of tables accuracy) entry c) (eqb-true p.column column parts.1)
          (subst (λ e. scan_list query (stats_file_statistics query file) e p.column ≡ scan_list query (statistics_of tables accuracy) e p.column) (eqb-true p.entry entry parts.0)
          (list_same p.entry in_range p.column (joined_has (equalities_of query) p has)))

  pub bounds_known : entry_bounds query (stats_file_statistics query file) ≡ entry_bounds query (statistics_of tables accuracy)
  bounds_known =
      same_bounds (rows_by (stats_file_statistics query file)) (rows_by (statistics_of tables accuracy)) (list_by (stats_file_statistics query file)) (list_by (statistics_of tables accuracy))
      (fun_ext each_rows) (fun_ext (λ entry. fun_ext (each_list entry)))

  pub sets_known : set_bounds query (stats_file_statistics query file) ≡ set_bounds query (statistics_of tables accuracy)
  sets_known = ap (λ (b : EntryBounds). bounds_of_sets b (equalities_of query) (length query.from)) bounds_known

-- ---- the statistics file of the query

module _ (schema : Schema) (query : Query) (db : Database) (over : FitsQueryAndTexts schema query db) (accuracy : ℕ) (accuracy_positive : 0 < accuracy) (most : accuracy ≤ 64) where
  abbrev own_file : StatsFile
  own_file = file_of_query schema query (tables_of db) accuracy

  there_not_missing : (entry : ℕ) → entry < length query.from → is_missing query (file_of_query schema query (tables_of db) accuracy) entry ≡ false
  there_not_missing entry entry_in_range =
      let section = section_there schema query db over accuracy entry entry_in_range in
      let is = sections.section_is schema query db over accuracy entry section.0 section.1 in
      rw (section.1, has_needed_pairs schema query db over accuracy entry entry_in_range section.0 is) refl

  pub none_missing : first_missing query (file_of_query schema query (tables_of db) accuracy) ≡ None
  none_missing = none_found (is_missing query own_file) 0 (length query.from) (λ k from to. there_not_missing k (omega (arith, to)))

  its_there : (entry : ℕ) → entry < length query.from → IsThere query (file_of_query schema query (tables_of db) accuracy) entry
  its_there entry entry_in_range = is_there query own_file entry (there_not_missing entry entry_in_range)

  its_section : (entry : ℕ) → entry < length query.from → IsSectionOf schema query db over accuracy entry (section_for query (file_of_query schema query (tables_of db) accuracy) entry)
  its_section entry entry_in_range =
      let there = its_there entry entry_in_range in
      subst (IsSectionOf schema query db over accuracy entry) (sym (section_is query own_file entry there)) (sections.section_is schema query db over accuracy entry there.section there.is)

  own_has_pairs : HasPairsOfTables query (file_of_query schema query (tables_of db) accuracy) (tables_of db) accuracy
  own_has_pairs = record {
    is_file = record { schema = schema; keeps = file_keeps schema query db over accuracy accuracy_positive most };
    names = names_its_entries schema query over.of.query_is;
    there = there_not_missing;
    rows = λ entry entry_in_range. ap (λ (s : TableStats). s.rows) (section_is query own_file entry (its_there entry entry_in_range))
        ∙ (file_stands schema query (tables_of db) (share_rows schema query db over) accuracy entry (its_there entry entry_in_range).section entry_in_range (its_there entry entry_in_range).is).rows;
    pairs = λ entry entry_in_range filter_column joined p found.
        found_is schema query db over accuracy entry entry_in_range (section_for query own_file entry) (its_section entry entry_in_range) filter_column joined p found;
  }

  pub scans_same : scan_bounds query (stats_file_statistics query (file_of_query schema query (tables_of db) accuracy)) ≡ scan_bounds query (statistics_of (tables_of db) accuracy)
  scans_same = scans_known query own_file (tables_of db) accuracy own_has_pairs

  pub bounds_same : entry_bounds query (stats_file_statistics query (file_of_query schema query (tables_of db) accuracy)) ≡ entry_bounds query (statistics_of (tables_of db) accuracy)
  bounds_same = bounds_known query own_file (tables_of db) accuracy own_has_pairs

  pub sets_same : set_bounds query (stats_file_statistics query (file_of_query schema query (tables_of db) accuracy)) ≡ set_bounds query (statistics_of (tables_of db) accuracy)
  sets_same = sets_known query own_file (tables_of db) accuracy own_has_pairs
