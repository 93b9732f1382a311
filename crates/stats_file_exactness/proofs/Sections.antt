-- In the statistics file of a query, each entry's table has a section with pairs. A pair has the statistics of a joined column by the values of a
-- filter column. The section has each pair that the entry needs, and the pair is made from the entry's table.
use Rattle.std.proofs.Common.{◌≡◌, ℕ, ◌<◌, Bool, true, ◌&&◌, eqb, if◌then◌else◌, List, [], ◌∷◌, length, map, Option, None, Some, option_map, refl, ap, sym, ◌∙◌, subst, arith}
use Rattle.std.specs.Prelude.{find, is_some, slice_index_or, IfSome}
use Rattle.std.specs.List.{All, Contains, filter, filter_map, list_all, list_any, range_with_len}
use Rattle.std.proofs.lemmas.Bool.{and_parts, eq-eqb, eqb-true}
use Rattle.std.proofs.lemmas.List.{get_or-map}
use Rattle.std.proofs.lemmas.List.Elements.{All-contains}
use Rattle.csv_tables.specs.declared.types.Cells.{Cells}
use Rattle.csv_tables.specs.declared.types.Database.{Database}
use Rattle.berge_tree.specs.declared.edges.Place.{Place}
use Rattle.berge_tree.specs.Equalities.{places_of}
use Rattle.gathered_stats.specs.Asked.{compared_column, joined_columns, AsksWithin}
use Rattle.gathered_stats.proofs.Joined.{place_exists}
use Rattle.gathered_stats.proofs.ColumnsExist.{steps_within}
use Rattle.join_graph.specs.Conjuncts.{equalities_of}
use Rattle.level_bounds.proofs.Lists.{from_filter, from_filter_map, from_map, in_filter, in_filter_map, in_map, in_range, true_for_all}
use Rattle.predicate_bounds.specs.declared.steps.Step.{Step}
use Rattle.predicate_bounds.specs.Steps.{steps_of}
use Rattle.query_types.specs.declared.types.Query.{Query}
use Rattle.query_types.specs.declared.types.Source.{Source}
use Rattle.schema_types.specs.declared.types.Schema.{Schema}
use Rattle.sql_meaning.specs.Tables.{cells_of, no_cells, tables_of}
use Rattle.stats_file.specs.declared.types.PairStats.{PairStats}
use Rattle.stats_file.specs.declared.types.StatsFile.{StatsFile}
use Rattle.stats_file.specs.declared.types.TableStats.{TableStats}
use Rattle.stats_file_of_query.specs.declared.column_pairs.ColumnPair.{ColumnPair}
use Rattle.stats_file_of_query.specs.Needs.{filter_columns, needed, needed_of_table, needs_of, table_of}
use Rattle.stats_file_of_query.specs.ColumnPairs.{column_pair, is_pair, of_itself, pairs_between, with_each}
use Rattle.stats_file_of_query.specs.Databases.{FitsQueryAndTexts}
use Rattle.stats_file_of_query.specs.Files.{column_count, file_of_query, first_entry, for_each_pair, joined_with, section_of_table}
use Rattle.stats_file_of_query.specs.Pairs.{pair_in_cells, pair_in_table}
use Rattle.stats_file_of_query.specs.Standing.{section_of}
use Rattle.stats_file_of_query.proofs.Finding.{found_in}
use Rattle.stats_file_of_query.proofs.SameSections.{first_is, kinds_are, pair_same}
use Rattle.stats_file_of_query.proofs.Standing.{all_made}
use Rattle.stats_file_bounds.specs.Found.{are_columns, has_pair, pair_in}
use Rattle.stats_file_bounds.proofs.Sums.{in_lists}
use Rattle.stats_file_exactness.proofs.Members.{any_true, find_some, from_different, from_lists}

-- ---- pairs between columns

pub pair_columns : (P : ℕ → Type 0) (filters joined : List ℕ) → ((c : ℕ) → Contains filters c → P c) → ((c : ℕ) → Contains joined c → P c)
    → (x : ColumnPair) → Contains (pairs_between filters joined) x → P x.filter × P x.joined
pair_columns P [] joined has_filter has_joined x has =
    let from = from_map of_itself joined x has in
    (subst (λ (y : ColumnPair). P y.filter) (sym from.2) (has_joined from.0 from.1), subst (λ (y : ColumnPair). P y.joined) (sym from.2) (has_joined from.0 from.1))
pair_columns P (f ∷ filters) [] has_filter has_joined x has =
    let from = from_map of_itself (f ∷ filters) x has in
    (subst (λ (y : ColumnPair). P y.filter) (sym from.2) (has_filter from.0 from.1), subst (λ (y : ColumnPair). P y.joined) (sym from.2) (has_filter from.0 from.1))
pair_columns P (f ∷ filters) (j ∷ joined) has_filter has_joined x has =
    let at = from_lists (with_each (j ∷ joined)) (f ∷ filters) x has in
    let from = from_map (column_pair at.0) (j ∷ joined) x at.2 in
    (subst (λ (y : ColumnPair). P y.filter) (sym from.2) (has_filter at.0 at.1), subst (λ (y : ColumnPair). P y.joined) (sym from.2) (has_joined from.0 from.1))

module _ (schema : Schema) (query : Query) (db : Database) (over : FitsQueryAndTexts schema query db) (accuracy : ℕ) where
  abbrev file : StatsFile
  file = file_of_query schema query (tables_of db) accuracy

  abbrev its_pair : ℕ → ℕ → ℕ → PairStats
  its_pair entry filter_column joined = pair_in_table (tables_of db) accuracy entry filter_column joined

  -- ---- columns that exist in their tables

  abbrev IsThere : ℕ → ℕ → Type 0
  IsThere entry column = column < length (cells_of db entry).kinds

  pub asked_there : (entry : ℕ) (s : Step) → Contains (steps_of entry query.conjuncts) s → (column : ℕ) → compared_column s ≡ Some column → IsThere entry column
  asked_there entry s has column is =
      subst (λ (o : Option ℕ). IfSome o (IsThere entry)) is
      (All-contains (AsksWithin (cells_of db entry)) (steps_of entry query.conjuncts) s (steps_within db entry query.conjuncts over.of.database.conjuncts) has)

  filter_there : (entry column : ℕ) → Contains (filter_columns query entry) column → IsThere entry column
  filter_there entry column has =
      let asked = from_filter_map compared_column (steps_of entry query.conjuncts) column (from_different (filter_map compared_column (steps_of entry query.conjuncts)) column has) in
      asked_there entry asked.0 asked.1 column asked.2

  joined_there : (entry column : ℕ) → Contains (joined_columns entry (equalities_of query)) column → IsThere entry column
  joined_there entry column has =
      let places : List Place = places_of (equalities_of query) in
      let of_entry : Place → Bool = λ p. eqb p.entry entry in
      let at = from_map (λ (p : Place). p.column) (filter of_entry places) column (from_different (map (λ (p : Place). p.column) (filter of_entry places)) column has) in
      let kept = from_filter of_entry places at.0 at.1 in
      subst (λ (c : ℕ). IsThere entry c) (sym at.2)
      (subst (λ (e : ℕ). IsThere e at.0.column) (eqb-true at.0.entry entry kept.1) (place_exists query db over.of.database at.0 kept.0).exists)

  -- ---- the section

  -- entries of the same table share its section. The section is made from the first of these entries
  pub record IsSectionOf (entry : ℕ) (section : TableStats) : Type 0 where
    pub first : ℕ
    pub low : first < length query.from
    pub same : table_of query first ≡ table_of query entry
    pub made : section ≡ section_of_table schema query (tables_of db) accuracy (table_of query entry) first

  abbrev make : ℕ → Option TableStats
  make table = option_map (section_of_table schema query (tables_of db) accuracy table) (first_entry query table)

  made_of : (table : ℕ) (found : Option ℕ) (section : TableStats) → first_entry query table ≡ found → option_map (section_of_table schema query (tables_of db) accuracy table) found ≡ Some section
      → (first : ℕ) × (first_entry query table ≡ Some first) × (section ≡ section_of_table schema query (tables_of db) accuracy table first)
  made_of table None section is e = absurd (cc e)
  made_of table (Some first) section is e =
      let same : section_of_table schema query (tables_of db) accuracy table first ≡ section = cc in
      (first, is, sym same)

  pub section_is : (entry : ℕ) (section : TableStats) → section_of file (table_of query entry) ≡ Some section → IsSectionOf entry section
  section_is entry section found =
      let there = found_in (λ (one : TableStats). eqb one.table (table_of query entry)) (filter_map make (range_with_len 0 (length schema.tables))) section found in
      let its = from_filter_map make (range_with_len 0 (length schema.tables)) section there.0 in
      let made = made_of its.0 (first_entry query its.0) section refl its.2 in
      let table_is : its.0 ≡ table_of query entry = ap (λ (one : TableStats). one.table) (sym made.2) ∙ eqb-true section.table (table_of query entry) there.1 in
      let first = first_is query its.0 made.0 made.1 in
      record {
        first = made.0;
        low = first.0;
        same = first.1 ∙ table_is;
        made = made.2 ∙ ap (λ table. section_of_table schema query (tables_of db) accuracy table made.0) table_is;
      }

  table_in_range : (entry : ℕ) → entry < length query.from → table_of query entry < length schema.tables
  table_in_range entry entry_in_range =
      let d : Source = record { table = 0; alias = [] } in
      omega (arith, over.of.query_is.sources entry d entry_in_range, get_or-map (λ (s : Source). s.table) query.from entry d 0 entry_in_range)

  pub section_there : (entry : ℕ) → entry < length query.from → (section : TableStats) × (section_of file (table_of query entry) ≡ Some section)
  section_there entry entry_in_range =
      let table : ℕ = table_of query entry in
      let first = find_some (λ e. eqb (table_of query e) table) (range_with_len 0 (length query.from)) entry (in_range 0 (length query.from) entry (omega arith) (omega (arith, entry_in_range)))
      (eq-eqb table table refl) in
      let section : TableStats = section_of_table schema query (tables_of db) accuracy table first.0 in
      find_some (λ (one : TableStats). eqb one.table table) (filter_map make (range_with_len 0 (length schema.tables))) section
      (in_filter_map make (range_with_len 0 (length schema.tables)) table section (in_range 0 (length schema.tables) table (omega arith) (omega (arith, table_in_range entry entry_in_range)))
      (ap (option_map (section_of_table schema query (tables_of db) accuracy table)) first.1))
      (eq-eqb table table refl)

  -- ---- the pairs of the section

  module _ (entry : ℕ) (entry_in_range : entry < length query.from) (section : TableStats) (is : IsSectionOf entry section) where
    abbrev count : ℕ
    count = column_count schema (table_of query entry)

    abbrev made : ℕ → ℕ → PairStats
    made filter_column joined = its_pair is.first filter_column joined

    abbrev pairs : List PairStats
    pairs = for_each_pair made (needed_of_table query (table_of query entry)) count

    its_pairs : section.pairs ≡ pairs
    its_pairs = ap (λ (s : TableStats). s.pairs) is.made

    same_cells : cells_of db is.first ≡ cells_of db entry
    same_cells = ap (λ slot. slice_index_or db.cells slot no_cells) (over.of.database.same_slot is.first entry is.low entry_in_range is.same)

    same_pair : (filter_column joined : ℕ) → IsThere entry filter_column → IsThere entry joined → made filter_column joined ≡ its_pair entry filter_column joined
    same_pair filter_column joined has_filter has_joined =
        sym (pair_same schema query db over accuracy is.first is.low filter_column joined (subst (λ (cells : Cells). filter_column < length cells.kinds) (sym same_cells) has_filter)
        (subst (λ (cells : Cells). joined < length cells.kinds) (sym same_cells) has_joined))
        ∙ ap (λ (cells : Cells). pair_in_cells db.pool cells accuracy filter_column joined) same_cells ∙ pair_same schema query db over accuracy entry entry_in_range filter_column joined has_filter has_joined

    abbrev IsMade : PairStats → Type 0
    IsMade p = (p ≡ made p.filter p.joined) × (p.filter < count) × (p.joined < count)

    each_is_made : All IsMade pairs
    each_is_made = all_made IsMade made (needed_of_table query (table_of query entry)) count (λ filter_column joined has_filter has_joined. (refl, has_filter, has_joined))

    column_is_there : (column : ℕ) → column < count → IsThere entry column
    column_is_there column h = omega (arith, h, kinds_are schema query db over accuracy entry entry_in_range)

    pub found_is : (filter_column joined : ℕ) (p : PairStats) → pair_in section filter_column joined ≡ Some p → p ≡ its_pair entry filter_column joined
    found_is filter_column joined p found =
        let there = found_in (are_columns filter_column joined) pairs p (ap (find (are_columns filter_column joined)) (sym its_pairs) ∙ found) in
        let is_made : IsMade p = All-contains IsMade pairs p each_is_made there.0 in
        let parts = and_parts (eqb p.filter filter_column) (eqb p.joined joined) there.1 in
        let filter_is : p.filter ≡ filter_column = eqb-true p.filter filter_column parts.0 in
        let joined_is : p.joined ≡ joined = eqb-true p.joined joined parts.1 in
        is_made.0 ∙ same_pair p.filter p.joined (column_is_there p.filter is_made.1) (column_is_there p.joined is_made.2) ∙ ap (λ f. its_pair entry f p.joined) filter_is ∙ ap (its_pair entry filter_column) joined_is

    needed_there : (x : ColumnPair) → Contains (needed query entry) x → Contains (needed_of_table query (table_of query entry)) x
    needed_there x has =
        in_lists (λ e. if eqb (table_of query e) (table_of query entry) then needed query e else []) (range_with_len 0 (length query.from)) entry x
        (in_range 0 (length query.from) entry (omega arith) (omega (arith, entry_in_range))) (rw (eq-eqb (table_of query entry) (table_of query entry) refl) has)

    pub has_needed_pairs : list_all (has_pair section) (needed query entry) ≡ true
    has_needed_pairs =
        true_for_all (has_pair section) (needed query entry) (λ x has.
        let columns = pair_columns (IsThere entry) (needs_of query entry).filters (needs_of query entry).joined (filter_there entry) (joined_there entry) x has in
        let pairs_exist = kinds_are schema query db over accuracy entry entry_in_range in
        let needs : List ColumnPair = needed_of_table query (table_of query entry) in
        let of_table : list_any (is_pair x.filter x.joined) needs ≡ true =
        any_true (is_pair x.filter x.joined) needs x (needed_there x has) (both_same x.filter x.joined) in
        let joins : Contains (joined_with needs count x.filter) x.joined =
        in_filter (λ joined. list_any (is_pair x.filter joined) needs) (range_with_len 0 count) x.joined (in_range 0 count x.joined (omega arith) (omega (arith, columns.1, pairs_exist))) of_table in
        let its : Contains pairs (made x.filter x.joined) =
        in_lists (λ column. map (made column) (joined_with needs count column)) (range_with_len 0 count) x.filter (made x.filter x.joined)
        (in_range 0 count x.filter (omega arith) (omega (arith, columns.0, pairs_exist))) (in_map (made x.filter) (joined_with needs count x.filter) x.joined joins) in
        let found = find_some (are_columns x.filter x.joined) pairs (made x.filter x.joined) its (both_same x.filter x.joined) in
        ap is_some (ap (find (are_columns x.filter x.joined)) its_pairs ∙ found.1))
      where
        both_same : (a b : ℕ) → (eqb a a && eqb b b) ≡ true
        both_same a b = rw (eq-eqb a a refl, eq-eqb b b refl) refl
