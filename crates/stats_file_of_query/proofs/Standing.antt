-- The file of a query stands for the query's tables.
use Rattle.std.proofs.Common.{◌≡◌, ℕ, ◌<◌, ◌==◌, List, [], ◌∷◌, length, map, get_or, Option, None, Some, option_map, refl, ap, sym, ◌∙◌, subst, arith}
use Rattle.std.specs.Prelude.{slice_index_or}
use Rattle.std.specs.List.{All, AllByRecursion, filter_map, flat_map, list_any, range_with_len}
use Rattle.std.proofs.lemmas.Bool.{eqb-true}
use Rattle.std.proofs.lemmas.List.Elements.{All-append, All-map}
use Rattle.csv_tables.specs.Cells.{rows_of_cells}
use Rattle.csv_tables.specs.Rows.{Row}
use Rattle.csv_tables.specs.Values.{Value}
use Rattle.csv_tables.specs.declared.types.Database.{Database}
use Rattle.level_bounds.proofs.Lists.{from_filter_map}
use Rattle.query_types.specs.declared.types.Query.{Query}
use Rattle.schema_types.specs.declared.types.Schema.{Schema}
use Rattle.sql_meaning.specs.Tables.{Tables, no_cells, tables_of}
use Rattle.stats_file.specs.declared.types.PairStats.{PairStats}
use Rattle.stats_file.specs.declared.types.TableStats.{TableStats}
use Rattle.table_stats.specs.Columns.{column_values}
use Rattle.table_stats.specs.Keys.{SeparatesValues}
use Rattle.table_stats.proofs.FewerRows.{all_in_range}
use Rattle.stats_file_of_query.specs.declared.column_pairs.ColumnPair.{ColumnPair}
use Rattle.stats_file_of_query.specs.ColumnPairs.{is_pair}
use Rattle.stats_file_of_query.specs.Needs.{needed_of_table, table_of}
use Rattle.stats_file_of_query.specs.Databases.{FitsQueryAndTexts}
use Rattle.stats_file_of_query.specs.Files.{column_count, file_of_query, first_entry, for_each_pair, joined_with, section_of_table}
use Rattle.stats_file_of_query.specs.Pairs.{pair_in_table, pair_of_values}
use Rattle.stats_file_of_query.specs.Standing.{PairStandsFor, SectionStandsFor, ShareRows, StandsFor}
use Rattle.stats_file_of_query.proofs.Finding.{found_in}
use Rattle.stats_file_of_query.proofs.SameSections.{first_is}
use Rattle.stats_file_of_query.proofs.Stands.{pair_stands}
use Rattle.stats_file_of_query.proofs.Walks.{kept_below}

-- ---- a property of all pairs that are made for needed pairs of columns

pub all_made : (P : PairStats → Type 0) (make : ℕ → ℕ → PairStats) (needed : List ColumnPair) (count : ℕ) → ((filter_column joined : ℕ) → filter_column < count → joined < count → P (make filter_column joined))
    → All P (for_each_pair make needed count)
all_made P make needed count each = of (range_with_len 0 count) (all_in_range (λ x. x < count) 0 count (λ x low. omega (arith, low)))
  where
    of : (columns : List ℕ) → AllByRecursion (λ x. x < count) columns → All P (flat_map (λ column. map (make column) (joined_with needed count column)) columns)
    of [] all = λ i d low. absurd (omega (arith, low))
    of (column ∷ columns) all =
        All-append P (map (make column) (joined_with needed count column)) (flat_map (λ column. map (make column) (joined_with needed count column)) columns)
        (All-map P (make column) (joined_with needed count column)
        (λ i d low. each column (get_or (joined_with needed count column) i d) all.0 (kept_below (λ joined. list_any (is_pair column joined) needed) count i d low)))
        (of columns all.1)

-- ---- a section stands for its table

module _ (schema : Schema) (query : Query) (tables : Tables) (share : ShareRows query tables) (accuracy : ℕ) where
  same_column : (entry other column : ℕ) → tables entry ≡ tables other → column_values tables entry column ≡ column_values tables other column
  same_column entry other column same = ap (λ (rows : List Row). column_values (λ e. rows) 0 column) same

  same_pair : (entry other filter_column joined : ℕ) → tables entry ≡ tables other
      → pair_in_table tables accuracy entry filter_column joined ≡ pair_in_table tables accuracy other filter_column joined
  same_pair entry other filter_column joined same =
      ap (λ (filters : List Value). pair_of_values accuracy filters (column_values tables entry joined) filter_column joined) (same_column entry other filter_column same)
      ∙ ap (λ (keys : List Value). pair_of_values accuracy (column_values tables other filter_column) keys filter_column joined) (same_column entry other joined same)

  section_stands : (table first entry : ℕ) → first < length query.from → entry < length query.from → table_of query first ≡ table → table_of query entry ≡ table
      → SectionStandsFor (section_of_table schema query tables accuracy table first) tables entry
  section_stands table first entry low also is is_too =
      let same : tables first ≡ tables entry = share first entry low also (is ∙ sym is_too) in record {
        rows = ap (λ (rows : List Row). length rows) same;
        pairs = all_made (λ (pair : PairStats). (key : ℕ → ℕ) → SeparatesValues tables entry pair.joined key → PairStandsFor pair tables entry key)
            (pair_in_table tables accuracy first) (needed_of_table query table) (column_count schema table)
            (λ filter_column joined has_filter has_joined key tells.
            subst (λ (pair : PairStats). PairStandsFor pair tables entry key)
            (sym (same_pair first entry filter_column joined same)) (pair_stands tables accuracy entry filter_column joined key tells));
      }

  -- ---- the file stands for the query's tables

  made_of : (table : ℕ) (found : Option ℕ) (section : TableStats) → first_entry query table ≡ found
      → option_map (section_of_table schema query tables accuracy table) found ≡ Some section
      → (first : ℕ) × (first_entry query table ≡ Some first) × (section ≡ section_of_table schema query tables accuracy table first)
  made_of table None section is e = absurd (cc e)
  made_of table (Some first) section is e =
      let same : section_of_table schema query tables accuracy table first ≡ section = cc in
      (first, is, sym same)

  pub file_stands : StandsFor query (file_of_query schema query tables accuracy) tables
  file_stands entry section low found =
      let make : ℕ → Option TableStats = λ table. option_map (section_of_table schema query tables accuracy table) (first_entry query table) in
      let there = found_in (λ (one : TableStats). one.table == table_of query entry) (filter_map make (range_with_len 0 (length schema.tables))) section found in
      let its = from_filter_map make (range_with_len 0 (length schema.tables)) section there.0 in
      let made = made_of its.0 (first_entry query its.0) section refl its.2 in
      let first = first_is query its.0 made.0 made.1 in
      let table_is : its.0 ≡ table_of query entry = ap (λ (one : TableStats). one.table) (sym made.2) ∙ eqb-true section.table (table_of query entry) there.1 in
      subst (λ (one : TableStats). SectionStandsFor one tables entry) (sym made.2)
      (section_stands its.0 made.0 entry first.0 low first.1 (sym table_is))

-- ---- entries of one table share their rows in a database

pub share_rows : (schema : Schema) (query : Query) (db : Database) → FitsQueryAndTexts schema query db → ShareRows query (tables_of db)
share_rows schema query db over entry other low also same =
    ap (λ slot. rows_of_cells db.pool (slice_index_or db.cells slot no_cells)) (over.of.database.same_slot entry other low also same)
