-- The statistics file of a query keeps the rules of statistics files.
use Rattle.std.proofs.Common.{◌≡◌, ℕ, ◌<◌, ◌≤◌, List, [], length, get_or, Option, None, Some, option_map, inl, inr, refl, ap, sym, ◌∙◌, subst, arith}
use Rattle.std.specs.Str.{IsUtf8}
use Rattle.std.specs.List.{All, AllPairs, range_with_len}
use Rattle.std.proofs.lemmas.List.{get_or-map, length-map}
use Rattle.std.proofs.lemmas.List.Elements.{All-from_recursion}
use Rattle.std.proofs.lemmas.Option.{slice_get-get_or}
use Rattle.schema_types.specs.declared.types.Column.{Column}
use Rattle.schema_types.specs.declared.types.Kind.TheVariants as kind
use Rattle.schema_types.specs.declared.types.Schema.{Schema}
use Rattle.schema_types.specs.declared.types.Table.{Table}
use Rattle.csv_tables.specs.Cells.{AreCellsOf, IsColumn}
use Rattle.csv_tables.specs.declared.types.Cells.{Cells}
use Rattle.csv_tables.specs.declared.types.Database.{Database}
use Rattle.cond_stats.specs.Columns.{cell_le}
use Rattle.column_stats.specs.Pairs.{cells_of_column, kind_of_column, rows_of_pair}
use Rattle.level_bounds.specs.Keys.{HaveDifferentCharacters}
use Rattle.level_bounds.proofs.Lists.{from_members, from_filter_map, range_within}
use Rattle.query_types.specs.declared.types.Query.{Query}
use Rattle.relabelling_laws.proofs.Rows.{zip_of_columns}
use Rattle.sql_meaning.specs.Tables.{cells_of, tables_of}
use Rattle.sql_meaning.proofs.ColumnFacts.{column_at}
use Rattle.sql_meaning.proofs.LoopFacts.{rows_are}
use Rattle.stats_file.specs.declared.types.PairStats.{PairStats}
use Rattle.stats_file.specs.declared.types.StatsFile.{StatsFile}
use Rattle.stats_file.specs.declared.types.TableStats.{TableStats}
use Rattle.stats_file.specs.Rules.{PairsAgree, HaveSameFilterCounts, IsPair, IsSection, KeepsRules, ComesBefore}
use Rattle.stats_file_of_query.specs.declared.column_pairs.ColumnPair.{ColumnPair}
use Rattle.stats_file_of_query.specs.Needs.{needed_of_table, table_of}
use Rattle.stats_file_of_query.specs.Databases.{FitsQueryAndTexts, section_of_cells, sections_of_cells}
use Rattle.stats_file_of_query.specs.Files.{file_of_query, first_entry, for_each_pair, table_at}
use Rattle.stats_file_of_query.specs.Pairs.{datum_of_cell, pair_in_cells}
use Rattle.stats_file_of_query.proofs.Agreeing.{count_same, whole_same}
use Rattle.stats_file_of_query.proofs.Order.{made_in_order, pairs_in_order}
use Rattle.stats_file_of_query.proofs.PairRules.{is_pair}
use Rattle.stats_file_of_query.proofs.SameSections.{first_is, sections_same}
use Rattle.stats_file_of_query.proofs.Standing.{all_made}

no_column : Column
no_column = record { name = []; kind = kind.Int }

-- ---- the pairs of a table's cells

module _ (texts : List (List ℕ)) (differ : HaveDifferentCharacters texts) (utf8 : All IsUtf8 texts) (table : Table) (cells : Cells) (of : AreCellsOf table texts cells) (accuracy : ℕ) where
  column_there : (column : ℕ) → column < length cells.kinds → IsColumn texts cells.rows (kind_of_column cells column) (cells_of_column cells column)
  column_there column low = column_at texts cells.rows cells.kinds cells.columns of.columns column kind.Int [] low

  as_many : length cells.kinds ≡ length table.columns
  as_many = ap (λ s. length s) of.kinds ∙ length-map table.columns (λ column. column.kind)

  kind_is : (column : ℕ) → column < length cells.kinds → (get_or table.columns column no_column).kind ≡ kind_of_column cells column
  kind_is column low =
      sym (ap (λ s. get_or s column kind.Int) of.kinds ∙ get_or-map (λ (c : Column). c.kind) table.columns column no_column kind.Int (omega (arith, low, as_many)))

  pub pair_keeps_rules : (filter joined : ℕ) → filter < length cells.kinds → joined < length cells.kinds → IsPair table cells.rows (pair_in_cells texts cells accuracy filter joined)
  pair_keeps_rules filter joined has_filter has_joined =
      let one = column_there filter has_filter in
      let other = column_there joined has_joined in
      is_pair texts differ utf8 (kind_of_column cells filter) (cells_of_column cells filter) (cells_of_column cells joined) one.cells cells.rows one.height other.height accuracy
      table filter joined (get_or table.columns filter no_column) (slice_get-get_or table.columns filter no_column (omega (arith, has_filter, as_many)))
      (kind_is filter has_filter) (omega (arith, has_joined, as_many))

  same_lengths : (filter joined : ℕ) → filter < length cells.kinds → joined < length cells.kinds → length (cells_of_column cells filter) ≡ length (cells_of_column cells joined)
  same_lengths filter joined has_filter has_joined = (column_there filter has_filter).height ∙ sym (column_there joined has_joined).height

  same_whole : (filter joined other : ℕ) → filter < length cells.kinds → joined < length cells.kinds → other < length cells.kinds
      → (pair_in_cells texts cells accuracy filter joined).whole ≡ (pair_in_cells texts cells accuracy other joined).whole
  same_whole filter joined other has_filter has_joined has_other =
      whole_same accuracy (rows_of_pair cells filter joined) (rows_of_pair cells other joined)
      ((zip_of_columns (cells_of_column cells filter) (cells_of_column cells joined) (same_lengths filter joined has_filter has_joined)).1
      ∙ sym (zip_of_columns (cells_of_column cells other) (cells_of_column cells joined) (same_lengths other joined has_other has_joined)).1)

  same_counts : (filter joined also : ℕ) → filter < length cells.kinds → joined < length cells.kinds → also < length cells.kinds
      → HaveSameFilterCounts (pair_in_cells texts cells accuracy filter joined) (pair_in_cells texts cells accuracy filter also)
  same_counts filter joined also has_filter has_joined has_also =
      count_same (cell_le texts (kind_of_column cells filter)) (datum_of_cell texts cells filter) accuracy (rows_of_pair cells filter joined) (rows_of_pair cells filter also)
      ((zip_of_columns (cells_of_column cells filter) (cells_of_column cells joined) (same_lengths filter joined has_filter has_joined)).0
      ∙ sym (zip_of_columns (cells_of_column cells filter) (cells_of_column cells also) (same_lengths filter also has_filter has_also)).0) filter joined filter also

  pub agree : (filter joined other also : ℕ) → filter < length cells.kinds → joined < length cells.kinds → other < length cells.kinds → also < length cells.kinds
      → PairsAgree (pair_in_cells texts cells accuracy filter joined) (pair_in_cells texts cells accuracy other also)
  agree filter joined other also has_filter has_joined has_other has_also = record {
    joined = λ same. same_whole filter joined other has_filter has_joined has_other ∙ ap (λ j. (pair_in_cells texts cells accuracy other j).whole) same;
    filter = λ same. subst (λ f. HaveSameFilterCounts (pair_in_cells texts cells accuracy filter joined) (pair_in_cells texts cells accuracy f also)) same
        (same_counts filter joined also has_filter has_joined has_also);
  }

  module _ (needed : List ColumnPair) where
    abbrev made : List PairStats
    made = for_each_pair (pair_in_cells texts cells accuracy) needed (length cells.kinds)

    pub all_pairs_keep_rules : All (IsPair table cells.rows) made
    all_pairs_keep_rules = all_made (IsPair table cells.rows) (pair_in_cells texts cells accuracy) needed (length cells.kinds) pair_keeps_rules

    pub in_order : AllPairs ComesBefore made
    in_order =
        pairs_in_order (pair_in_cells texts cells accuracy) needed (length cells.kinds) ComesBefore (λ filter joined other also before. inl before)
        (λ filter joined also before. inr (refl, before))

    pub all_agree : AllPairs PairsAgree made
    all_agree i j d before low =
        all_made (λ (a : PairStats). All (PairsAgree a) made) (pair_in_cells texts cells accuracy) needed (length cells.kinds)
        (λ filter joined has_filter has_joined.
        all_made (PairsAgree (pair_in_cells texts cells accuracy filter joined)) (pair_in_cells texts cells accuracy) needed (length cells.kinds)
        (λ other also has_other has_also. agree filter joined other also has_filter has_joined has_other has_also))
        i d (omega (arith, before, low)) j d low

-- ---- the file

module _ (schema : Schema) (query : Query) (db : Database) (over : FitsQueryAndTexts schema query db) (accuracy : ℕ) where
  section_keeps_rules : (table entry : ℕ) → table < length schema.tables → entry < length query.from → table_of query entry ≡ table
      → IsSection schema (section_of_cells query db accuracy table entry)
  section_keeps_rules table entry within low is =
      let cells : Cells = cells_of db entry in
      let of : AreCellsOf (table_at schema table) db.pool cells = subst (λ t. AreCellsOf (table_at schema t) db.pool cells) is (over.of.cells entry low) in record {
        table = table_at schema table;
        table_is = slice_get-get_or schema.tables table (record { name = []; columns = []; keys = []; references = [] }) within;
        rows = omega (arith, over.of.database.rows_within_limit entry low, rows_are db entry);
        pairs = all_pairs_keep_rules db.pool over.differ over.texts (table_at schema table) cells of accuracy (needed_of_table query table);
        order = in_order db.pool over.differ over.texts (table_at schema table) cells of accuracy (needed_of_table query table);
        agree = all_agree db.pool over.differ over.texts (table_at schema table) cells of accuracy (needed_of_table query table);
      }

  abbrev make : ℕ → Option TableStats
  make table = option_map (section_of_cells query db accuracy table) (first_entry query table)

  made_of : (table : ℕ) (found : Option ℕ) (section : TableStats) → first_entry query table ≡ found → option_map (section_of_cells query db accuracy table) found ≡ Some section
      → (first : ℕ) × (first_entry query table ≡ Some first) × (section ≡ section_of_cells query db accuracy table first)
  made_of table None section is e = absurd (cc e)
  made_of table (Some first) section is e =
      let same : section_of_cells query db accuracy table first ≡ section = cc in
      (first, is, sym same)

  its_table : (table : ℕ) (section : TableStats) → make table ≡ Some section → section.table ≡ table
  its_table table section e = let made = made_of table (first_entry query table) section refl e in ap (λ (s : TableStats). s.table) made.2

  all_sections : All (IsSection schema) (sections_of_cells query db accuracy (length schema.tables))
  all_sections =
      All-from_recursion (IsSection schema) (sections_of_cells query db accuracy (length schema.tables))
      (from_members (IsSection schema) (sections_of_cells query db accuracy (length schema.tables))
      (λ section has.
      let its = from_filter_map make (range_with_len 0 (length schema.tables)) section has in
      let made = made_of its.0 (first_entry query its.0) section refl its.2 in
      let first = first_is query its.0 made.0 made.1 in
      subst (IsSection schema) (sym made.2) (section_keeps_rules its.0 made.0 (omega (arith, (range_within 0 (length schema.tables) its.0 its.1).1)) first.0 first.1)))

  pub sections_keep : 0 < accuracy → accuracy ≤ 64 → (let file : StatsFile = record { accuracy = accuracy; tables = sections_of_cells query db accuracy (length schema.tables) } in KeepsRules schema file)
  sections_keep some within_limit = record {
    least = some;
    most = within_limit;
    order = made_in_order make (λ (section : TableStats). section.table) its_table (length schema.tables);
    tables = all_sections;
  }

  pub file_is : (let file : StatsFile = record { accuracy = accuracy; tables = sections_of_cells query db accuracy (length schema.tables) } in file)
      ≡ file_of_query schema query (tables_of db) accuracy
  file_is = rw (sections_same schema query db over accuracy (length schema.tables)) refl

  pub file_keeps : 0 < accuracy → accuracy ≤ 64 → KeepsRules schema (file_of_query schema query (tables_of db) accuracy)
  file_keeps some within_limit = subst (KeepsRules schema) file_is (sections_keep some within_limit)

  -- ---- the file that the code makes is the file of the query

  pub file_made : (number : ℕ) (sections : List TableStats) → number ≡ accuracy → sections ≡ sections_of_cells query db accuracy (length schema.tables)
      → (let file : StatsFile = record { accuracy = number; tables = sections } in file) ≡ file_of_query schema query (tables_of db) accuracy
  file_made number sections is are = rw (is, are) file_is
