-- If a statistics file keeps the rules, it still keeps them after rows were appended.
use Rattle.std.proofs.Common.{◌≡◌, ℕ, zero, suc, ◌+◌, ◌<◌, ◌≤◌, ◌==◌, false, eqb, List, [], length, map, get_or, inl, inr, refl, ap, sym, ◌∙◌, subst, arith}
use Rattle.std.specs.List.{All, AllByRecursion, AllPairs}
use Rattle.std.specs.Str.{IsUtf8}
use Rattle.std.proofs.lemmas.Bool.{cases_Bool, eqb-true, ne_eqb}
use Rattle.std.proofs.lemmas.List.{length-map}
use Rattle.std.proofs.lemmas.List.Elements.{All-map, recursion_from_All}
use Rattle.std.proofs.lemmas.Option.{get_or_from_slice_get, slice_get_within}
use Rattle.std.proofs.lemmas.Slice.Zip.{length-zip}
use Rattle.limits.specs.Profile.{most_rows}
use Rattle.csv_tables.specs.Cells.{AreCellsOf, IsColumn, rows_of_cells, value_of_cell}
use Rattle.csv_tables.specs.declared.types.Cells.{Cells}
use Rattle.column_stats.specs.Pairs.{cells_of_column, kind_of_column, rows_of_pair}
use Rattle.level_bounds.specs.Keys.{HaveDifferentCharacters}
use Rattle.relabelling_laws.proofs.Rows.{zip_of_columns}
use Rattle.schema_types.specs.declared.types.Column.{Column}
use Rattle.schema_types.specs.declared.types.Kind.TheVariants as kind
use Rattle.schema_types.specs.declared.types.Schema.{Schema}
use Rattle.schema_types.specs.declared.types.Table.{Table}
use Rattle.sql_meaning.proofs.ColumnFacts.{column_at}
use Rattle.stats_file.specs.declared.types.PairStats.{PairStats}
use Rattle.stats_file.specs.declared.types.StatsFile.{StatsFile}
use Rattle.stats_file.specs.declared.types.TableStats.{TableStats}
use Rattle.stats_file.specs.Rules.{PairsAgree, HaveSameFilterCounts, IsPair, IsSection, KeepsRules, ComesBefore}
use Rattle.stats_file_of_query.specs.Files.{no_table, table_at}
use Rattle.stats_file_of_query.specs.Pairs.{pair_in_cells}
use Rattle.stats_file_of_query.proofs.PairRules.{pairs_mapped}
use Rattle.stats_file_of_query.proofs.Rules.{agree, pair_keeps_rules}
use Rattle.appended_stats.specs.Appended.{file_after}
use Rattle.appended_stats.specs.Cells.{grown_by_cells, section_after_by_cells, pair_by_cells, section_by_cells}
use Rattle.appended_stats.specs.Conditions.{FitsRowLimit, MayAppend}
use Rattle.appended_stats.specs.Grown.{grown_pair}
use Rattle.appended_stats.proofs.Exact.{HasColumnsWhere, sections_same}
use Rattle.appended_stats.proofs.PairKept.{counts_grown, grown_kept, whole_grown}

-- ---- the pairs of a table

module _ (texts : List (List ℕ)) (differ : HaveDifferentCharacters texts) (utf8 : All IsUtf8 texts) (table : Table) (cells : Cells) (of : AreCellsOf table texts cells) (accuracy : ℕ) where
  as_many : length cells.kinds ≡ length table.columns
  as_many = ap (λ s. length s) of.kinds ∙ length-map table.columns (λ (column : Column). column.kind)

  pub has_filter : (n : ℕ) (pair : PairStats) → IsPair table n pair → pair.filter < length cells.kinds
  has_filter n pair is = omega (arith, as_many, slice_get_within table.columns pair.filter is.filter is.filter_is)

  pub has_joined : (n : ℕ) (pair : PairStats) → IsPair table n pair → pair.joined < length cells.kinds
  has_joined n pair is = omega (arith, as_many, is.joined)

  column_there : (column : ℕ) → column < length cells.kinds → IsColumn texts cells.rows (kind_of_column cells column) (cells_of_column cells column)
  column_there column low = column_at texts cells.rows cells.kinds cells.columns of.columns column kind.Int [] low

  same_lengths : (filter joined : ℕ) → filter < length cells.kinds → joined < length cells.kinds → length (cells_of_column cells filter) ≡ length (cells_of_column cells joined)
  same_lengths filter joined has_filter has_joined = (column_there filter has_filter).height ∙ sym (column_there joined has_joined).height

  row_count_is : (filter joined : ℕ) → filter < length cells.kinds → joined < length cells.kinds → length (rows_of_pair cells filter joined) ≡ cells.rows
  row_count_is filter joined has_filter has_joined =
      omega (arith, length-zip (cells_of_column cells filter) (cells_of_column cells joined), same_lengths filter joined has_filter has_joined, (column_there filter has_filter).height)

  abbrev after : ℕ → PairStats → PairStats
  after n pair = pair_by_cells texts cells accuracy n pair

  grown_after : (n : ℕ) (pair : PairStats) → after (suc n) pair ≡ grown_by_cells texts cells accuracy pair
  grown_after n pair = let e : eqb (suc n) 0 ≡ false = ne_eqb (suc n) 0 (λ same. omega (arith, same)) in rw e refl

  kept_after : (n : ℕ) (pair : PairStats) → IsPair table n pair → IsPair table (n + cells.rows) (after n pair)
  kept_after zero pair is =
      let e : cells.rows ≡ 0 + cells.rows = omega arith in
      subst (λ m. IsPair table m (pair_in_cells texts cells accuracy pair.filter pair.joined)) e
      (pair_keeps_rules texts differ utf8 table cells of accuracy pair.filter pair.joined (has_filter 0 pair is) (has_joined 0 pair is))
  kept_after (suc n) pair is =
      let many : length (rows_of_pair cells pair.filter pair.joined) ≡ cells.rows = row_count_is pair.filter pair.joined (has_filter (suc n) pair is) (has_joined (suc n) pair is) in
      subst (IsPair table (suc n + cells.rows)) (sym (grown_after n pair))
      (subst (λ m. IsPair table (suc n + m) (grown_by_cells texts cells accuracy pair)) many
      (grown_kept (value_of_cell texts (kind_of_column cells pair.filter)) accuracy (rows_of_pair cells pair.filter pair.joined) table (suc n) pair (omega arith) is))

  stays_before : (n : ℕ) (a b : PairStats) → ComesBefore a b → ComesBefore (after n a) (after n b)
  stays_before zero a b before = before
  stays_before (suc n) a b before = subst (λ p. ComesBefore p (after (suc n) b)) (sym (grown_after n a)) (subst (λ p. ComesBefore (grown_by_cells texts cells accuracy a) p) (sym (grown_after n b)) before)

  agree_grown : (n : ℕ) (a b : PairStats) → IsPair table n a → IsPair table n b → PairsAgree a b → PairsAgree (grown_by_cells texts cells accuracy a) (grown_by_cells texts cells accuracy b)
  agree_grown n a b is_a is_b agreed =
      let f_a : a.filter < length cells.kinds = has_filter n a is_a in
      let f_b : b.filter < length cells.kinds = has_filter n b is_b in
      let j_a : a.joined < length cells.kinds = has_joined n a is_a in
      let j_b : b.joined < length cells.kinds = has_joined n b is_b in record {
        joined = λ same. whole_grown accuracy (rows_of_pair cells a.filter a.joined) (rows_of_pair cells b.filter b.joined) a.whole b.whole
            ((zip_of_columns (cells_of_column cells a.filter) (cells_of_column cells a.joined) (same_lengths a.filter a.joined f_a j_a)).1
            ∙ ap (cells_of_column cells) same
            ∙ sym (zip_of_columns (cells_of_column cells b.filter) (cells_of_column cells b.joined) (same_lengths b.filter b.joined f_b j_b)).1) (agreed.joined same);
        filter = λ same. subst (λ f. HaveSameFilterCounts (grown_by_cells texts cells accuracy a) (grown_pair (value_of_cell texts (kind_of_column cells f)) accuracy (rows_of_pair cells f b.joined) b)) same
            (counts_grown (value_of_cell texts (kind_of_column cells a.filter)) accuracy (rows_of_pair cells a.filter a.joined) (rows_of_pair cells a.filter b.joined)
            ((zip_of_columns (cells_of_column cells a.filter) (cells_of_column cells a.joined) (same_lengths a.filter a.joined f_a j_a)).0
            ∙ sym (zip_of_columns (cells_of_column cells a.filter) (cells_of_column cells b.joined) (same_lengths a.filter b.joined f_a j_b)).0) a b (agreed.filter same));
      }

  agree_after : (n : ℕ) (a b : PairStats) → IsPair table n a → IsPair table n b → PairsAgree a b → PairsAgree (after n a) (after n b)
  agree_after zero a b is_a is_b agreed =
      agree texts differ utf8 table cells of accuracy a.filter a.joined b.filter b.joined (has_filter 0 a is_a) (has_joined 0 a is_a) (has_filter 0 b is_b) (has_joined 0 b is_b)
  agree_after (suc n) a b is_a is_b agreed =
      subst (λ p. PairsAgree p (after (suc n) b)) (sym (grown_after n a))
      (subst (λ p. PairsAgree (grown_by_cells texts cells accuracy a) p) (sym (grown_after n b)) (agree_grown (suc n) a b is_a is_b agreed))

  no_pair : PairStats
  no_pair = record { filter = 0; joined = 0; whole = []; frequent = []; rest = []; cuts = []; nodes = [] }

  pub pairs_kept : (n : ℕ) (pairs : List PairStats) → All (IsPair table n) pairs → All (IsPair table (n + cells.rows)) (map (after n) pairs)
  pairs_kept n pairs are = All-map (IsPair table (n + cells.rows)) (after n) pairs (λ i d low. kept_after n (get_or pairs i d) (are i d low))

  pub order_kept : (n : ℕ) (pairs : List PairStats) → AllPairs ComesBefore pairs → AllPairs ComesBefore (map (after n) pairs)
  order_kept n pairs are =
      pairs_mapped ComesBefore ComesBefore (after n) pairs no_pair are (λ i j before low stands. stays_before n (get_or pairs i no_pair) (get_or pairs j no_pair) stands)

  pub agree_kept : (n : ℕ) (pairs : List PairStats) → All (IsPair table n) pairs → AllPairs PairsAgree pairs → AllPairs PairsAgree (map (after n) pairs)
  agree_kept n pairs are agreed =
      pairs_mapped PairsAgree PairsAgree (after n) pairs no_pair agreed
      (λ i j before low one. agree_after n (get_or pairs i no_pair) (get_or pairs j no_pair) (are i no_pair (omega (arith, before, low))) (are j no_pair low) one)

-- ---- the file with all its sections

module _ (schema : Schema) (file : StatsFile) (table : ℕ) (texts : List (List ℕ)) (cells : Cells) (may : MayAppend schema file table texts cells) where
  pub its_cells : (section : TableStats) (is : IsSection schema section) → section.table ≡ table → AreCellsOf is.table texts cells
  its_cells section is its =
      subst (λ (t : Table). AreCellsOf t texts cells) (ap (table_at schema) (sym its) ∙ get_or_from_slice_get schema.tables section.table is.table no_table is.table_is) may.cells_are

  section_kept : (section : TableStats) → IsSection schema section → section.table ≡ table → section.rows + cells.rows ≤ most_rows
      → IsSection schema (section_by_cells texts cells file.accuracy section)
  section_kept section is its room =
      let of : AreCellsOf is.table texts cells = its_cells section is its in record {
        table = is.table;
        table_is = is.table_is;
        rows = room;
        pairs = pairs_kept texts may.differ may.utf8 is.table cells of file.accuracy section.rows section.pairs is.pairs;
        order = order_kept texts may.differ may.utf8 is.table cells of file.accuracy section.rows section.pairs is.order;
        agree = agree_kept texts may.differ may.utf8 is.table cells of file.accuracy section.rows section.pairs is.pairs is.agree;
      }

  abbrev grown_section : TableStats → TableStats
  grown_section section = section_after_by_cells texts cells file.accuracy table section

  one_section : (section : TableStats) → IsSection schema section → FitsRowLimit table cells.rows section → IsSection schema (grown_section section)
  one_section section is room = elim (cases_Bool (section.table == table)) [
    | inl e ↦ (let its : section.table ≡ table = eqb-true section.table table e in let kept = section_kept section is its (room its) in rw e kept)
    | inr e ↦ rw e is
  ]

  its_table : (section : TableStats) → (grown_section section).table ≡ section.table
  its_table section = elim (cases_Bool (section.table == table)) [ inl e ↦ rw e refl | inr e ↦ rw e refl ]

  no_section : TableStats
  no_section = record { table = 0; rows = 0; pairs = [] }

  abbrev made : StatsFile
  made = record { accuracy = file.accuracy; tables = map grown_section file.tables }

  made_keeps : KeepsRules schema made
  made_keeps = record {
    least = may.rules.least;
    most = may.rules.most;
    order = pairs_mapped (λ (a b : TableStats). a.table < b.table) (λ (a b : TableStats). a.table < b.table) grown_section file.tables no_section may.rules.order
        (λ i j before low below. omega (arith, below, its_table (get_or file.tables i no_section), its_table (get_or file.tables j no_section)));
    tables = All-map (IsSection schema) grown_section file.tables (λ i d low. one_section (get_or file.tables i d) (may.rules.tables i d low) (may.room i d low));
  }

  have_columns : AllByRecursion (HasColumnsWhere texts may.differ cells may.cells_are.columns file.accuracy table) file.tables
  have_columns = recursion_from_All (HasColumnsWhere texts may.differ cells may.cells_are.columns file.accuracy table) file.tables
      (λ i d low its. columns_of (get_or file.tables i d) (may.rules.tables i d low) its)
    where
      columns_of : (section : TableStats) → IsSection schema section → section.table ≡ table
          → AllByRecursion (λ (pair : PairStats). (pair.filter < length cells.kinds) × (pair.joined < length cells.kinds)) section.pairs
      columns_of section is its =
          let of : AreCellsOf is.table texts cells = its_cells section is its in
          recursion_from_All (λ (pair : PairStats). (pair.filter < length cells.kinds) × (pair.joined < length cells.kinds)) section.pairs
          (λ i d low. (
            has_filter texts may.differ may.utf8 is.table cells of file.accuracy section.rows (get_or section.pairs i d) (is.pairs i d low),
            has_joined texts may.differ may.utf8 is.table cells of file.accuracy section.rows (get_or section.pairs i d) (is.pairs i d low),
          ))

  pub file_is : made ≡ file_after file table (rows_of_cells texts cells)
  file_is = rw (sections_same texts may.differ cells may.cells_are.columns file.accuracy table file.tables have_columns) refl

  same_sections : (accuracy : ℕ) (sections : List TableStats) → accuracy ≡ file.accuracy → sections ≡ map (section_after_by_cells texts cells accuracy table) file.tables
      → sections ≡ map grown_section file.tables
  same_sections accuracy sections is are = are ∙ ap (λ (a : ℕ). map (section_after_by_cells texts cells a table) file.tables) is

  pub file_made : (accuracy : ℕ) (sections : List TableStats) → accuracy ≡ file.accuracy → sections ≡ map (section_after_by_cells texts cells accuracy table) file.tables
      → (let f : StatsFile = record { accuracy = file.accuracy; tables = sections } in f) ≡ file_after file table (rows_of_cells texts cells)
  file_made accuracy sections is are = rw (same_sections accuracy sections is are) file_is

  pub file_keeps : (accuracy : ℕ) (sections : List TableStats) → accuracy ≡ file.accuracy → sections ≡ map (section_after_by_cells texts cells accuracy table) file.tables
      → (let f : StatsFile = record { accuracy = file.accuracy; tables = sections } in KeepsRules schema f)
  file_keeps accuracy sections is are = rw (same_sections accuracy sections is are) made_keeps
