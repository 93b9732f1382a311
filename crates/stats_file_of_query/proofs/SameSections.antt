-- The sections that are made from cells are equal to the sections that are defined by the tables' values.
use Rattle.std.proofs.Common.{◌≡◌, ℕ, suc, ◌+◌, ◌==◌, ◌<◌, List, [], ◌∷◌, length, map, get_or, Option, None, Some, option_map, refl, ap, sym, ◌∙◌, arith}
use Rattle.std.specs.List.{Contains, filter, filter_map, flat_map, list_any, range_with_len}
use Rattle.std.proofs.lemmas.Bool.{eqb-true}
use Rattle.std.proofs.lemmas.List.{length-map}
use Rattle.csv_tables.specs.Cells.{IsColumn, value_of_cell}
use Rattle.csv_tables.specs.Values.{Value}
use Rattle.csv_tables.specs.declared.types.Cells.{Cells}
use Rattle.csv_tables.specs.declared.types.Database.{Database}
use Rattle.level_bounds.proofs.Lists.{from_filter, map_same_on_members, range_within}
use Rattle.query_types.specs.declared.types.Query.{Query}
use Rattle.schema_types.specs.declared.types.Kind.TheVariants as kind
use Rattle.schema_types.specs.declared.types.Schema.{Schema}
use Rattle.sql_meaning.specs.Tables.{cells_of, row_counts, tables_of}
use Rattle.sql_meaning.proofs.LoopFacts.{rows_are}
use Rattle.stats_file.specs.declared.types.PairStats.{PairStats}
use Rattle.stats_file.specs.declared.types.TableStats.{TableStats}
use Rattle.table_stats.specs.Columns.{column_values}
use Rattle.table_stats.proofs.DatabaseColumns.{column_is, values_are}
use Rattle.stats_file_of_query.specs.declared.column_pairs.ColumnPair.{ColumnPair}
use Rattle.stats_file_of_query.specs.ColumnPairs.{is_pair}
use Rattle.stats_file_of_query.specs.Needs.{needed_of_table, table_of}
use Rattle.stats_file_of_query.specs.Databases.{FitsQueryAndTexts, section_of_cells, sections_of_cells}
use Rattle.stats_file_of_query.specs.Files.{column_count, first_entry, for_each_pair, for_each_table, joined_with, section_of_table, table_at}
use Rattle.stats_file_of_query.specs.Pairs.{pair_in_cells, pair_in_table, pair_of_values}
use Rattle.stats_file_of_query.proofs.Finding.{found_in}
use Rattle.stats_file_of_query.proofs.SameValues.{pair_is}

-- ---- two functions that agree on each element of a list make equal lists from it

pub same_filtered : {X Y : Type 0} (f g : X → Option Y) (xs : List X) → ((x : X) → Contains xs x → f x ≡ g x) → filter_map f xs ≡ filter_map g xs
same_filtered f g [] alike = refl
same_filtered f g (x ∷ xs) alike =
    rw (alike x (0, omega arith, refl), same_filtered f g xs (λ y has. alike y (has.0 + 1, omega (arith, has.1), later x xs has.0 y ∙ has.2))) refl
  where
    later : {X : Type 0} (x : X) (xs : List X) (i : ℕ) (d : X) → get_or (x ∷ xs) (i + 1) d ≡ get_or xs i d
    later x xs i d = let e : i + 1 ≡ suc i = omega arith in rw e refl

pub same_lists : {X Y : Type 0} (f g : X → List Y) (xs : List X) → ((x : X) → Contains xs x → f x ≡ g x) → flat_map f xs ≡ flat_map g xs
same_lists f g [] alike = refl
same_lists f g (x ∷ xs) alike =
    rw (alike x (0, omega arith, refl), same_lists f g xs (λ y has. alike y (has.0 + 1, omega (arith, has.1), later x xs has.0 y ∙ has.2))) refl
  where
    later : {X : Type 0} (x : X) (xs : List X) (i : ℕ) (d : X) → get_or (x ∷ xs) (i + 1) d ≡ get_or xs i d
    later x xs i d = let e : i + 1 ≡ suc i = omega arith in rw e refl

pub same_pairs : (make other : ℕ → ℕ → PairStats) (needed : List ColumnPair) (count : ℕ) → ((filter joined : ℕ) → filter < count → joined < count → make filter joined ≡ other filter joined)
    → for_each_pair make needed count ≡ for_each_pair other needed count
same_pairs make other needed count alike =
    same_lists (λ column. map (make column) (joined_with needed count column)) (λ column. map (other column) (joined_with needed count column)) (range_with_len 0 count)
    (λ column has. map_same_on_members (make column) (other column) (joined_with needed count column)
    (λ joined has_joined. alike column joined (omega (arith, (range_within 0 count column has).1))
    (omega (arith, (range_within 0 count joined (from_filter (λ joined. list_any (is_pair column joined) needed) (range_with_len 0 count) joined has_joined).0).1))))

-- ---- a table's first entry

pub first_is : (query : Query) (table entry : ℕ) → first_entry query table ≡ Some entry → (entry < length query.from) × (table_of query entry ≡ table)
first_is query table entry is =
    let found = found_in (λ entry. table_of query entry == table) (range_with_len 0 (length query.from)) entry is in
    (omega (arith, (range_within 0 (length query.from) entry found.0).1), eqb-true (table_of query entry) table found.1)

module _ (schema : Schema) (query : Query) (db : Database) (over : FitsQueryAndTexts schema query db) (accuracy : ℕ) where
  pub slot_there : (entry : ℕ) → entry < length query.from → entry < length db.slots
  slot_there entry low = omega (arith, low, over.of.database.entries)

  -- ---- a pair of columns

  pub pair_same : (entry : ℕ) → entry < length query.from → (filter joined : ℕ) → filter < length (cells_of db entry).kinds → joined < length (cells_of db entry).kinds
      → pair_in_cells db.pool (cells_of db entry) accuracy filter joined ≡ pair_in_table (tables_of db) accuracy entry filter joined
  pair_same entry low filter joined has_filter has_joined =
      let there : entry < length db.slots = slot_there entry low in
      let cells : Cells = cells_of db entry in
      let one : IsColumn db.pool cells.rows (get_or cells.kinds filter kind.Int) (get_or cells.columns filter []) = column_is db over.of.database.tables over.differ entry there filter has_filter in
      let other : IsColumn db.pool cells.rows (get_or cells.kinds joined kind.Int) (get_or cells.columns joined []) = column_is db over.of.database.tables over.differ entry there joined has_joined in
      pair_is db.pool over.differ (get_or cells.kinds filter kind.Int) (get_or cells.kinds joined kind.Int) (get_or cells.columns filter []) (get_or cells.columns joined [])
      one.cells other.cells (one.height ∙ sym other.height) accuracy filter joined
      ∙ ap (λ (s : List Value). pair_of_values accuracy s (map (value_of_cell db.pool (get_or cells.kinds joined kind.Int)) (get_or cells.columns joined [])) filter joined)
      (values_are db over.of.database.tables over.differ entry there filter has_filter)
      ∙ ap (λ (s : List Value). pair_of_values accuracy (column_values (tables_of db) entry filter) s filter joined)
      (values_are db over.of.database.tables over.differ entry there joined has_joined)

  -- ---- a section

  pub kinds_are : (entry : ℕ) → entry < length query.from → length (cells_of db entry).kinds ≡ column_count schema (table_of query entry)
  kinds_are entry low =
      ap (λ s. length s) (over.of.cells entry low).kinds ∙ length-map (table_at schema (table_of query entry)).columns (λ column. column.kind)

  section_parts : (table rows rows' : ℕ) (pairs pairs' : List PairStats) → rows ≡ rows' → pairs ≡ pairs'
      → (let s : TableStats = record { table = table; rows = rows; pairs = pairs } in s) ≡ record { table = table; rows = rows'; pairs = pairs' }
  section_parts table rows rows' pairs pairs' h k = rw (h, k) refl

  section_same : (table entry : ℕ) → entry < length query.from → table_of query entry ≡ table
      → section_of_cells query db accuracy table entry ≡ section_of_table schema query (tables_of db) accuracy table entry
  section_same table entry low is =
      let count : ℕ = length (cells_of db entry).kinds in
      section_parts table (cells_of db entry).rows (row_counts (tables_of db) entry)
      (for_each_pair (pair_in_cells db.pool (cells_of db entry) accuracy) (needed_of_table query table) count)
      (for_each_pair (pair_in_table (tables_of db) accuracy entry) (needed_of_table query table) (column_count schema table))
      (sym (rows_are db entry))
      (same_pairs (pair_in_cells db.pool (cells_of db entry) accuracy) (pair_in_table (tables_of db) accuracy entry) (needed_of_table query table) count
      (λ filter joined has_filter has_joined. pair_same entry low filter joined has_filter has_joined)
      ∙ ap (for_each_pair (pair_in_table (tables_of db) accuracy entry) (needed_of_table query table)) (kinds_are entry low ∙ ap (column_count schema) is))

  -- ---- all sections

  of_first : (table : ℕ) (found : Option ℕ) → first_entry query table ≡ found
      → option_map (section_of_cells query db accuracy table) found ≡ option_map (section_of_table schema query (tables_of db) accuracy table) found
  of_first table None is = refl
  of_first table (Some entry) is = let first = first_is query table entry is in ap Some (section_same table entry first.0 first.1)

  pub sections_same : (count : ℕ) → sections_of_cells query db accuracy count ≡ for_each_table (section_of_table schema query (tables_of db) accuracy) query count
  sections_same count =
      same_filtered (λ table. option_map (section_of_cells query db accuracy table) (first_entry query table))
      (λ table. option_map (section_of_table schema query (tables_of db) accuracy table) (first_entry query table)) (range_with_len 0 count)
      (λ table has. of_first table (first_entry query table) refl)
