-- For any tables that are read, there is a database with their rows.
use Rattle.std.proofs.Common.{◌≡◌, ℕ, ◌<◌, List, [], ◌∷◌, length, Ok, refl, ap, sym, ◌∙◌, subst}
use Rattle.std.specs.List.{AllByRecursion, IsDistinct}
use Rattle.std.specs.Str.{IsUtf8}
use Rattle.std.proofs.lemmas.List.Elements.{All-from_recursion, All-nil, recursion_from_All}
use Rattle.std.proofs.lemmas.Map.Made.{AllPairs-from_IsDistinct}
use Rattle.std.proofs.lemmas.Slice.Eq.{bytes_eq-Decides}
use Rattle.base_io.specs.Files.{Files}
use Rattle.csv_tables.specs.Cells.{rows_of_cells}
use Rattle.csv_tables.specs.Files.{rows_of_file}
use Rattle.csv_tables.specs.Pools.{PoolBeginsWith}
use Rattle.csv_tables.specs.Rows.{Row}
use Rattle.csv_tables.specs.declared.types.Cells.{Cells}
use Rattle.csv_tables.specs.declared.types.Database.{Database}
use Rattle.csv_tables.proofs.GrowFacts.{begins_itself, begins_then}
use Rattle.csv_tables.proofs.TableFacts.{columns-grown, rows_of_columns-grown}
use Rattle.stats_file_of_query.proofs.Read.{fits_with_texts}
use Rattle.stats_file_of_query.specs.Databases.{FitsQueryAndTexts}
use Rattle.outcomes.specs.Reads.{◌>>=◌}
use Rattle.query_types.specs.Validity.{IsQueryOf}
use Rattle.query_types.specs.declared.types.Query.{Query}
use Rattle.schema_types.specs.Validity.{IsValid}
use Rattle.schema_types.specs.declared.types.Schema.{Schema}
use Rattle.sql_meaning.specs.Tables.{tables_of}
use Rattle.table_files.specs.EntryTables.{AreCellsOfEach, entry_rows, rows_of_tables, tables_in}
use Rattle.table_files.specs.Stage.{no_table, rows_by_entry, rows_of_each, table_at, table_rows, tables_of_query, tables_stage}
use Rattle.table_files.proofs.DatabaseOfQuery.{database_is, table_numbers_within}
use Rattle.table_files.proofs.EntryLaws.{two_steps}
use Rattle.table_files.proofs.EntryRows.{db, has_cells, rows_by_place}
use Rattle.table_files.proofs.FewRows.{HasRowsWithinLimit, cells_within_row_limit}
use Rattle.table_files.proofs.SameTables.{first_place, same_tables, some_slot}
use Rattle.table_files.proofs.StagedFiles.{table_ok}
use Rattle.safebound_laws.proofs.TableCells.{IsPool, TableFound, table_found}

-- ---- the cells of tables, one table after another

record EachCellsFound (schema : Schema) (numbers : List ℕ) (rows : List (List Row)) (old : List (List ℕ)) : Type 0 where
  new : List (List ℕ)
  cells : List Cells
  pool : IsPool new
  begins : PoolBeginsWith old new
  are : AreCellsOfEach schema new numbers cells
  same : rows_of_tables new cells ≡ rows
  few : AllByRecursion HasRowsWithinLimit cells

next_cells_found : (schema : Schema) (number : ℕ) (numbers bytes : List ℕ) (rows : List Row) (others : List (List Row)) (old : List (List ℕ))
    → rows_of_file (table_at schema number) bytes ≡ Ok rows → (one : TableFound (table_at schema number) rows old) → EachCellsFound schema numbers others one.new
    → EachCellsFound schema (number ∷ numbers) (rows ∷ others) old
next_cells_found schema number numbers bytes rows others old read one rest = record {
  new = rest.new;
  cells = one.cells ∷ rest.cells;
  pool = rest.pool;
  begins = begins_then old one.new rest.new one.begins rest.begins;
  are = (
    record { kinds = one.are.kinds; columns = columns-grown one.new rest.new one.cells.rows one.cells.kinds one.cells.columns rest.begins one.are.columns },
    rest.are,
  );
  same =
      let kept : rows_of_cells rest.new one.cells ≡ rows =
      rows_of_columns-grown one.new rest.new one.cells.rows one.cells.kinds one.cells.columns rest.begins one.are.columns ∙ one.same in
      ap (λ (r : List Row). r ∷ rows_of_tables rest.new rest.cells) kept ∙ ap (λ (all : List (List Row)). rows ∷ all) rest.same;
  few = (cells_within_row_limit (table_at schema number) bytes one.new one.cells (read ∙ ap (λ (r : List Row). Ok r) (sym one.same)), rest.few);
}

module _ (schema : Schema) (schema_is_valid : IsValid schema) (files : Files) where
  each_cells_found : (numbers : List ℕ) (rows : List (List Row)) (old : List (List ℕ)) → AllByRecursion (λ number. number < length schema.tables) numbers → IsPool old
      → rows_of_each schema numbers files ≡ Ok rows → EachCellsFound schema numbers rows old
  each_cells_found [] rows old low pool e =
      let none : [] ≡ rows = cc in
      record { new = old; cells = []; pool = pool; begins = begins_itself old; are = tt; same = none; few = tt }
  each_cells_found (number ∷ numbers) rows old low pool e =
      let first = two_steps (table_rows schema number files) (λ r. rows_of_each schema numbers files >>= λ others. Ok (r ∷ others)) rows e in
      let second = two_steps (rows_of_each schema numbers files) (λ others. Ok (first.0 ∷ others)) rows first.2 in
      let whole : first.0 ∷ second.0 ≡ rows = cc (second.2) in
      let read = table_ok number (table_at schema number) files first.0 first.1 in
      let one = table_found (table_at schema number) read.0 first.0 old (schema_is_valid.tables number no_table low.0) pool read.2 in
      subst (λ (all : List (List Row)). EachCellsFound schema (number ∷ numbers) all old) whole
      (next_cells_found schema number numbers read.0 first.0 second.0 old read.2 one (each_cells_found numbers second.0 one.new low.1 one.pool second.1))

-- ---- the tables of a query

empty_pool_is_pool : IsPool []
unfolding IsDistinct
empty_pool_is_pool = record { utf8 = All-nil IsUtf8; once = tt }

pub record DatabaseFound (schema : Schema) (query : Query) (rows : List (List Row)) : Type 0 where
  pub database : Database
  pub rows_are : rows ≡ entry_rows database
  pub tables_are : tables_in (entry_rows database) ≡ tables_of database
  pub over : FitsQueryAndTexts schema query database

database_of : (schema : Schema) (query : Query) (all : List (List Row)) → IsValid schema → IsQueryOf schema query → EachCellsFound schema (tables_of_query query.from) all []
    → DatabaseFound schema query (rows_by_entry query.from all)
database_of schema query all good of each =
    let made : Database = db schema query.from each.new each.cells in
    record {
      database = made;
      rows_are = ap (rows_by_entry query.from) (sym each.same) ∙ rows_by_place schema query.from each.new each.cells;
      tables_are = same_tables made (some_slot query.from made.slots refl of.has_entries) (first_place query.from);
      over = fits_with_texts schema query made
          (record {
            schema_is = good;
            query_is = of;
            database = database_is schema query each.new each.cells of each.are (All-from_recursion HasRowsWithinLimit each.cells each.few);
            cells = has_cells schema query.from each.new each.cells each.are;
          })
          each.pool.utf8 (AllPairs-from_IsDistinct bytes_eq-Decides each.new each.pool.once);
    }

pub database_found : (schema : Schema) (query : Query) (files : Files) (rows : List (List Row)) → IsValid schema → IsQueryOf schema query
    → tables_stage schema query.from files ≡ Ok rows → DatabaseFound schema query rows
unfolding tables_stage
database_found schema query files rows good of e =
    let read = two_steps (rows_of_each schema (tables_of_query query.from) files) (λ all. Ok (rows_by_entry query.from all)) rows e in
    let by_entry : rows_by_entry query.from read.0 ≡ rows = cc (read.2) in
    subst (DatabaseFound schema query) by_entry
    (database_of schema query read.0 good of
    (each_cells_found schema good files (tables_of_query query.from) read.0 []
    (recursion_from_All (λ number. number < length schema.tables) (tables_of_query query.from) (table_numbers_within schema query of)) empty_pool_is_pool read.1))
