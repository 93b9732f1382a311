-- The result of reading a query's tables follows from the reading of each table.
use Rattle.std.proofs.Common.{◌≡◌, ℕ, List, map, Ok, Err, ap, sym, ◌∙◌, subst}
use Rattle.std.specs.Prelude.{All}
use Rattle.base_io.specs.Files.{Files}
use Rattle.schema_types.specs.declared.types.Schema.{Schema}
use Rattle.csv_tables.specs.Rows.{Row}
use Rattle.csv_tables.specs.declared.types.Cells.{Cells}
use Rattle.csv_tables.specs.declared.types.Database.{Database}
use Rattle.query_types.specs.Validity.{IsQueryOf}
use Rattle.query_types.specs.declared.types.Query.{Query}
use Rattle.query_types.specs.declared.types.Source.{Source}
use Rattle.sql_meaning.specs.Databases.{IsDatabaseOf}
use Rattle.sql_meaning.specs.Tables.{tables_of}
use Rattle.base_io.specs.Devices.{Reading}
use Rattle.outcomes.specs.Reads.{Reads}
use Rattle.outcomes.specs.declared.failure.Failure.{Failure}
use Rattle.outcomes.specs.declared.names.FileId.{FileId}
use Rattle.outcomes.proofs.ReadFacts.{then_gives, then_stops}
use Rattle.table_files.specs.EntryTables.{AreCellsOfEach, CanComeFromFiles, EachCanComeFromFile, HasCells, entry_rows, rows_of_tables}
use Rattle.table_files.specs.Stage.{IsReached, numbers_of, index_of, rows_by_entry, rows_of_each, tables_of_query, tables_stage}
use Rattle.table_files.proofs.FewRows.{HasRowsWithinLimit}
use Rattle.table_files.proofs.DatabaseOfQuery.{database_is}
use Rattle.table_files.proofs.EntryRows.{db, has_cells, has_files, rows_by_place}

abbrev pub database_of : List (List ℕ) → List Cells → List ℕ → Database
database_of texts cells slots = record { pool = texts; cells = cells; slots = slots }

module _ (schema : Schema) (from : List Source) where
  abbrev Reached : Files → FileId → Type 0
  Reached = IsReached schema (tables_of_query from)

  pub stage_stops : (store : Reading) (numbers : List ℕ) (e : Failure) → numbers ≡ tables_of_query from → Reads store (rows_of_each schema numbers) (IsReached schema numbers) (Err e)
      → Reads store (tables_stage schema from) Reached (Err e)
  unfolding tables_stage
  stage_stops store numbers e named h =
      then_stops (rows_of_each schema (tables_of_query from)) (λ rows files. Ok (rows_by_entry from rows)) store Reached Reached e (λ files id at. at)
      (subst (λ (ns : List ℕ). Reads store (rows_of_each schema ns) (IsReached schema ns) (Err e)) named h)

  module _ (texts : List (List ℕ)) (cells : List Cells) (slots numbers : List ℕ) (named : numbers ≡ tables_of_query from) (placed : slots ≡ map (index_of numbers) (numbers_of from)) where
    slots_are : slots ≡ map (index_of (tables_of_query from)) (numbers_of from)
    slots_are = placed ∙ ap (λ (ns : List ℕ). map (index_of ns) (numbers_of from)) named

    pub made_is : db schema from texts cells ≡ database_of texts cells slots
    made_is = ap (database_of texts cells) (sym slots_are)

    pub stage_read : (store : Reading) → Reads store (rows_of_each schema numbers) (IsReached schema numbers) (Ok (rows_of_tables texts cells))
        → Reads store (tables_stage schema from) Reached (Ok (entry_rows (database_of texts cells slots)))
    unfolding tables_stage
    stage_read store h =
        then_gives store (rows_of_each schema (tables_of_query from)) (λ rows. Ok (rows_by_entry from rows)) Reached Reached (rows_of_tables texts cells) (entry_rows (database_of texts cells slots))
        (ap (λ (rows : List (List Row)). Ok rows) (rows_by_place schema from texts cells ∙ ap entry_rows made_is))
        (subst (λ (ns : List ℕ). Reads store (rows_of_each schema ns) (IsReached schema ns) (Ok (rows_of_tables texts cells))) named h)

    pub found_cells : AreCellsOfEach schema texts numbers cells → HasCells schema from (database_of texts cells slots)
    found_cells are = subst (HasCells schema from) made_is
        (has_cells schema from texts cells (subst (λ (ns : List ℕ). AreCellsOfEach schema texts ns cells) named are))

    pub found_files : EachCanComeFromFile schema numbers (rows_of_tables texts cells) → CanComeFromFiles schema from (tables_of (database_of texts cells slots))
    found_files are = subst (λ (d : Database). CanComeFromFiles schema from (tables_of d)) made_is
        (has_files schema from texts cells (subst (λ (ns : List ℕ). EachCanComeFromFile schema ns (rows_of_tables texts cells)) named are))

pub found_database : (schema : Schema) (query : Query) (texts : List (List ℕ)) (cells : List Cells) (slots numbers : List ℕ) → numbers ≡ tables_of_query query.from
    → slots ≡ map (index_of numbers) (numbers_of query.from) → IsQueryOf schema query → AreCellsOfEach schema texts numbers cells → All HasRowsWithinLimit cells → IsDatabaseOf query (database_of texts cells slots)
found_database schema query texts cells slots numbers named placed is_of are few =
    subst (IsDatabaseOf query) (made_is schema query.from texts cells slots numbers named placed)
    (database_is schema query texts cells is_of (subst (λ (ns : List ℕ). AreCellsOfEach schema texts ns cells) named are) few)
