-- The rows of a table are made from its file's bytes, step by step.
use Rattle.std.proofs.Common.{◌≡◌, ℕ, List, Result, Ok, Err, ap, sym, ◌∙◌, subst}
use Rattle.base_io.specs.Files.{Files}
use Rattle.csv_tables.specs.Files.{rows_of_file}
use Rattle.csv_tables.specs.Refused.{IsRefusalOrNoMemory}
use Rattle.csv_tables.specs.Rows.{Row}
use Rattle.csv_tables.specs.declared.types.TableError.{TableError}
use Rattle.csv_tables.specs.declared.types.TableError.TheVariants as table
use Rattle.schema_types.specs.declared.types.Table.{Table}
use Rattle.base_io.specs.Devices.{Reading}
use Rattle.outcomes.specs.Errors.{table_failure, table_refusal}
use Rattle.outcomes.specs.Reads.{AtFile, Reads, StopsBy, with_refusal}
use Rattle.outcomes.specs.declared.failure.Failure.{Failure}
use Rattle.outcomes.specs.declared.names.FileId.{FileId}
use Rattle.outcomes.specs.declared.names.FileId.TheVariants as file
use Rattle.outcomes.proofs.ReadFacts.{then_gives, then_stops, then_fails}
use Rattle.table_files.specs.FileNames.{file_name}
use Rattle.table_files.specs.TableFile.{file_rows, read, rows_in, rows_of_bytes}

table_stops : (number : ℕ) (answer : Result (List Row) TableError) (e : TableError) → IsRefusalOrNoMemory answer e → StopsBy (with_refusal (table_refusal number) answer) (table_failure number e)
table_stops number answer table.NoMemory h = tt
table_stops number answer (table.Utf8 at) h = (ap (with_refusal (table_refusal number)) h, (λ file e. cc), (λ e. cc))
table_stops number answer (table.Header column) h = (ap (with_refusal (table_refusal number)) h, (λ file e. cc), (λ e. cc))
table_stops number answer (table.Width row found) h = (ap (with_refusal (table_refusal number)) h, (λ file e. cc), (λ e. cc))
table_stops number answer (table.Field row column) h = (ap (with_refusal (table_refusal number)) h, (λ file e. cc), (λ e. cc))
table_stops number answer (table.Key row earlier) h = (ap (with_refusal (table_refusal number)) h, (λ file e. cc), (λ e. cc))
table_stops number answer (table.Limit found) h = (ap (with_refusal (table_refusal number)) h, (λ file e. cc), (λ e. cc))

abbrev AtTable : ℕ → Files → FileId → Type 0
AtTable number = AtFile (file.Table number)

module _ {store : Reading} (number : ℕ) (t : Table) (name : List ℕ) where
  pub rows_stop : (e : Failure) → Reads store (read (file.Table number) 67108864 name) (AtTable number) (Err e) → Reads store (rows_in number t name) (AtTable number) (Err e)
  rows_stop e h =
      then_stops (read (file.Table number) 67108864 name) (λ bytes files. rows_of_bytes number t bytes) store (AtTable number) (AtTable number) e (λ files id at. at) h

  pub rows_read : (bytes slice : List ℕ) (rows : List Row) → slice ≡ bytes → rows_of_file t slice ≡ Ok rows
      → Reads store (read (file.Table number) 67108864 name) (AtTable number) (Ok bytes) → Reads store (rows_in number t name) (AtTable number) (Ok rows)
  rows_read bytes slice rows same answer h =
      then_gives store (read (file.Table number) 67108864 name) (rows_of_bytes number t) (AtTable number) (AtTable number) bytes rows
      (ap (rows_of_bytes number t) (sym same) ∙ ap (with_refusal (table_refusal number)) answer) h

  pub rows_refused : (bytes slice : List ℕ) (error : TableError) → slice ≡ bytes → IsRefusalOrNoMemory (rows_of_file t slice) error
      → Reads store (read (file.Table number) 67108864 name) (AtTable number) (Ok bytes) → Reads store (rows_in number t name) (AtTable number) (Err (table_failure number error))
  rows_refused bytes slice error same refuses h =
      then_fails store (read (file.Table number) 67108864 name) (rows_of_bytes number t) (AtTable number) (AtTable number) bytes (table_failure number error)
      (subst (λ (text : List ℕ). StopsBy (rows_of_bytes number t text) (table_failure number error)) same (table_stops number (rows_of_file t slice) error refuses)) h

  pub own_rows : {answer : Result (List Row) Failure} → name ≡ file_name t → Reads store (rows_in number t name) (AtTable number) answer → Reads store (file_rows number t) (AtTable number) answer
  unfolding file_rows
  own_rows {answer} named h = subst (λ (n : List ℕ). Reads store (rows_in number t n) (AtTable number) answer) named h
