-- A table that was read has at most 4,000,000 rows.
use Rattle.std.proofs.Common.{◌≡◌, ℕ, ◌+◌, ◌≤◌, Bool, true, false, nat_eq, nat_lt, List, [], ◌∷◌, length, get_or, None, Some, Result, Ok, Err, refl, ap, sym, inl, inr, not, arith}
use Rattle.std.specs.Prelude.{All}
use Rattle.std.proofs.lemmas.Bool.{cases_lt, ltb-false}
use Rattle.std.proofs.lemmas.List.{get_or_past}
use Rattle.std.specs.Str.{is_utf8}
use Rattle.std.specs.Str.Lossy.{utf8_valid_len}
use Rattle.csv.specs.Reading.{strip_bom}
use Rattle.schema_types.specs.declared.types.Column.{Column}
use Rattle.schema_types.specs.declared.types.Table.{Table}
use Rattle.csv_tables.specs.Cells.{rows_of_cells}
use Rattle.csv_tables.specs.declared.types.Cells.{Cells}
use Rattle.csv_tables.specs.declared.types.Database.{Database}
use Rattle.csv_tables.specs.declared.types.TableError.{TableError}
use Rattle.csv_tables.specs.declared.types.TableError.TheVariants as error
use Rattle.csv_tables.specs.Files.{after_header, header_of, rows_in_records, rows_of_file, rows_under_header}
use Rattle.csv_tables.specs.Header.{column_places}
use Rattle.csv_tables.specs.Keys.{first_repeat, or_rows, rows_with_keys}
use Rattle.csv_tables.specs.Records.{Record, records_of}
use Rattle.csv_tables.specs.Rows.{Row, rows_of_records, values_of_record}
use Rattle.csv_tables.specs.Steps.{◌>>=◌, refuse_if, then_all}
use Rattle.sql_meaning.specs.Tables.{cells_of, no_cells, row_counts, tables_of}
use Rattle.csv_tables.proofs.KeyFacts.{rows-length}

-- ---- records are numbered from the first, and a record with a number past the limit is refused

one_more : (number : ℕ) (past : Bool) (e : TableError) (row : Result Row TableError) (rest : Result (List Row) TableError) (rows : List Row) → past ≡ nat_lt 4000000 number
    → ((others : List Row) → number + 1 ≤ 4000001 → rest ≡ Ok others → length others + (number + 1) ≤ 4000001)
    → then_all (refuse_if past e row) rest ≡ Ok rows → length rows + number ≤ 4000001
one_more number true e row rest rows is later all = absurd cc
one_more number false e (Err wrong) rest rows is later all = absurd cc
one_more number false e (Ok row) (Err wrong) rows is later all = absurd cc
one_more number false e (Ok row) (Ok others) rows is later all =
    let low : number ≤ 4000000 = ltb-false 4000000 number (sym is) in
    let rest_few : length others + (number + 1) ≤ 4000001 = later others (omega arith) refl in
    let same : row ∷ others ≡ rows = cc in
    omega (arith, ap (λ (s : List Row). length s) same, rest_few)

records_within_row_limit : (columns : List Column) (places : List ℕ) (width number : ℕ) (records : List Record) (rows : List Row) → number ≤ 4000001
    → rows_of_records columns places width number records ≡ Ok rows → length rows + number ≤ 4000001
records_within_row_limit columns places width number [] rows low is = let none : [] ≡ rows = cc in omega (arith, ap (λ (s : List Row). length s) none)
records_within_row_limit columns places width number (fields ∷ records) rows low is =
    one_more number (nat_lt 4000000 number) (error.Limit 4000001)
    (refuse_if (not (nat_eq (length fields) width)) (error.Width number (length fields)) (values_of_record number 0 columns places fields))
    (rows_of_records columns places width (number + 1) records) rows refl
    (λ others low' rest. records_within_row_limit columns places width (number + 1) records others low' rest) is

-- ---- the steps of reading a file

pub then_ok : {A B : Type 0} (r : Result A TableError) (f : A → Result B TableError) (y : B) → (r >>= f) ≡ Ok y → (x : A) × (r ≡ Ok x) × (f x ≡ Ok y)
then_ok (Ok x) f y is = (x, refl, is)
then_ok (Err e) f y is = absurd cc

pub not_refused : {A : Type 0} (test : Bool) (e : TableError) (next : Result A TableError) (y : A) → refuse_if test e next ≡ Ok y → next ≡ Ok y
not_refused true e next y is = absurd cc
not_refused false e next y is = is

pub with_keys : (keys : List (List ℕ)) (rows found : List Row) → rows_with_keys keys rows ≡ Ok found → rows ≡ found
with_keys [] rows found is = cc
with_keys (key ∷ keys) rows found is =
    (elim (first_repeat key rows) as (λ repeat. or_rows rows repeat (rows_with_keys keys rows) ≡ Ok found → rows ≡ found) [
      | None ↦ λ all. with_keys keys rows found all
      | Some repeat ↦ λ all. absurd cc
    ]) is

under_header : (columns : List Column) (records : List Record) (rows : List Row) → rows_under_header columns records ≡ Ok rows → length rows ≤ 4000000
unfolding rows_under_header
under_header columns records rows is =
    let read = then_ok (column_places 0 columns (header_of records)) (λ places. rows_of_records columns places (length (header_of records)) 1 (after_header records)) rows is in
    omega (arith, records_within_row_limit columns read.0 (length (header_of records)) 1 (after_header records) rows (omega arith) read.2)

file_rows_within_limit : (table : Table) (bytes : List ℕ) (rows : List Row) → rows_of_file table bytes ≡ Ok rows → length rows ≤ 4000000
unfolding rows_of_file rows_in_records
file_rows_within_limit table bytes rows is =
    let records : List Record = records_of (strip_bom bytes) in
    let sound = not_refused (not (is_utf8 bytes)) (error.Utf8 (utf8_valid_len bytes)) (rows_under_header table.columns records >>= rows_with_keys table.keys) rows is in
    let read = then_ok (rows_under_header table.columns records) (rows_with_keys table.keys) rows sound in
    let same : read.0 ≡ rows = with_keys table.keys read.0 rows read.2 in
    omega (arith, ap (λ (s : List Row). length s) same, under_header table.columns records read.0 read.1)

-- ---- the limit of 4,000,000 rows for the cells of a table, and for the tables of a database

abbrev pub HasRowsWithinLimit : Cells → Type 0
HasRowsWithinLimit cells = cells.rows ≤ 4000000

pub cells_within_row_limit : (table : Table) (bytes : List ℕ) (texts : List (List ℕ)) (cells : Cells) → rows_of_file table bytes ≡ Ok (rows_of_cells texts cells) → HasRowsWithinLimit cells
cells_within_row_limit table bytes texts cells is =
    omega (arith, file_rows_within_limit table bytes (rows_of_cells texts cells) is, rows-length texts cells.kinds cells.columns cells.rows)

pub tables_within_row_limit : (db : Database) → All HasRowsWithinLimit db.cells → (entry : ℕ) → row_counts (tables_of db) entry ≤ 4000000
tables_within_row_limit db few entry =
    let cells : Cells = cells_of db entry in
    let few_cells : HasRowsWithinLimit cells = elim (cases_lt (get_or db.slots entry 0) (length db.cells)) [
      | inl low ↦ few (get_or db.slots entry 0) no_cells low
      | inr far ↦ (let none : cells ≡ no_cells = get_or_past db.cells (get_or db.slots entry 0) no_cells far in omega (arith, ap (λ (c : Cells). c.rows) none))
    ] in
    omega (arith, few_cells, rows-length db.pool cells.kinds cells.columns cells.rows)
