-- The rows of a file or its refusal, from the results of the stages in which the file is read.
use Rattle.std.proofs.Common.{◌≡◌, ℕ, ◌<◌, List, [], ◌∷◌, length, Result, Ok, Err, false, refl, ap, ◌∙◌, arith}
use Rattle.std.specs.Prelude.{IsUtf8}
use Rattle.std.specs.Str.{is_utf8}
use Rattle.std.specs.Str.Lossy.{utf8_valid_len}
use Rattle.std.proofs.lemmas.Str.{is_utf8-from_IsUtf8}
use Rattle.csv.specs.Reading.{strip_bom}
use Rattle.schema_types.specs.declared.types.Column.{Column}
use Rattle.schema_types.specs.declared.types.Table.{Table}
use Rattle.csv_tables.specs.declared.types.TableError.{TableError}
use Rattle.csv_tables.specs.declared.types.TableError.TheVariants as error
use Rattle.csv_tables.specs.Cells.{rows_of_columns}
use Rattle.csv_tables.specs.Files.{rows_in_records, rows_of_file, rows_under_header}
use Rattle.csv_tables.specs.Header.{column_places}
use Rattle.csv_tables.specs.Keys.{rows_with_keys}
use Rattle.csv_tables.specs.Reads.{kinds_of, HoldsColumns}
use Rattle.csv_tables.specs.Records.{records_of, Record}
use Rattle.csv_tables.specs.Refused.{IsRefusalOrNoMemory}
use Rattle.csv_tables.specs.Rows.{rows_of_records}
use Rattle.csv_tables.specs.Steps.{◌>>=◌}

pub refuses_so : {A B : Type 0} (x : Result A TableError) (y : Result B TableError) → ((e : TableError) → x ≡ Err e → y ≡ Err e) → (e : TableError) → IsRefusalOrNoMemory x e → IsRefusalOrNoMemory y e
refuses_so x y h error.NoMemory r = tt
refuses_so x y h (error.Utf8 at) r = h _ r
refuses_so x y h (error.Header column) r = h _ r
refuses_so x y h (error.Width row found) r = h _ r
refuses_so x y h (error.Field row column) r = h _ r
refuses_so x y h (error.Key row earlier) r = h _ r
refuses_so x y h (error.Limit found) r = h _ r

pub no_records : (columns : List Column) (records : List Record) → 0 < length columns → records ≡ [] → rows_under_header columns records ≡ Err (error.Header 0)
unfolding rows_under_header
no_records [] records l e = absurd (omega (arith, l))
no_records (c ∷ cs) records l e = rw e refl

pub no_places : (columns : List Column) (records rest : List Record) (header : Record) → records ≡ header ∷ rest → (e : TableError)
    → column_places 0 columns header ≡ Err e → rows_under_header columns records ≡ Err e
unfolding rows_under_header
no_places columns records rest header is e bad = rw is (rw bad refl)

pub under_places : (columns : List Column) (records rest : List Record) (header : Record) (places : List ℕ) → records ≡ header ∷ rest
    → column_places 0 columns header ≡ Ok places → rows_under_header columns records ≡ rows_of_records columns places (length header) 1 rest
unfolding rows_under_header
under_places columns records rest header places is good = rw is (rw good refl)

pub no_text : (table : Table) (bytes : List ℕ) → is_utf8 bytes ≡ false → rows_of_file table bytes ≡ Err (error.Utf8 (utf8_valid_len bytes))
unfolding rows_of_file
no_text table bytes e = rw e refl

of_text : (table : Table) (bytes : List ℕ) → IsUtf8 bytes → rows_of_file table bytes ≡ rows_under_header table.columns (records_of (strip_bom bytes)) >>= rows_with_keys table.keys
unfolding rows_of_file rows_in_records
of_text table bytes text = rw (is_utf8-from_IsUtf8 bytes text) refl

pub no_rows : (table : Table) (bytes : List ℕ) → IsUtf8 bytes → (e : TableError) → rows_under_header table.columns (records_of (strip_bom bytes)) ≡ Err e → rows_of_file table bytes ≡ Err e
no_rows table bytes text e bad = of_text table bytes text ∙ ap (λ r. r >>= rows_with_keys table.keys) bad

pub with_keys : (table : Table) (bytes : List ℕ) (texts columns : List (List ℕ)) (rows : ℕ) → IsUtf8 bytes
    → HoldsColumns (rows_under_header table.columns (records_of (strip_bom bytes))) texts (kinds_of table.columns) columns rows
    → rows_of_file table bytes ≡ rows_with_keys table.keys (rows_of_columns texts (kinds_of table.columns) columns rows)
with_keys table bytes texts columns rows text h = of_text table bytes text ∙ ap (λ r. r >>= rows_with_keys table.keys) h.rows_are
