-- The rows of a table file, or the first refusal.
use Rattle.std.specs.Prelude.{ℕ, not, List, [], ◌∷◌, length, Result}
use Rattle.std.specs.Str.{is_utf8}
use Rattle.std.specs.Str.Lossy.{utf8_valid_len}
use Rattle.csv.specs.Reading.{strip_bom}
use Rattle.schema_types.specs.declared.types.Column.{Column}
use Rattle.schema_types.specs.declared.types.Table.{Table}
use Rattle.csv_tables.specs.declared.types.TableError.{TableError}
use Rattle.csv_tables.specs.declared.types.TableError.TheVariants as error
use Rattle.csv_tables.specs.Header.{column_places}
use Rattle.csv_tables.specs.Keys.{rows_with_keys}
use Rattle.csv_tables.specs.Records.{Record, records_of}
use Rattle.csv_tables.specs.Rows.{Row, rows_of_records}
use Rattle.csv_tables.specs.Steps.{◌>>=◌, refuse_if}

-- the header is the first record. The header of a file without records has no field
abbrev pub header_of : List Record → Record
header_of [] = []
header_of (header ∷ records) = header

-- the records after the header
abbrev pub after_header : List Record → List Record
after_header [] = []
after_header (header ∷ records) = records

-- the rows of a file's records, without a check of keys. The first record is the header
unfoldable pub rows_under_header : List Column → List Record → Result (List Row) TableError
rows_under_header columns records =
    column_places 0 columns (header_of records)
    >>= (λ places. rows_of_records columns places (length (header_of records)) 1 (after_header records))

-- the rows of a table, from the records of its file, with a check of keys
unfoldable pub rows_in_records : Table → List Record → Result (List Row) TableError
rows_in_records table records = rows_under_header table.columns records >>= rows_with_keys table.keys

-- the rows of a table in its file, each with its values in declared order, or the first refusal. A file is refused if its bytes aren't UTF-8, or if
-- its header has no field or several fields for a declared column. The 4,000,001st record after the header is refused. So is a record with another
-- number of fields than the header, and a field outside its column's type. Repeated values of a key are refused too. A byte order mark at the front
-- is dropped. Header fields that name no column are ignored
unfoldable pub rows_of_file : Table → List ℕ → Result (List Row) TableError
rows_of_file table bytes =
    refuse_if (not (is_utf8 bytes)) (error.Utf8 (utf8_valid_len bytes)) (rows_in_records table (records_of (strip_bom bytes)))
