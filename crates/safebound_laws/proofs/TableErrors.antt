-- A table's bytes are never refused with NoMemory.
use Rattle.std.proofs.Common.{◌≡◌, ◌≢◌, ℕ, ◌+◌, ◌∷◌, [], List, length, Bool, true, false, not, Option, None, Some, Result, Ok, Err, subst}
use Rattle.std.specs.Prelude.{IfErr, ◌==◌, nat_lt, slice_index_or}
use Rattle.std.specs.Str.{is_utf8}
use Rattle.std.specs.Str.Lossy.{utf8_valid_len}
use Rattle.schema_types.specs.declared.types.Column.{Column}
use Rattle.schema_types.specs.declared.types.Table.{Table}
use Rattle.csv.specs.Reading.{strip_bom}
use Rattle.csv_tables.specs.Files.{header_of, after_header, rows_in_records, rows_of_file, rows_under_header}
use Rattle.csv_tables.specs.Header.{column_place, column_places}
use Rattle.csv_tables.specs.Keys.{first_repeat, or_rows, rows_with_keys}
use Rattle.csv_tables.specs.Records.{Record, records_of}
use Rattle.csv_tables.specs.Rows.{Row, row_of_record, rows_of_records, values_of_record}
use Rattle.csv_tables.specs.Steps as csv
use Rattle.csv_tables.specs.Values.{value_of_field}
use Rattle.csv_tables.specs.declared.types.TableError.{TableError}
use Rattle.csv_tables.specs.declared.types.TableError.TheVariants as error

abbrev IsNotNoMemory : TableError → Type 0
IsNotNoMemory (error.Utf8 at) = Unit {0}
IsNotNoMemory (error.Header column) = Unit {0}
IsNotNoMemory (error.Width row found) = Unit {0}
IsNotNoMemory (error.Field row column) = Unit {0}
IsNotNoMemory (error.Key row earlier) = Unit {0}
IsNotNoMemory (error.Limit found) = Unit {0}
IsNotNoMemory error.NoMemory = ⊥

abbrev NeverNoMemory : {A : Type 0} → Result A TableError → Type 0
NeverNoMemory r = IfErr r IsNotNoMemory

bind_is_never_no_memory : {A B : Type 0} (r : Result A TableError) (f : A → Result B TableError) → NeverNoMemory r → ((x : A) → NeverNoMemory (f x)) → NeverNoMemory (csv.◌>>=◌ r f)
bind_is_never_no_memory (Ok x) f first next = next x
bind_is_never_no_memory (Err e) f first next = first

refuse_if_is_never_no_memory : {A : Type 0} (test : Bool) (e : TableError) (next : Result A TableError) → IsNotNoMemory e → NeverNoMemory next → NeverNoMemory (csv.refuse_if test e next)
refuse_if_is_never_no_memory true e next here rest = here
refuse_if_is_never_no_memory false e next here rest = rest

or_refuse_is_never_no_memory : {A : Type 0} (e : TableError) (found : Option A) → IsNotNoMemory e → NeverNoMemory (csv.or_refuse e found)
or_refuse_is_never_no_memory e None h = h
or_refuse_is_never_no_memory e (Some x) h = tt

then_all_is_never_no_memory : {A : Type 0} (r : Result A TableError) (rest : Result (List A) TableError) → NeverNoMemory r → NeverNoMemory rest → NeverNoMemory (csv.then_all r rest)
then_all_is_never_no_memory (Ok x) (Ok xs) first next = tt
then_all_is_never_no_memory (Ok x) (Err e) first next = next
then_all_is_never_no_memory (Err e) rest first next = first

places_give_no_memory : (number : ℕ) (columns : List Column) (header : Record) → NeverNoMemory (column_places number columns header)
places_give_no_memory number [] header = tt
places_give_no_memory number (column ∷ columns) header =
    then_all_is_never_no_memory (csv.or_refuse (error.Header number) (column_place column.name header)) (column_places (number + 1) columns header)
    (or_refuse_is_never_no_memory (error.Header number) (column_place column.name header) tt) (places_give_no_memory (number + 1) columns header)

values_give_no_memory : (number at' : ℕ) (columns : List Column) (places : List ℕ) (fields : Record) → NeverNoMemory (values_of_record number at' columns places fields)
values_give_no_memory number at' [] places fields = tt
values_give_no_memory number at' (column ∷ columns) [] fields = tt
values_give_no_memory number at' (column ∷ columns) (place ∷ places) fields =
    then_all_is_never_no_memory (csv.or_refuse (error.Field number at') (value_of_field column.kind (slice_index_or fields place []))) (values_of_record number (at' + 1) columns places fields)
    (or_refuse_is_never_no_memory (error.Field number at') (value_of_field column.kind (slice_index_or fields place [])) tt) (values_give_no_memory number (at' + 1) columns places fields)

row_give_no_memory : (columns : List Column) (places : List ℕ) (width number : ℕ) (fields : Record) → NeverNoMemory (row_of_record columns places width number fields)
row_give_no_memory columns places width number fields =
    let width_so = refuse_if_is_never_no_memory (not (length fields == width)) (error.Width number (length fields)) (values_of_record number 0 columns places fields) tt (values_give_no_memory number 0 columns places fields) in
    refuse_if_is_never_no_memory (nat_lt 4000000 number) (error.Limit 4000001) (csv.refuse_if (not (length fields == width)) (error.Width number (length fields)) (values_of_record number 0 columns places fields)) tt width_so

rows_give_no_memory : (columns : List Column) (places : List ℕ) (width number : ℕ) (records : List Record) → NeverNoMemory (rows_of_records columns places width number records)
rows_give_no_memory columns places width number [] = tt
rows_give_no_memory columns places width number (fields ∷ records) =
    then_all_is_never_no_memory (row_of_record columns places width number fields) (rows_of_records columns places width (number + 1) records)
    (row_give_no_memory columns places width number fields) (rows_give_no_memory columns places width (number + 1) records)

option_give_no_memory : {X : Type 0} (f : Option X → Result (List Row) TableError) → NeverNoMemory (f None) → ((x : X) → NeverNoMemory (f (Some x))) → (found : Option X) → NeverNoMemory (f found)
option_give_no_memory f none some None = none
option_give_no_memory f none some (Some x) = some x

keys_give_no_memory : (keys : List (List ℕ)) (rows : List Row) → NeverNoMemory (rows_with_keys keys rows)
keys_give_no_memory [] rows = tt
keys_give_no_memory (key ∷ keys) rows =
    option_give_no_memory (λ found. or_rows rows found (rows_with_keys keys rows)) (keys_give_no_memory keys rows) (λ repeat. tt) (first_repeat key rows)

header_give_no_memory : (columns : List Column) (records : List Record) → NeverNoMemory (rows_under_header columns records)
unfolding rows_under_header
header_give_no_memory columns records =
    bind_is_never_no_memory (column_places 0 columns (header_of records)) _ (places_give_no_memory 0 columns (header_of records))
    (λ places. rows_give_no_memory columns places (length (header_of records)) 1 (after_header records))

records_give_no_memory : (table : Table) (records : List Record) → NeverNoMemory (rows_in_records table records)
unfolding rows_in_records
records_give_no_memory table records = bind_is_never_no_memory (rows_under_header table.columns records) (rows_with_keys table.keys) (header_give_no_memory table.columns records) (keys_give_no_memory table.keys)

file_give_no_memory : (table : Table) (bytes : List ℕ) → NeverNoMemory (rows_of_file table bytes)
unfolding rows_of_file
file_give_no_memory table bytes =
    refuse_if_is_never_no_memory (not (is_utf8 bytes)) (error.Utf8 (utf8_valid_len bytes)) (rows_in_records table (records_of (strip_bom bytes))) tt (records_give_no_memory table (records_of (strip_bom bytes)))

error_is_not_no_memory : {A : Type 0} (r : Result A TableError) (e : TableError) → NeverNoMemory r → r ≡ Err e → IsNotNoMemory e
error_is_not_no_memory r e h is = subst NeverNoMemory is h

pub never_out_of_memory : (table : Table) (bytes : List ℕ) → rows_of_file table bytes ≢ Err error.NoMemory
never_out_of_memory table bytes e = error_is_not_no_memory (rows_of_file table bytes) error.NoMemory (file_give_no_memory table bytes) e
