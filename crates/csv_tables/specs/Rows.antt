-- The rows of a file's records.
use Rattle.std.specs.Prelude.{ℕ, ◌+◌, ◌==◌, not, nat_lt, List, [], ◌∷◌, length, slice_index_or, Result, Ok}
use Rattle.limits.specs.Profile.{most_rows}
use Rattle.schema_types.specs.declared.types.Column.{Column}
use Rattle.csv_tables.specs.declared.types.TableError.{TableError}
use Rattle.csv_tables.specs.declared.types.TableError.TheVariants as error
use Rattle.csv_tables.specs.Records.{Record}
use Rattle.csv_tables.specs.Steps.{or_refuse, refuse_if, then_all}
use Rattle.csv_tables.specs.Values.{Value, value_of_field}

-- a row: its values in the order of the declared columns
abbrev pub Row : Type 0
Row = List Value

-- the values of record `number` in these columns, read from its fields at these places. The first column has the number `at`. The first field that
-- spells no value of its column is refused
abbrev pub values_of_record : ℕ → ℕ → List Column → List ℕ → Record → Result Row TableError
values_of_record number at [] places fields = Ok []
values_of_record number at (column ∷ columns) [] fields = Ok []
values_of_record number at (column ∷ columns) (place ∷ places) fields =
    then_all (or_refuse (error.Field number at) (value_of_field column.kind (slice_index_or fields place [])))
    (values_of_record number (at + 1) columns places fields)

-- the row of record `number`. A record is refused if its number is above 4,000,000, or if it doesn't have the header's number of fields, `width`
abbrev pub row_of_record : List Column → List ℕ → ℕ → ℕ → Record → Result Row TableError
row_of_record columns places width number fields =
    refuse_if (nat_lt most_rows number) (error.Limit (most_rows + 1))
    (refuse_if (not (length fields == width)) (error.Width number (length fields))
    (values_of_record number 0 columns places fields))

-- the rows of records. The first record has the number `number`
abbrev pub rows_of_records : List Column → List ℕ → ℕ → ℕ → List Record → Result (List Row) TableError
rows_of_records columns places width number [] = Ok []
rows_of_records columns places width number (fields ∷ records) =
    then_all (row_of_record columns places width number fields) (rows_of_records columns places width (number + 1) records)
