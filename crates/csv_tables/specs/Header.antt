-- The places of the declared columns in a file's header. Other fields of the header are ignored.
use Rattle.std.specs.Prelude.{ℕ, ◌+◌, if◌then◌else◌, List, [], ◌∷◌, Option, None, Some, Result, Ok}
use Rattle.std.specs.Str.{str_eq_ignore_ascii_case}
use Rattle.schema_types.specs.declared.types.Column.{Column}
use Rattle.csv_tables.specs.declared.types.TableError.{TableError}
use Rattle.csv_tables.specs.declared.types.TableError.TheVariants as error
use Rattle.csv_tables.specs.Records.{Record}
use Rattle.csv_tables.specs.Steps.{or_refuse, then_all}

-- the places of the fields that equal this name, ignoring ASCII case. The first field has the place `at`
abbrev pub places_from : ℕ → List ℕ → Record → List ℕ
places_from at name [] = []
places_from at name (field ∷ fields) =
    if str_eq_ignore_ascii_case field name then at ∷ places_from (at + 1) name fields else places_from (at + 1) name fields

-- the item of a list that has exactly one item
abbrev pub single_item : {X : Type 0} → List X → Option X
single_item [] = None
single_item (x ∷ []) = Some x
single_item (x ∷ y ∷ rest) = None

-- the place of the header field that names the column, if exactly one does
abbrev pub column_place : List ℕ → Record → Option ℕ
column_place name header = single_item (places_from 0 name header)

-- the place of each column. The first column has the number `number`. The first column that isn't named by exactly one field is refused
abbrev pub column_places : ℕ → List Column → Record → Result (List ℕ) TableError
column_places number [] header = Ok []
column_places number (column ∷ columns) header =
    then_all (or_refuse (error.Header number) (column_place column.name header)) (column_places (number + 1) columns header)
