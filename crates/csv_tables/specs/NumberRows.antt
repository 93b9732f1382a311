-- Records whose fields are numbers, in the order of the columns.
use Rattle.std.specs.Prelude.{ℕ, ◌≡◌, ◌^◌, ◌<◌, List, [], ◌∷◌, drop, length, slice_index, All, IsSome, Some, ⊤}
use Rattle.plain_records.specs.Plain.{first_record}
use Rattle.schema_types.specs.declared.types.Column.{Column}
use Rattle.schema_types.specs.declared.types.Kind.TheVariants as kind
use Rattle.csv_tables.specs.Fields.{IsAfterLine}
use Rattle.csv_tables.specs.Numbers.{number_in, number_of}
use Rattle.csv_tables.specs.Records.{Record}

-- the record has `count` fields, and each field spells a number
pub record IsRecordOfNumbers (count : ℕ) (fields : Record) : Type 0 where
  pub lengths : length fields ≡ count
  pub numbers : All (λ field. IsSome (number_of field)) fields

-- the field spells the number of the cell
pub record IsNumberCell (field : List ℕ) (cell : ℕ) : Type 0 where
  pub spelled : number_of field ≡ Some (number_in cell)
  pub small : cell < 2 ^ 64

-- each field spells the number of the cell at its index
abbrev pub AreNumberCells : Record → List ℕ → Type 0
AreNumberCells [] [] = ⊤
AreNumberCells [] (cell ∷ cells) = ⊥
AreNumberCells (field ∷ fields) [] = ⊥
AreNumberCells (field ∷ fields) (cell ∷ cells) = IsNumberCell field cell × AreNumberCells fields cells

-- the record that begins at `start` has these numbers, and the next line begins at `next`
pub record ReadsNumbers (bytes : List ℕ) (start : ℕ) (cells : List ℕ) (next : ℕ) : Type 0 where
  pub numbers : AreNumberCells (first_record (drop start bytes)) cells
  pub behind : IsAfterLine bytes start next

-- the columns are of numbers. The first header field names the first column, the second field the second, and so on. The header has `width` fields
pub record AreNumbersInOrder (columns : List Column) (places : List ℕ) (width : ℕ) : Type 0 where
  pub lengths : length places ≡ width
  pub order : (at : ℕ) → at < length places → slice_index places at ≡ at
  pub kinds : All (λ (column : Column). column.kind ≡ kind.Int) columns
