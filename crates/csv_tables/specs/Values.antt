-- The values of a table, and the value that a field spells.
use Rattle.std.specs.Prelude.{ℕ, ℤ, nat_le, Bool, false, if◌then◌else◌, List, length, Option, None, Some, option_map}
use Rattle.std.specs.Cmp.Lexicographic.{slice_cmp}
use Rattle.std.specs.Ordering.{int_cmp, int_eq, nat_cmp}
use Rattle.std.specs.Str.{bytes_eq, chars}
use Rattle.std.specs.declared.cmp.Ordering.{Ordering}
use Rattle.std.specs.declared.cmp.Ordering.TheVariants.{Less, Greater}
use Rattle.schema_types.specs.declared.types.Kind.{Kind}
use Rattle.schema_types.specs.declared.types.Kind.TheVariants as kind
use Rattle.csv_tables.specs.Numbers.{number_of}

-- a value: a signed number of 64 bits, or a text as its bytes in UTF-8
pub data Value : Type 0 where
  Int : ℤ → Value
  Text : List ℕ → Value

-- values are equal if they are equal numbers, or texts with the same bytes
abbrev pub is_same : Value → Value → Bool
is_same (Int a) (Int b) = int_eq a b
is_same (Text a) (Text b) = bytes_eq a b
is_same (Int a) (Text b) = false
is_same (Text a) (Int b) = false

-- the order of values: numbers by size, texts by the code points of their characters, without padding (SQL-92's NO PAD: a text and the same text
-- with a blank at its end differ). No query compares a number with a text; in this order a number comes before a text.
abbrev pub value_cmp : Value → Value → Ordering
value_cmp (Int a) (Int b) = int_cmp a b
value_cmp (Text a) (Text b) = slice_cmp nat_cmp (chars a) (chars b)
value_cmp (Int a) (Text b) = Less
value_cmp (Text a) (Int b) = Greater

-- the value of this kind that a field spells: a number in its range, or a text of at most `most` characters
abbrev pub value_of_field : Kind → List ℕ → Option Value
value_of_field kind.Int field = option_map Int (number_of field)
value_of_field (kind.Text most) field = if nat_le (length (chars field)) most then Some (Text field) else None
