-- The fields of a record, in bytes without a quotation mark. `start`, `first`, `end` and `next` are byte offsets.
use Rattle.std.specs.Prelude.{ℕ, ◌≡◌, ◌-◌, ◌^◌, ◌<◌, ◌≤◌, List, drop, length, map, take, All, IfSome, IsUtf8, Some, true}
use Rattle.std.specs.Str.{all_ascii_digits}
use Rattle.plain_records.specs.Offsets.{FieldSoFar, IsField}
use Rattle.plain_records.specs.Plain.{after_line, first_field, first_record}
use Rattle.csv_tables.specs.declared.fields.Field.{Field}
use Rattle.csv_tables.specs.Numbers.{decimal_after, number_of}
use Rattle.csv_tables.specs.Records.{Record}

-- a field was read up to `end`. Its bytes from `first` on are digits, which spell `size`
pub record DigitsSoFar (bytes : List ℕ) (first end size : ℕ) : Type 0 where
  pub field : FieldSoFar bytes first end
  pub digits : all_ascii_digits (first_field (drop first bytes)) ≡ all_ascii_digits (first_field (drop end bytes))
  pub spelled : decimal_after 0 (first_field (drop first bytes)) ≡ decimal_after size (first_field (drop end bytes))
  pub small : size < 10 ^ (end - first)

-- one or more digits that spell this number, which is below 10^18
pub record SpellsNumberBelow10To18 (digits : List ℕ) (size : ℕ) : Type 0 where
  pub some : 0 < length digits
  pub digits_are : all_ascii_digits digits ≡ true
  pub spelled : decimal_after 0 digits ≡ size
  pub small : size < 10 ^ 18

-- the field that begins at `start`
pub record IsFieldAt (bytes : List ℕ) (start : ℕ) (field : Field) : Type 0 where
  pub begins : field.start ≡ start
  pub is_field : IsField bytes start field.end
  pub number : IfSome field.number (λ number. number_of (first_field (drop start bytes)) ≡ Some number)

-- the bytes of a field, from its start to its end
abbrev pub text_of : List ℕ → Field → List ℕ
text_of bytes field = take (field.end - field.start) (drop field.start bytes)

-- a text within the bytes, which spells the field's number if the field has one
pub record IsSpan (bytes : List ℕ) (field : Field) : Type 0 where
  pub from : field.start ≤ field.end
  pub within : field.end ≤ length bytes
  pub text : IsUtf8 (text_of bytes field)
  pub number : IfSome field.number (λ number. number_of (text_of bytes field) ≡ Some number)

-- the record of these fields
abbrev pub record_of : List ℕ → List Field → Record
record_of bytes fields = map (text_of bytes) fields

-- `next` is the offset after the line that begins at `start`
pub record IsAfterLine (bytes : List ℕ) (start next : ℕ) : Type 0 where
  pub rest : drop next bytes ≡ after_line (drop start bytes)
  pub within : next ≤ length bytes
  pub further : start < length bytes → start < next
  pub text : IsUtf8 (drop next bytes)

-- the record that begins at `start` was read into these fields, and the next line begins at `next`
pub record ReadsRecord (bytes : List ℕ) (start : ℕ) (fields : List Field) (next : ℕ) : Type 0 where
  pub fields_are : first_record (drop start bytes) ≡ record_of bytes fields
  pub spans : All (IsSpan bytes) fields
  pub behind : IsAfterLine bytes start next
