-- Fields and records of a printed CSV text (RFC 4180, section 2).
use Rattle.std.specs.Prelude.{ℕ, Bool, ◌==◌, ◌||◌, if◌then◌else◌, List, [], ◌∷◌, ◌++◌, map, codes}
use Rattle.std.specs.List.{list_any, flat_map, join_with_byte}

-- whether a byte is a comma, CR, LF or a double quote
abbrev pub is_special : ℕ → Bool
is_special c = c == 44 || c == 13 || c == 10 || c == 34

-- a double quote twice, any other byte once
abbrev pub doubled_quote : ℕ → List ℕ
doubled_quote c = if c == 34 then 34 ∷ (34 ∷ []) else c ∷ []

-- the field with each double quote doubled
abbrev pub doubled : List ℕ → List ℕ
doubled field = flat_map doubled_quote field

-- the field, in double quotes if it has a comma, CR, LF or a double quote
abbrev pub field_text : List ℕ → List ℕ
field_text field = if list_any is_special field then 34 ∷ (doubled field ++ 34 ∷ []) else field

-- the text of a record's only field. An empty field is quoted, so that no record is an empty line
abbrev pub lone_field_text : List ℕ → List ℕ
lone_field_text [] = 34 ∷ (34 ∷ [])
lone_field_text (c ∷ cs) = field_text (c ∷ cs)

-- the fields with commas between them
abbrev pub fields_text : List (List ℕ) → List ℕ
fields_text (field ∷ []) = lone_field_text field
fields_text [] = []
fields_text (first ∷ second ∷ fields) = join_with_byte 44 (map field_text (first ∷ second ∷ fields))

-- the text of a record: its fields, and then CR and LF
abbrev pub record_text : List (List ℕ) → List ℕ
record_text fields = fields_text fields ++ codes "\r\n"
