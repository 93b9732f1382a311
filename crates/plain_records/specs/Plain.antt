-- The records of bytes without a quotation mark.
use Rattle.std.specs.Prelude.{ℕ, ◌==◌, ◌||◌, Bool, true, false, List, [], ◌∷◌, map, if◌then◌else◌}
use Rattle.std.specs.List.{filter, list_any, slice_split}

abbrev pub is_quote : ℕ → Bool
is_quote c = c == 34

-- CR and LF each end a line
abbrev pub ends_line : ℕ → Bool
ends_line c = c == 13 || c == 10

abbrev pub is_comma : ℕ → Bool
is_comma c = c == 44

-- whether some byte is a quotation mark
abbrev pub has_quote : List ℕ → Bool
has_quote bytes = list_any is_quote bytes

abbrev pub has_bytes : List ℕ → Bool
has_bytes [] = false
has_bytes (c ∷ rest) = true

-- the lines that aren't empty. The line between CR and LF is empty and left out, so CR and LF together end one line
abbrev pub lines_of : List ℕ → List (List ℕ)
lines_of bytes = filter has_bytes (slice_split ends_line bytes)

-- commas separate the fields of a line
abbrev pub fields_of_line : List ℕ → List (List ℕ)
fields_of_line line = slice_split is_comma line

-- each line that isn't empty is a record
abbrev pub plain_records : List ℕ → List (List (List ℕ))
plain_records bytes = map fields_of_line (lines_of bytes)

-- what comes before the first byte that passes the test, and what comes after it
abbrev pub before_first : (ℕ → Bool) → List ℕ → List ℕ
before_first p [] = []
before_first p (c ∷ rest) = if p c then [] else c ∷ before_first p rest

abbrev pub after_first : (ℕ → Bool) → List ℕ → List ℕ
after_first p [] = []
after_first p (c ∷ rest) = if p c then rest else after_first p rest

-- a comma or the end of a line ends a field
abbrev pub ends_field : ℕ → Bool
ends_field c = is_comma c || ends_line c

-- the first field of bytes, the fields of their first line, and what comes after that line
abbrev pub first_field : List ℕ → List ℕ
first_field bytes = before_first ends_field bytes

abbrev pub first_record : List ℕ → List (List ℕ)
first_record bytes = fields_of_line (before_first ends_line bytes)

abbrev pub after_line : List ℕ → List ℕ
after_line bytes = after_first ends_line bytes
