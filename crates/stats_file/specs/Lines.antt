-- The lines of a statistics file, each with the LF that ends it.
use Rattle.std.specs.Prelude.{ℕ, ◌+◌, ◌/◌, ◌%◌, nat_lt, if◌then◌else◌, List, [], ◌∷◌, ◌++◌, codes, decimal}
use Rattle.std.specs.Fmt.{signed_decimal}
use Rattle.std.specs.List.{flat_map}
use Rattle.piece_math.specs.declared.pieces.Piece.{Piece}
use Rattle.stats_file.specs.declared.types.Datum.{Datum}
use Rattle.stats_file.specs.declared.types.Datum.TheVariants as datum

-- the digit for n: 0 to 9, then a to f
abbrev pub hex_digit : ℕ → ℕ
hex_digit n = if nat_lt n 10 then 48 + n else 87 + n

-- a byte as two digits, the higher digit first
abbrev pub hex_byte : ℕ → List ℕ
hex_byte byte = hex_digit (byte / 16) ∷ (hex_digit (byte % 16) ∷ [])

-- x, and two digits for each byte
abbrev pub hex_text : List ℕ → List ℕ
hex_text bytes = codes "x" ++ flat_map hex_byte bytes

-- a value: a number in decimal, or a text's bytes in hexadecimal
abbrev pub datum_text : Datum → List ℕ
datum_text (datum.Int number) = signed_decimal number
datum_text (datum.Text bytes) = hex_text bytes

-- a run of equal numbers: the number, a star, and how many there are
abbrev pub run_text : Piece → List ℕ
run_text run = decimal run.value ++ (codes "*" ++ decimal run.count)

-- the runs with blanks between them, or a dash if there is no run
abbrev pub runs_text : List Piece → List ℕ
runs_text [] = codes "-"
runs_text (run ∷ runs) = run_text run ++ flat_map (λ next. codes " " ++ run_text next) runs

abbrev pub first_line : ℕ → List ℕ
first_line accuracy = codes "safebound-stats 1 " ++ (decimal accuracy ++ codes "\n")

-- a table's name, and its number of rows
abbrev pub table_line : List ℕ → ℕ → List ℕ
table_line name rows = codes "table " ++ (hex_text name ++ (codes " " ++ (decimal rows ++ codes "\n")))

-- the filter column, and then the joined column
abbrev pub pair_line : List ℕ → List ℕ → List ℕ
pair_line filter joined = codes "pair " ++ (hex_text filter ++ (codes " " ++ (hex_text joined ++ codes "\n")))

-- a word, a blank, and a list
abbrev pub list_line : List ℕ → List Piece → List ℕ
list_line word runs = word ++ (codes " " ++ (runs_text runs ++ codes "\n"))

abbrev pub frequent_line : Datum → List Piece → List ℕ
frequent_line value runs = codes "frequent " ++ (datum_text value ++ (codes " " ++ (runs_text runs ++ codes "\n")))

abbrev pub cut_line : Datum → List ℕ
cut_line value = codes "cut " ++ (datum_text value ++ codes "\n")

abbrev pub end_line : List ℕ
end_line = codes "end\n"
