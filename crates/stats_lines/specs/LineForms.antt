-- The kind and the words of a line, if the grammar has this line. The line comes without its line end.
use Rattle.std.specs.Prelude.{ℕ, ◌==◌, ◌&&◌, ◌||◌, not, Bool, false, if◌then◌else◌, List, [], ◌∷◌, ◌++◌, Option, None, Some, codes}
use Rattle.std.specs.Option.{option_or}
use Rattle.stats_file.specs.Grammar.{is_numeral, are_hex_pairs}
use Rattle.stats_reading.specs.declared.line.LineKind.{LineKind}
use Rattle.stats_reading.specs.declared.line.LineKind.TheVariants as kind
use Rattle.stats_reading.specs.Kinds.{front, has_two}
use Rattle.stats_lines.specs.Searches.{when, first_split, some_split, same_numbers}

-- ---- tests of words: each says whether the grammar's predicate of this name holds

abbrev pub is_negative_numeral : List ℕ → Bool
is_negative_numeral [] = false
is_negative_numeral (c ∷ digits) = c == 45 && is_numeral digits && not (same_numbers digits (codes "0"))

abbrev pub is_hex_word : List ℕ → Bool
is_hex_word [] = false
is_hex_word (c ∷ pairs) = c == 120 && are_hex_pairs pairs

abbrev pub is_value_word : List ℕ → Bool
is_value_word word = is_numeral word || is_negative_numeral word || is_hex_word word

-- a star and a numeral
abbrev pub is_star_and_numeral : List ℕ → Bool
is_star_and_numeral [] = false
is_star_and_numeral (c ∷ count) = c == 42 && is_numeral count

abbrev pub is_run_word : List ℕ → Bool
is_run_word word = some_split (λ value rest. is_numeral value && is_star_and_numeral rest) word

-- one or more runs with single blanks between them. `run` is what was read of the first of them
unfoldable pub are_run_words : List ℕ → List ℕ → Bool
are_run_words run [] = is_run_word run
are_run_words run (c ∷ rest) = if c == 32 then is_run_word run && are_run_words [] rest else are_run_words (run ++ c ∷ []) rest

abbrev pub is_list_word : List ℕ → Bool
is_list_word word = same_numbers word (codes "-") || are_run_words [] word

abbrev pub is_empty : List ℕ → Bool
is_empty word = same_numbers word []

-- ---- lines

abbrev pub are_line_parts : LineKind → List ℕ → List ℕ → Bool
are_line_parts kind.First first second = is_numeral first && is_empty second
are_line_parts kind.Table first second = is_hex_word first && is_numeral second
are_line_parts kind.Pair first second = is_hex_word first && is_hex_word second
are_line_parts kind.Whole first second = is_list_word first && is_empty second
are_line_parts kind.Frequent first second = is_value_word first && is_list_word second
are_line_parts kind.Rest first second = is_list_word first && is_empty second
are_line_parts kind.Cut first second = is_value_word first && is_empty second
are_line_parts kind.Node first second = is_list_word first && is_empty second
are_line_parts kind.End first second = is_empty first && is_empty second

pub record Line : Type 0 where
  pub kind : LineKind
  pub first : List ℕ
  pub second : List ℕ

abbrev pub line_of : LineKind → List ℕ → List ℕ → Line
line_of kind first second = record { kind = kind; first = first; second = second }

-- the line, if the second word follows the blank at which the text behind the first word begins
abbrev pub with_second_word : LineKind → List ℕ → List ℕ → Option Line
with_second_word kind first [] = None
with_second_word kind first (c ∷ second) = when (c == 32 && are_line_parts kind first second) (Some (line_of kind first second))

-- the words of a line of this kind. They are behind its fixed first part
abbrev pub with_words : LineKind → List ℕ → Option Line
with_words kind words =
    if has_two kind then first_split (with_second_word kind) words else when (are_line_parts kind words []) (Some (line_of kind words []))

unfoldable pub line_of_kind : LineKind → List ℕ → Option Line
line_of_kind kind line = first_split (λ first words. when (same_numbers first (front kind)) (with_words kind words)) line

-- the line of these bytes. None: the grammar has no such line
unfoldable pub line_of_bytes : List ℕ → Option Line
line_of_bytes bytes =
    option_or (line_of_kind kind.First bytes) (option_or (line_of_kind kind.Table bytes) (option_or (line_of_kind kind.Pair bytes)
    (option_or (line_of_kind kind.Whole bytes) (option_or (line_of_kind kind.Frequent bytes) (option_or (line_of_kind kind.Rest bytes)
    (option_or (line_of_kind kind.Cut bytes) (option_or (line_of_kind kind.Node bytes) (line_of_kind kind.End bytes))))))))
