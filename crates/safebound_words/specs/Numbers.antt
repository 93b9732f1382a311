-- Numbers on the command line: one or more ASCII digits. Zeros at the front change nothing.
use Rattle.std.specs.Prelude.{ℕ, ◌+◌, ◌-◌, ◌*◌, ◌^◌, ◌&&◌, Bool, nat_lt, nat_le, if◌then◌else◌, List, [], ◌∷◌, length, Option, Some, None}
use Rattle.std.specs.Char.{is_ascii_digit}
use Rattle.std.specs.List.{list_all}

-- the number that these digits spell in base ten
unfoldable pub number_of : List ℕ → ℕ
number_of [] = 0
number_of (digit ∷ rest) = (digit - 48) * 10 ^ length rest + number_of rest

-- the word has at least one character, and all its characters are digits
abbrev pub is_number : List ℕ → Bool
is_number word = list_all is_ascii_digit word && nat_lt 0 (length word)

-- the number that a word spells, if it is from `least` to `most`
abbrev pub number_within : ℕ → ℕ → List ℕ → Option ℕ
number_within least most word =
    if (is_number word && nat_le least (number_of word) && nat_le (number_of word) most) then Some (number_of word) else None
