-- The number that a field spells, and the cell that holds it.
use Rattle.std.specs.Prelude.{ℕ, ℤ, pos, neg_ℤ, ◌+◌, ◌-◌, ◌*◌, ◌^◌, ◌==◌, ◌&&◌, ◌||◌, nat_le, Bool, true, false, if◌then◌else◌, List, [], ◌∷◌, Option, None, Some, option_map}
use Rattle.std.specs.Str.{all_ascii_digits}
use Rattle.std.specs.Int.{w64, cast_unsigned, cast_signed}

-- the field begins with a minus sign
abbrev pub begins_with_minus : List ℕ → Bool
begins_with_minus [] = false
begins_with_minus (c ∷ cs) = c == 45

-- the field without the + or - at its front, if it has one
abbrev pub without_sign : List ℕ → List ℕ
without_sign [] = []
without_sign (c ∷ cs) = if c == 45 || c == 43 then cs else c ∷ cs

-- one or more ASCII digits
abbrev pub is_numeral : List ℕ → Bool
is_numeral [] = false
is_numeral (c ∷ cs) = all_ascii_digits (c ∷ cs)

-- the decimal number whose digits are the digits of n and then the given digits
abbrev pub decimal_after : ℕ → List ℕ → ℕ
decimal_after n [] = n
decimal_after n (c ∷ cs) = decimal_after (n * 10 + (c - 48)) cs

-- the number that these bytes spell, if they are digits and the number is at most `most`
abbrev pub magnitude_of : ℕ → List ℕ → Option ℕ
magnitude_of most digits =
    if is_numeral digits && nat_le (decimal_after 0 digits) most then Some (decimal_after 0 digits) else None

-- the greatest magnitude of a signed number of 64 bits: `true` for numbers below 0, `false` for other numbers
abbrev pub greatest_magnitude : Bool → ℕ
greatest_magnitude true = 2 ^ 63
greatest_magnitude false = 2 ^ 63 - 1

-- the number of this magnitude, negated if `true`
abbrev pub signed : Bool → ℕ → ℤ
signed true size = neg_ℤ (pos size)
signed false size = pos size

-- the number that a field spells: an optional sign, then digits, in the signed range of 64 bits
abbrev pub number_of : List ℕ → Option ℤ
number_of field = option_map (signed (begins_with_minus field)) (magnitude_of (greatest_magnitude (begins_with_minus field)) (without_sign field))

-- the cell of a number: its 64 bits in two's complement
abbrev pub bits_of : ℤ → ℕ
bits_of number = cast_unsigned w64 number

-- the number of a cell
abbrev pub number_in : ℕ → ℤ
number_in cell = cast_signed w64 cell
