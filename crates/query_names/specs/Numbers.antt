-- Number literals (SQL-92 5.3): their values, and the numbers outside the signed 64-bit range.
use Rattle.std.specs.Prelude.{ℕ, ◌^◌, ◌-◌, min, Bool, true, false, ◌&&◌, nat_lt, nat_le, if◌then◌else◌, List, [], ◌∷◌, ◌++◌, Option, Some, None, unwrap_or, ℤ, pos, neg_ℤ}
use Rattle.ll_grammars.specs.declared.lexeme.Lexeme.{Lexeme}
use Rattle.ll_grammars.specs.declared.terminal.Terminal.TheVariants as terminal
use Rattle.ll_grammars.specs.Terminals.{among}
use Rattle.sql_tokens.specs.Words.{slice, number_of}
use Rattle.query_names.specs.Names.{offset_if}

-- the number that a token of digits spells
abbrev pub number_of_token : List ℕ → Lexeme → ℕ
number_of_token text digits = number_of (slice text digits.start digits.end)

abbrev pub is_minus : Lexeme → Bool
is_minus token = among (terminal.Minus ∷ []) token.terminal

abbrev pub is_sign : Lexeme → Bool
is_sign token = among (terminal.Plus ∷ terminal.Minus ∷ []) token.terminal

abbrev pub is_negative : Option Lexeme → Bool
is_negative None = false
is_negative (Some sign) = is_minus sign

-- a number with its sign. A number outside the signed 64-bit range becomes the nearer end of the range. A query that has such a number is refused
abbrev pub signed : Bool → ℕ → ℤ
signed true n = neg_ℤ (pos (min n (2 ^ 63)))
signed false n = pos (min n (2 ^ 63 - 1))

-- the value of a number literal
unfoldable pub number_value : List ℕ → Option Lexeme → Lexeme → ℤ
number_value text sign digits = signed (is_negative sign) (number_of_token text digits)

-- whether a number is outside the range, which goes from -2^63 to 2^63 - 1
abbrev pub is_out_of_range : Bool → ℕ → Bool
is_out_of_range true n = nat_lt (2 ^ 63) n
is_out_of_range false n = nat_le (2 ^ 63) n

-- the token before a number, if it is a sign
abbrev pub sign_before : Option Lexeme → Option Lexeme
sign_before None = None
sign_before (Some token) = if is_sign token then Some token else None

abbrev pub is_number : Lexeme → Bool
is_number token = among (terminal.Zero ∷ terminal.Number ∷ []) token.terminal

abbrev pub number_offence : List ℕ → Option Lexeme → Lexeme → List ℕ
number_offence text sign token = offset_if (is_number token && is_out_of_range (is_negative sign) (number_of_token text token)) (unwrap_or sign token)

abbrev pub offences_after : List ℕ → Option Lexeme → List Lexeme → List ℕ
offences_after text before [] = []
offences_after text before (token ∷ rest) = number_offence text (sign_before before) token ++ offences_after text (Some token) rest

-- the offsets of the numbers outside the range. A number with a sign has the offset of its sign
unfoldable pub number_offences : List ℕ → List Lexeme → List ℕ
number_offences text tokens = offences_after text None tokens
