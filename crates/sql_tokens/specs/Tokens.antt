-- The form of each kind of token, where a token ends, and what separates tokens (SQL-92 5.1 to 5.3, in this profile).
use Rattle.std.specs.Prelude.{◌≡◌, ℕ, Bool, true, false, not, ◌&&◌, ◌||◌, ◌==◌, nat_le, if◌then◌else◌, List, [], ◌∷◌, ◌++◌, ◌⊎◌}
use Rattle.std.specs.Char.{is_ascii_alphabetic, is_ascii_alphanumeric, is_ascii_digit}
use Rattle.std.specs.List.{list_all}
use Rattle.sql_tokens.specs.declared.token.TokenKind.{TokenKind}
use Rattle.sql_tokens.specs.declared.token.TokenKind.TheVariants as kind

-- ---- characters

-- space, tab, CR and LF
abbrev pub is_blank : ℕ → Bool
is_blank b = (b == 32) || (b == 9) || (b == 13) || (b == 10)

abbrev pub is_letter : ℕ → Bool
is_letter b = is_ascii_alphabetic b

abbrev pub is_digit : ℕ → Bool
is_digit b = is_ascii_digit b

-- a letter, a digit or an underscore
abbrev pub is_word_byte : ℕ → Bool
is_word_byte b = is_ascii_alphanumeric b || (b == 95)

-- all but LF
abbrev pub is_in_line : ℕ → Bool
is_in_line b = not (b == 10)

-- no control character below U+0020
abbrev pub is_not_control : ℕ → Bool
is_not_control b = nat_le 32 b

-- = < > ( ) , . ; * + -
abbrev pub is_one_byte_symbol : ℕ → Bool
is_one_byte_symbol b = (b == 61) || (b == 60) || (b == 62) || (b == 40) || (b == 41) || (b == 44) || (b == 46) || (b == 59) || (b == 42)
    || (b == 43) || (b == 45)

-- <> <= >=
abbrev pub is_two_byte_symbol : ℕ → ℕ → Bool
is_two_byte_symbol b c = ((b == 60) && (c == 62)) || ((b == 60) && (c == 61)) || ((b == 62) && (c == 61))

-- " and '
abbrev pub is_quote : ℕ → Bool
is_quote b = (b == 34) || (b == 39)

-- a character with which a token or a separator may begin
abbrev pub begins_some : ℕ → Bool
begins_some b = is_blank b || is_letter b || is_digit b || is_quote b || is_one_byte_symbol b

-- whether the first character passes the test
abbrev pub begins_with : (ℕ → Bool) → List ℕ → Bool
begins_with test [] = false
begins_with test (b ∷ rest) = test b

-- ---- tokens

abbrev pub is_word : List ℕ → Bool
is_word [] = false
is_word (b ∷ rest) = is_letter b && list_all is_word_byte rest

abbrev pub is_number : List ℕ → Bool
is_number [] = false
is_number (b ∷ rest) = is_digit b && list_all is_digit rest

abbrev pub is_symbol : List ℕ → Bool
is_symbol [] = false
is_symbol (b ∷ []) = is_one_byte_symbol b
is_symbol (b ∷ c ∷ []) = is_two_byte_symbol b c
is_symbol (b ∷ c ∷ d ∷ rest) = false

-- the quotes among the bytes come in pairs, one directly after the other
abbrev pub are_doubled : ℕ → List ℕ → Bool
are_doubled quote [] = true
are_doubled quote (b ∷ []) = not (b == quote)
are_doubled quote (b ∷ c ∷ rest) = if b == quote then (c == quote) && are_doubled quote rest else are_doubled quote (c ∷ rest)

-- a quote, a body, and a quote, where each quote in the body is doubled
pub record IsEnclosed (quote : ℕ) (bytes body : List ℕ) : Type 0 where
  pub whole : bytes ≡ quote ∷ (body ++ quote ∷ [])
  pub doubled : are_doubled quote body ≡ true

-- a delimited identifier: one or more characters in quotes, and no character below U+0020
pub record IsIdentifier (bytes : List ℕ) : Type 0 where
  pub first : ℕ
  pub others : List ℕ
  pub enclosed : IsEnclosed 34 bytes (first ∷ others)
  pub plain : list_all is_not_control (first ∷ others) ≡ true

-- a text literal: any characters in quotes
pub record IsLiteral (bytes : List ℕ) : Type 0 where
  pub body : List ℕ
  pub enclosed : IsEnclosed 39 bytes body

-- the bytes have the form of a token of this kind
abbrev pub IsToken : TokenKind → List ℕ → Type 0
IsToken kind.Word bytes = is_word bytes ≡ true
IsToken kind.Quoted bytes = IsIdentifier bytes
IsToken kind.Number bytes = is_number bytes ≡ true
IsToken kind.Text bytes = IsLiteral bytes
IsToken kind.Symbol bytes = is_symbol bytes ≡ true

-- a symbol of one byte and the byte after it make a symbol of two bytes, or begin a comment
abbrev pub symbol_goes_on : List ℕ → List ℕ → Bool
symbol_goes_on (b ∷ []) (c ∷ rest) = is_two_byte_symbol b c || ((b == 45) && (c == 45))
symbol_goes_on bytes rest = false

-- whether the token goes on with the bytes after it. If so, it isn't complete: tokens are as long as possible, and no quote directly follows a
-- closing quote
abbrev pub goes_on : TokenKind → List ℕ → List ℕ → Bool
goes_on kind.Word bytes rest = begins_with is_word_byte rest
goes_on kind.Quoted bytes rest = begins_with (λ b. b == 34) rest
goes_on kind.Number bytes rest = begins_with is_digit rest
goes_on kind.Text bytes rest = begins_with (λ b. b == 39) rest
goes_on kind.Symbol bytes rest = symbol_goes_on bytes rest

-- ---- separators

pub record IsBlank (bytes : List ℕ) : Type 0 where
  pub blank : ℕ
  pub whole : bytes ≡ blank ∷ []
  pub is : is_blank blank ≡ true

-- two minus signs and the rest of the line, up to LF or to the text's end
pub record IsComment (bytes rest : List ℕ) : Type 0 where
  pub line : List ℕ
  pub whole : bytes ≡ 45 ∷ 45 ∷ line
  pub inside : list_all is_in_line line ≡ true
  pub ends : begins_with is_in_line rest ≡ false

abbrev pub IsSeparator : List ℕ → List ℕ → Type 0
IsSeparator bytes rest = IsBlank bytes ⊎ IsComment bytes rest
