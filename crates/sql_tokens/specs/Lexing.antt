-- The tokens of a text, and the first error of a text that can't be split into tokens. In names an error is an `offence`.
use Rattle.std.specs.Prelude.{◌≡◌, ℕ, ◌+◌, ◌<◌, ◌≤◌, true, false, ◌&&◌, ◌==◌, if◌then◌else◌, List, [], ◌∷◌, ◌++◌, length, drop, ⊤, ◌⊎◌}
use Rattle.std.specs.List.{list_all}
use Rattle.std.specs.Str.{IsUtf8}
use Rattle.std.specs.Str.Lossy.{utf8_valid_len}
use Rattle.sql_tokens.specs.declared.token.Token.{Token}
use Rattle.sql_tokens.specs.declared.token.TokenKind.{TokenKind}
use Rattle.sql_tokens.specs.declared.token.LexError.{LexError}
use Rattle.sql_tokens.specs.declared.token.LexError.TheVariants as error
use Rattle.sql_tokens.specs.Words.{slice}
use Rattle.sql_tokens.specs.Tokens.{is_not_control, is_quote, begins_some, begins_with, are_doubled, IsToken, goes_on, IsSeparator}

-- separators and `tokens` fill the bytes from `at` to `to`. What remains of the text is `text` at byte `at`, and `last` at byte `to`
pub data Leads : ℕ → List ℕ → List Token → ℕ → List ℕ → Type 0 where
  stay : (at : ℕ) (text : List ℕ) → Leads at text [] at text
  over_separator : (at : ℕ) (text bytes rest : List ℕ) (tokens : List Token) (to : ℕ) (last : List ℕ)
      → text ≡ bytes ++ rest → IsSeparator bytes rest
      → Leads (at + length bytes) rest tokens to last → Leads at text tokens to last
  over_token : (at : ℕ) (text bytes rest : List ℕ) (kind : TokenKind) (tokens : List Token) (to : ℕ) (last : List ℕ)
      → text ≡ bytes ++ rest → IsToken kind bytes → goes_on kind bytes rest ≡ false
      → Leads (at + length bytes) rest tokens to last
      → Leads at text (record { kind = kind; start = at; end = at + length bytes } ∷ tokens) to last

-- ---- errors

-- after the opening quote come a body, the closing quote, and then `more`
pub record Closes (quote : ℕ) (rest body more : List ℕ) : Type 0 where
  pub whole : rest ≡ body ++ quote ∷ more
  pub doubled : are_doubled quote body ≡ true
  pub ends : begins_with (λ b. b == quote) more ≡ false

-- a character that begins no token
pub record BeginsNone (text : List ℕ) (offset : ℕ) : Type 0 where
  pub first : ℕ
  pub rest : List ℕ
  pub whole : text ≡ first ∷ rest
  pub none : begins_some first ≡ false
  pub here : offset ≡ 0

-- a quote that is never closed
pub record IsUnclosed (text : List ℕ) (offset : ℕ) : Type 0 where
  pub quote : ℕ
  pub rest : List ℕ
  pub whole : text ≡ quote ∷ rest
  pub is : is_quote quote ≡ true
  pub never : (body more : List ℕ) → Closes quote rest body more → ⊥
  pub here : offset ≡ 0

-- a delimited identifier of no characters
pub record IsEmptyName (text : List ℕ) (offset : ℕ) : Type 0 where
  pub more : List ℕ
  pub whole : text ≡ 34 ∷ 34 ∷ more
  pub ends : begins_with (λ b. b == 34) more ≡ false
  pub here : offset ≡ 0

-- the first character below U+0020 within a closed delimited identifier
pub record HasControlByte (text : List ℕ) (offset : ℕ) : Type 0 where
  pub front : List ℕ
  pub control : ℕ
  pub others : List ℕ
  pub rest : List ℕ
  pub more : List ℕ
  pub whole : text ≡ 34 ∷ rest
  pub closes : Closes 34 rest (front ++ control ∷ others) more
  pub plain : list_all is_not_control front ≡ true
  pub is : is_not_control control ≡ false
  pub here : offset ≡ 1 + length front

-- the text's first piece has an error, after `offset` bytes
abbrev pub IsOffence : List ℕ → ℕ → Type 0
IsOffence text offset = BeginsNone text offset ⊎ (IsUnclosed text offset ⊎ (IsEmptyName text offset ⊎ HasControlByte text offset))

-- separators and tokens lead to an error, which is at byte `at`
pub record IsOffenceAt (start : ℕ) (text : List ℕ) (at : ℕ) : Type 0 where
  pub tokens : List Token
  pub to : ℕ
  pub rest : List ℕ
  pub offset : ℕ
  pub leads : Leads start text tokens to rest
  pub offence : IsOffence rest offset
  pub here : at ≡ to + offset

-- ---- complete texts

-- the length of the byte order mark at the very start
abbrev pub byte_order_mark_len : List ℕ → ℕ
byte_order_mark_len (b ∷ c ∷ d ∷ rest) = if (b == 239) && ((c == 187) && (d == 191)) then 3 else 0
byte_order_mark_len text = 0

-- these are the tokens of the text
pub record IsLexed (text : List ℕ) (tokens : List Token) : Type 0 where
  pub utf8 : IsUtf8 text
  pub leads : Leads (byte_order_mark_len text) (drop (byte_order_mark_len text) text) tokens (length text) []

-- the text isn't UTF-8, and its first bad sequence begins at `at`
pub record IsBadUtf8 (text : List ℕ) (at : ℕ) : Type 0 where
  pub bad : IsUtf8 text → ⊥
  pub here : at ≡ utf8_valid_len text

pub record IsBadToken (text : List ℕ) (at : ℕ) : Type 0 where
  pub utf8 : IsUtf8 text
  pub offence : IsOffenceAt (byte_order_mark_len text) (drop (byte_order_mark_len text) text) at

-- the first error of the text is at byte `at`. Bytes that aren't UTF-8 come before any other error
abbrev pub IsBad : List ℕ → ℕ → Type 0
IsBad text at = IsBadUtf8 text at ⊎ IsBadToken text at

-- whether this error may be returned in place of tokens
abbrev pub IsRefusal : List ℕ → LexError → Type 0
IsRefusal text (error.Bad at) = IsBad text at
IsRefusal text error.NoMemory = ⊤

-- the tokens follow one another between the bytes `at` and `end`, and each token has at least one byte
abbrev pub TokensAreInOrder : ℕ → ℕ → List Token → Type 0
TokensAreInOrder at end [] = at ≤ end
TokensAreInOrder at end (t ∷ ts) = (at ≤ t.start) × (t.start < t.end) × TokensAreInOrder t.end end ts

-- the bytes of the token in the text have the form of the token's kind
abbrev pub HasItsForm : List ℕ → Token → Type 0
HasItsForm text token = IsToken token.kind (slice text token.start token.end)
