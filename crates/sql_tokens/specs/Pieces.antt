-- The tokens of a text by computation: what a text begins with (a piece), and a walk from piece to piece. The code computes exactly this, and
-- proofs show that the result is what `Lexing` says.
use Rattle.std.specs.Prelude.{◌≡◌, ℕ, zero, suc, ◌+◌, ◌<◌, ◌≤◌, Bool, ◌&&◌, ◌==◌, nat_lt, if◌then◌else◌, List, [], ◌∷◌, ◌++◌, length, drop, slice_index, Option, Some, None, Result, Ok, Err, ⊤}
use Rattle.std.specs.List.{prefix_len}
use Rattle.sql_tokens.specs.declared.token.Token.{Token}
use Rattle.sql_tokens.specs.declared.token.TokenKind.TheVariants as kind
use Rattle.sql_tokens.specs.declared.token.LexError.{LexError}
use Rattle.sql_tokens.specs.declared.token.LexError.TheVariants as error
use Rattle.sql_tokens.specs.declared.pieces.TextPiece.{TextPiece}
use Rattle.sql_tokens.specs.declared.pieces.TextPiece.TheVariants as piece_
use Rattle.sql_tokens.specs.declared.runs.ByteClass.{ByteClass}
use Rattle.sql_tokens.specs.declared.runs.ByteClass.TheVariants as run
use Rattle.sql_tokens.specs.Tokens.{is_blank, is_letter, is_digit, is_word_byte, is_in_line, is_not_control, is_one_byte_symbol, is_two_byte_symbol}

abbrev pub is_in : ByteClass → ℕ → Bool
is_in run.Word b = is_word_byte b
is_in run.Digits b = is_digit b
is_in run.NotLineFeed b = is_in_line b
is_in run.NotControl b = is_not_control b

abbrev pub further : ℕ → Option ℕ → Option ℕ
further k None = None
further k (Some n) = Some (k + n)

-- the number of bytes up to the closing quote, including this quote
unfoldable pub closing_length : ℕ → List ℕ → Option ℕ
closing_length quote [] = None
closing_length quote (b ∷ []) = if b == quote then Some 1 else None
closing_length quote (b ∷ c ∷ rest) = if b == quote then (if c == quote then further 2 (closing_length quote rest) else Some 1)
    else further 1 (closing_length quote (c ∷ rest))

-- what a delimited identifier gives. The first argument is the number of bytes up to its closing quote, `rest` are the bytes after its opening quote
abbrev pub identifier_to : Option ℕ → List ℕ → TextPiece
identifier_to None rest = piece_.Wrong 0
identifier_to (Some n) rest =
    if n == 1 then piece_.Wrong 0
    else (if nat_lt (prefix_len is_not_control rest) n then piece_.Wrong (prefix_len is_not_control rest + 1) else piece_.Token kind.Quoted (n + 1))

unfoldable pub identifier : List ℕ → TextPiece
identifier rest = identifier_to (closing_length 34 rest) rest

abbrev pub literal_to : Option ℕ → TextPiece
literal_to None = piece_.Wrong 0
literal_to (Some n) = piece_.Token kind.Text (n + 1)

unfoldable pub literal : List ℕ → TextPiece
literal rest = literal_to (closing_length 39 rest)

unfoldable pub symbol : ℕ → List ℕ → TextPiece
symbol b rest = if is_two_byte_symbol b (slice_index rest 0) then piece_.Token kind.Symbol 2
    else (if is_one_byte_symbol b then piece_.Token kind.Symbol 1 else piece_.Wrong 0)

-- what a text begins with
unfoldable pub piece : List ℕ → TextPiece
piece [] = piece_.Separator 0
piece (b ∷ rest) =
    if is_blank b then piece_.Separator 1
    else (if is_letter b then piece_.Token kind.Word (prefix_len is_word_byte rest + 1)
    else (if is_digit b then piece_.Token kind.Number (prefix_len is_digit rest + 1)
    else (if b == 34 then identifier rest
    else (if b == 39 then literal rest
    else (if (b == 45) && (slice_index rest 0 == 45) then piece_.Separator (prefix_len is_in_line rest + 1)
    else symbol b rest)))))

-- a separator or a token has at least one byte and at most all bytes that there are; an error is at one of these bytes
abbrev pub Fits : TextPiece → ℕ → Type 0
Fits (piece_.Separator n) len = (1 ≤ n) × (n ≤ len)
Fits (piece_.Token k n) len = (1 ≤ n) × (n ≤ len)
Fits (piece_.Wrong n) len = n < len

abbrev pub Walked : Type 0
Walked = Result (List Token) ℕ

abbrev pub with_first : Token → Walked → Walked
with_first t (Ok ts) = Ok (t ∷ ts)
with_first t (Err at) = Err at

abbrev pub step : (ℕ → List ℕ → Walked) → ℕ → TextPiece → List ℕ → Walked
step others at (piece_.Separator n) bytes = others (at + n) (drop n bytes)
step others at (piece_.Token k n) bytes = with_first (record { kind = k; start = at; end = at + n }) (others (at + n) (drop n bytes))
step others at (piece_.Wrong n) bytes = Err (at + n)

abbrev pub pieces_up_to : ℕ → ℕ → List ℕ → Walked
pieces_up_to zero at bytes = Ok []
pieces_up_to (suc n) at [] = Ok []
pieces_up_to (suc n) at (b ∷ rest) = step (pieces_up_to n) at (piece (b ∷ rest)) (b ∷ rest)

-- the tokens of the bytes, or the byte of the first error. The first of the bytes is byte `at` of the text
unfoldable pub tokens_at : ℕ → List ℕ → Walked
tokens_at at bytes = pieces_up_to (length bytes) at bytes

abbrev pub with_front : List Token → Walked → Walked
with_front front (Ok ts) = Ok (front ++ ts)
with_front front (Err at) = Err at

-- the code's result is the result of the walk over the pieces, unless memory ran out
abbrev pub IsResultOf : Result (List Token) LexError → Walked → Type 0
IsResultOf (Ok ts) walked = walked ≡ Ok ts
IsResultOf (Err (error.Bad at)) walked = walked ≡ Err at
IsResultOf (Err error.NoMemory) walked = ⊤
