-- The stages that schema texts and query texts share: the tokens of a text, and what a token list spells. Each stage gives a value, or the byte
-- offset of an error.
use Rattle.std.specs.Prelude.{ℕ, if◌then◌else◌, List, [], ◌∷◌, drop, Option, Some, None, Result, Ok, Err}
use Rattle.std.specs.Str.{is_utf8}
use Rattle.std.specs.Str.Lossy.{utf8_valid_len}
use Rattle.ll_grammars.specs.declared.lexeme.Lexeme.{Lexeme}
use Rattle.ll_grammars.specs.Reading.{Answer, Parser}
use Rattle.ll_grammars.specs.Rules.{next_token_start}
use Rattle.sql_tokens.specs.declared.token.Token.{Token}
use Rattle.sql_tokens.specs.Lexing.{byte_order_mark_len}
use Rattle.sql_tokens.specs.Pieces.{tokens_at}

-- if a stage gives a value, `rest` goes on with this value. If the stage gives a byte offset, the text is refused at this offset
abbrev pub or_refused_at : {A B E : Type 0} → (ℕ → E) → Result A ℕ → (A → Result B E) → Result B E
or_refused_at wrong (Ok value) rest = rest value
or_refused_at wrong (Err at) rest = Err (wrong at)

-- the tokens after the byte order mark. If a text isn't UTF-8, its error is at the first bad sequence, whatever other errors it has
unfoldable pub tokens_of : List ℕ → Result (List Token) ℕ
tokens_of text = if is_utf8 text then tokens_at (byte_order_mark_len text) (drop (byte_order_mark_len text) text) else Err (utf8_valid_len text)

-- a parser's value counts if no token is left after it. Otherwise the error is where the parser stopped
abbrev pub to_the_end : {A : Type 0} → ℕ → Option A → List Lexeme → Result A ℕ
to_the_end text_len None rest = Err (next_token_start rest text_len)
to_the_end text_len (Some value) [] = Ok value
to_the_end text_len (Some value) (token ∷ rest) = Err token.start

abbrev pub answer_to_the_end : {A : Type 0} → ℕ → Answer A → Result A ℕ
answer_to_the_end text_len answer = to_the_end text_len answer.0 answer.1

-- what a parser reads from all tokens of a text of `text_len` bytes
abbrev pub parsed : {A : Type 0} → Parser A → ℕ → List Lexeme → Result A ℕ
parsed parser text_len tokens = answer_to_the_end text_len (parser tokens)
