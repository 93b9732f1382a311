-- The results of the stages of reading a query text.
use Rattle.std.specs.Prelude.{◌≡◌, ℕ, min, List, map, Option, Some, None, ⊤}
use Rattle.ll_grammars.specs.declared.lexeme.Lexeme.{Lexeme}
use Rattle.sql_tokens.specs.declared.token.Token.{Token}
use Rattle.sql_tokens.specs.Lexing.{IsLexed, IsBad}
use Rattle.sql_tokens.specs.Words.{lexeme_of}
use Rattle.query_names.specs.declared.errors.QueryError.{QueryError}
use Rattle.query_names.specs.declared.errors.QueryError.TheVariants as error

-- these are the text's tokens, as `Lexeme`s, which grammars take
pub record AreLexemes (text : List ℕ) (lexemes : List Lexeme) : Type 0 where
  pub tokens : List Token
  pub lexed : IsLexed text tokens
  pub are : lexemes ≡ map (lexeme_of text) tokens

-- why the lexer found no tokens
abbrev pub IsLexRefusal : List ℕ → QueryError → Type 0
IsLexRefusal text (error.Syntax at) = IsBad text at
IsLexRefusal text error.NoMemory = ⊤
IsLexRefusal text (error.Name at) = ⊥
IsLexRefusal text (error.Kind at) = ⊥
IsLexRefusal text (error.Limit which found) = ⊥

-- the lesser of two byte offsets; the second may be missing
abbrev pub least_of : ℕ → Option ℕ → ℕ
least_of offset None = offset
least_of offset (Some other) = min offset other
