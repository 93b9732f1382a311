-- The results of the stages of `read_schema`.
use Rattle.std.specs.Prelude.{◌≡◌, ℕ, List, map, Result, Ok, Err, ⊤}
use Rattle.ll_grammars.specs.declared.lexeme.Lexeme.{Lexeme}
use Rattle.sql_tokens.specs.declared.token.Token.{Token}
use Rattle.sql_tokens.specs.Lexing.{IsLexed, IsBad}
use Rattle.sql_tokens.specs.Words.{lexeme_of}
use Rattle.schema_types.specs.declared.errors.SchemaError.{SchemaError}
use Rattle.schema_types.specs.declared.errors.SchemaError.TheVariants as error
use Rattle.schema_types.specs.declared.types.Schema.{Schema}

-- the result is `due`, unless memory ran out
abbrev pub Answers : Result Schema SchemaError → Result Schema SchemaError → Type 0
Answers (Ok schema) due = due ≡ Ok schema
Answers (Err (error.Name at)) due = due ≡ Err (error.Name at)
Answers (Err (error.Nullable at)) due = due ≡ Err (error.Nullable at)
Answers (Err (error.Limit which found)) due = due ≡ Err (error.Limit which found)
Answers (Err error.NoMemory) due = ⊤
Answers (Err (error.Syntax at)) due = ⊥

-- these are the text's tokens, as `Lexeme`s, which grammars take
pub record AreLexemes (text : List ℕ) (lexemes : List Lexeme) : Type 0 where
  pub tokens : List Token
  pub lexed : IsLexed text tokens
  pub are : lexemes ≡ map (lexeme_of text) tokens

-- why a text wasn't split into tokens: it has an error at a byte offset, or memory ran out
abbrev pub IsLexRefusal : List ℕ → SchemaError → Type 0
IsLexRefusal text (error.Syntax at) = IsBad text at
IsLexRefusal text error.NoMemory = ⊤
IsLexRefusal text (error.Name at) = ⊥
IsLexRefusal text (error.Nullable at) = ⊥
IsLexRefusal text (error.Limit which found) = ⊥
