-- The results that a schema text may have.
use Rattle.std.specs.Prelude.{◌≡◌, ℕ, ◌⊎◌, List, map, length, Result, Ok, Err, ⊤}
use Rattle.ll_grammars.specs.Places.{IsSyntaxErrorAt}
use Rattle.schema_grammar.specs.declared.tree.TableNode.{TableNode}
use Rattle.schema_grammar.specs.Grammar.{SchemaText}
use Rattle.sql_tokens.specs.declared.token.Token.{Token}
use Rattle.sql_tokens.specs.Lexing.{IsLexed, IsBad}
use Rattle.sql_tokens.specs.Words.{lexeme_of}
use Rattle.schema_types.specs.declared.errors.SchemaError.{SchemaError}
use Rattle.schema_types.specs.declared.errors.SchemaError.TheVariants as error
use Rattle.schema_types.specs.declared.types.Schema.{Schema}
use Rattle.schema_types.specs.Meaning.{schema_or_refusal}

-- the text's tokens spell these tables
pub record Spells (text : List ℕ) (tables : List TableNode) : Type 0 where
  pub tokens : List Token
  pub lexed : IsLexed text tokens
  pub spelled : SchemaText (map (lexeme_of text) tokens) tables

-- the text has tokens, and their syntax error is at this byte offset
pub record IsUngrammatical (text : List ℕ) (at : ℕ) : Type 0 where
  pub tokens : List Token
  pub lexed : IsLexed text tokens
  pub place : IsSyntaxErrorAt SchemaText (map (lexeme_of text) tokens) (length text) at

-- the text spells tables, and this is their schema or the first refusal
pub record Declares (text : List ℕ) (answer : Result Schema SchemaError) : Type 0 where
  pub tables : List TableNode
  pub spells : Spells text tables
  pub answers : schema_or_refusal text tables ≡ answer

-- a result for a schema text: its schema, or the first refusal in the order Syntax, Name, Nullable, Limit. `NoMemory` is always allowed
abbrev pub IsSchemaOf : List ℕ → Result Schema SchemaError → Type 0
IsSchemaOf text (Ok schema) = Declares text (Ok schema)
IsSchemaOf text (Err (error.Syntax at)) = IsBad text at ⊎ IsUngrammatical text at
IsSchemaOf text (Err (error.Name at)) = Declares text (Err (error.Name at))
IsSchemaOf text (Err (error.Nullable at)) = Declares text (Err (error.Nullable at))
IsSchemaOf text (Err (error.Limit which found)) = Declares text (Err (error.Limit which found))
IsSchemaOf text (Err error.NoMemory) = ⊤
