-- The result for a schema text, as a function of the text. It is computed from the text's tokens and the tables that they spell.
use Rattle.std.specs.Prelude.{ℕ, List, map, length, Result}
use Rattle.schema_grammar.specs.declared.tree.TableNode.{TableNode}
use Rattle.schema_grammar.specs.Readers.{read_all_tables}
use Rattle.sql_tokens.specs.declared.token.Token.{Token}
use Rattle.sql_tokens.specs.Words.{lexeme_of}
use Rattle.schema_types.specs.declared.errors.SchemaError.{SchemaError}
use Rattle.schema_types.specs.declared.errors.SchemaError.TheVariants as error
use Rattle.schema_types.specs.declared.types.Schema.{Schema}
use Rattle.schema_types.specs.Meaning.{schema_or_refusal}
use Rattle.text_answers.specs.Stages.{or_refused_at, tokens_of, parsed}

abbrev pub syntax : ℕ → SchemaError
syntax at = error.Syntax at

-- the tables that these tokens of a text spell
unfoldable pub tables_of : List ℕ → List Token → Result (List TableNode) ℕ
tables_of text tokens = parsed read_all_tables (length text) (map (lexeme_of text) tokens)

-- the schema of a text, or its first refusal, tested in this order: Syntax, Name, Nullable, Limit
unfoldable pub schema_answer : List ℕ → Result Schema SchemaError
schema_answer text = or_refused_at syntax (tokens_of text) (λ tokens. or_refused_at syntax (tables_of text tokens) (schema_or_refusal text))
