-- The result for a query text over a schema, as a function of the text. It is computed from the text's tokens, from how deep
-- their parentheses are nested, and from the syntax tree that they spell.
use Rattle.std.specs.Prelude.{ℕ, nat_lt, if◌then◌else◌, List, length, Result, Ok, Err}
use Rattle.ll_grammars.specs.declared.lexeme.Lexeme.{Lexeme}
use Rattle.query_grammar.specs.declared.tree.QueryNode.{QueryNode}
use Rattle.query_grammar.specs.Nesting.{nesting}
use Rattle.query_grammar.specs.Readers.{read_condition, read_query}
use Rattle.schema_types.specs.declared.errors.LimitKind.TheVariants as limit
use Rattle.schema_types.specs.declared.types.Schema.{Schema}
use Rattle.query_types.specs.declared.types.Query.{Query}
use Rattle.query_names.specs.declared.errors.QueryError.{QueryError}
use Rattle.query_names.specs.declared.errors.QueryError.TheVariants as error
use Rattle.sql_parse.specs.QueryOrRefusal.{query_or_refusal, refusal}
use Rattle.query_names.specs.Numbers.{number_offences}
use Rattle.sql_parse.specs.Reading.{lexemes_of, most_nesting, earlier_offset, unless_number}
use Rattle.text_answers.specs.Stages.{or_refused_at, tokens_of, parsed}

abbrev pub syntax : ℕ → QueryError
syntax at = error.Syntax at

-- the syntax tree that the tokens of a text of `text_len` bytes spell
unfoldable pub syntax_tree_of : ℕ → List Lexeme → Result QueryNode ℕ
syntax_tree_of text_len tokens = parsed (read_query read_condition) text_len tokens

module _ (schema : Schema) (text : List ℕ) where
  -- the result for tokens that spell a tree or have a syntax error at some byte. A number outside the range is a syntax error too. The text is
  -- refused at the first of these errors
  abbrev pub spelled_answer : List Lexeme → Result QueryNode ℕ → Result Query QueryError
  spelled_answer tokens (Ok tree) = unless_number (number_offences text tokens) (query_or_refusal schema text tree)
  spelled_answer tokens (Err at) = Err (error.Syntax (earlier_offset at (number_offences text tokens)))

  -- the limit on nesting is tested before the grammar
  unfoldable pub nested_answer : List Lexeme → Result Query QueryError
  nested_answer tokens =
      if nat_lt most_nesting (nesting tokens) then Err (refusal limit.Nesting (nesting tokens))
      else spelled_answer tokens (syntax_tree_of (length text) tokens)

  -- the query of a text, or its first refusal, tested in this order: Syntax of tokens, nesting, Syntax of the grammar, then Name, Kind and Limit
  unfoldable pub query_answer : Result Query QueryError
  query_answer = or_refused_at syntax (tokens_of text) (λ tokens. nested_answer (lexemes_of text tokens))
