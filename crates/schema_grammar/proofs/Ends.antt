-- The answer of the schema parser for all tokens of a text.
use Rattle.std.proofs.Common.{◌≡◌, ℕ, true, false, List, [], Some, None}
use Rattle.ll_grammars.specs.declared.lexeme.Lexeme.{Lexeme}
use Rattle.ll_grammars.specs.Rules.{next_token_start, is_empty}
use Rattle.ll_grammars.specs.Places.{IsSyntaxErrorAt}
use Rattle.ll_grammars.proofs.Ends as ends
use Rattle.schema_grammar.specs.declared.tree.TableNode.{TableNode}
use Rattle.schema_grammar.specs.Grammar.{SchemaText}
use Rattle.schema_grammar.specs.Readers.{read_all_tables}
use Rattle.schema_grammar.proofs.Rules.{reads_all_tables}

pub spelled : (tokens : List Lexeme) (tables : List TableNode) (rest : List Lexeme) → read_all_tables tokens ≡ (Some tables, rest) → is_empty rest ≡ true → SchemaText tokens tables
spelled = ends.spelled reads_all_tables

pub wrong_after : (tokens : List Lexeme) (tables : List TableNode) (rest : List Lexeme) (text_len at : ℕ) → read_all_tables tokens ≡ (Some tables, rest) → is_empty rest ≡ false → at ≡ next_token_start rest text_len → IsSyntaxErrorAt SchemaText tokens text_len at
wrong_after = ends.wrong_after reads_all_tables

pub wrong_at : (tokens : List Lexeme) (rest : List Lexeme) (text_len at : ℕ) → read_all_tables tokens ≡ (None, rest) → at ≡ next_token_start rest text_len → IsSyntaxErrorAt SchemaText tokens text_len at
wrong_at = ends.wrong_at reads_all_tables

pub all_found : (tokens : List Lexeme) (tables : List TableNode) → SchemaText tokens tables → read_all_tables tokens ≡ (Some tables, [])
all_found = ends.all_found reads_all_tables

pub one_schema : (tokens : List Lexeme) (a b : List TableNode) → SchemaText tokens a → SchemaText tokens b → a ≡ b
one_schema = ends.at_most_one reads_all_tables
