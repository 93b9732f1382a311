-- The tokens of small texts. The comment above each list is the text that has these tokens.
use Rattle.std.specs.Prelude.{ℕ, List, [], ◌∷◌}
use Rattle.ll_grammars.specs.declared.lexeme.Lexeme.{Lexeme}
use Rattle.ll_grammars.specs.declared.terminal.Terminal.{Terminal}
use Rattle.ll_grammars.specs.declared.terminal.Terminal.TheVariants as terminal
use Rattle.schema_grammar.specs.declared.tree.TypeNode.TheVariants as type
use Rattle.schema_grammar.specs.declared.tree.ColumnConstraintNode.TheVariants as column_rule
use Rattle.schema_grammar.specs.declared.tree.Element.TheVariants as element
use Rattle.schema_grammar.specs.declared.tree.TableNode.{TableNode}

abbrev pub token : Terminal → ℕ → ℕ → Lexeme
token terminal start end = record { terminal = terminal; start = start; end = end }

-- CREATE TABLE R (
abbrev pub unfinished_text : List Lexeme
unfinished_text = token terminal.Create 0 6 ∷ token terminal.Table 7 12 ∷ token terminal.Name 13 14 ∷ token terminal.Open 15 16 ∷ []

-- CREATE TABLE R (X INT UNIQUE);
abbrev pub whole_text : List Lexeme
whole_text =
    token terminal.Create 0 6 ∷ token terminal.Table 7 12 ∷ token terminal.Name 13 14 ∷ token terminal.Open 15 16
    ∷ token terminal.Name 16 17 ∷ token terminal.Int 18 21 ∷ token terminal.Unique 22 28 ∷ token terminal.Close 28 29
    ∷ token terminal.Semicolon 29 30 ∷ []

abbrev pub table_of_whole : TableNode
table_of_whole = record {
  name = token terminal.Name 13 14;
  elements = element.Column
      (record { name = token terminal.Name 16 17; kind = type.Number; rules = column_rule.Unique ∷ [] }) ∷ [];
}

-- CREATE TABLE R (X VARCHAR(0))
abbrev pub zero_length : List Lexeme
zero_length =
    token terminal.Create 0 6 ∷ token terminal.Table 7 12 ∷ token terminal.Name 13 14 ∷ token terminal.Open 15 16
    ∷ token terminal.Name 16 17 ∷ token terminal.Varchar 18 25 ∷ token terminal.Open 25 26 ∷ token terminal.Zero 26 27
    ∷ token terminal.Close 27 28 ∷ token terminal.Close 28 29 ∷ []
