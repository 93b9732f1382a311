-- Columns by their numbers.
use Rattle.std.specs.Prelude.{ℕ, List, map, unwrap_or}
use Rattle.ll_grammars.specs.declared.lexeme.Lexeme.{Lexeme}
use Rattle.sql_tokens.specs.Words.{name_of}
use Rattle.schema_types.specs.Names.{index_of_name}

-- the number of a column by its name, counted from 0. It is 0 if no column has this name, which breaks a rule on names
abbrev pub number_of_name : List (List ℕ) → List ℕ → ℕ
number_of_name declared name = unwrap_or (index_of_name declared name) 0

abbrev pub number_of_column : List ℕ → List (List ℕ) → Lexeme → ℕ
number_of_column text declared column = number_of_name declared (name_of text column)

unfoldable pub numbers_of_columns : List ℕ → List (List ℕ) → List Lexeme → List ℕ
numbers_of_columns text declared columns = map (number_of_column text declared) columns
