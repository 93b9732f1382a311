-- A parser for each rule of the grammar.
use Rattle.std.specs.Prelude.{◌≡◌, ◌<◌, length, Bool, true, false, List, [], ◌∷◌, Some}
use Rattle.ll_grammars.specs.declared.lexeme.Lexeme.{Lexeme}
use Rattle.ll_grammars.specs.declared.terminal.Terminal.{Terminal}
use Rattle.ll_grammars.specs.declared.terminal.Terminal.TheVariants as terminal
use Rattle.ll_grammars.specs.Reading.{◌>>=◌, Parser, read_one, read_then, read_mapped, read_either, read_maybe, read_many, read_others, read_tails}
use Rattle.ll_grammars.specs.Rules.{first_and_others, second, read_word, read_in_parentheses}
use Rattle.schema_grammar.specs.declared.tree.TargetNode.{TargetNode}
use Rattle.schema_grammar.specs.declared.tree.TypeNode.{TypeNode}
use Rattle.schema_grammar.specs.declared.tree.ColumnConstraintNode.{ColumnConstraintNode}
use Rattle.schema_grammar.specs.declared.tree.ColumnNode.{ColumnNode}
use Rattle.schema_grammar.specs.declared.tree.TableConstraintNode.{TableConstraintNode}
use Rattle.schema_grammar.specs.declared.tree.Element.{Element}
use Rattle.schema_grammar.specs.declared.tree.TableNode.{TableNode}
use Rattle.schema_grammar.specs.Grammar.{drop_value, target, number_type, text_type, varying_type, not_null, primary_key, unique, references, column, primary_key_over, unique_over, foreign_key, of_column, of_rule, table, name_terminals, number_types}

-- ---- names

unfoldable pub read_name : Parser Lexeme
read_name = read_one name_terminals

unfoldable pub read_next_name : Parser Lexeme
read_next_name = read_mapped second (read_then (read_word terminal.Comma) read_name)

unfoldable pub read_names : Parser (List Lexeme)
read_names = read_mapped first_and_others (read_then read_name (read_many (terminal.Comma ∷ []) read_next_name))

unfoldable pub read_name_list : Parser (List Lexeme)
read_name_list = read_in_parentheses read_names

-- ---- types

unfoldable pub read_length : Parser Lexeme
read_length = read_in_parentheses (read_word terminal.Number)

unfoldable pub read_type : Parser TypeNode
read_type = read_either number_types (read_mapped number_type (read_one number_types))
    (read_either (terminal.Varchar ∷ []) (read_mapped text_type (read_then (read_word terminal.Varchar) read_length))
    (read_mapped varying_type (read_then (read_one (terminal.Char ∷ terminal.Character
    ∷ [])) (read_then (read_word terminal.Varying) read_length))))

-- ---- references

unfoldable pub read_action : Parser (Unit {0})
read_action = read_either (terminal.No ∷ []) (read_mapped drop_value (read_then (read_word terminal.No) (read_word terminal.Action)))
    (read_either (terminal.Cascade ∷ []) (read_mapped drop_value (read_word terminal.Cascade))
    (read_mapped drop_value (read_then (read_word terminal.Set) (read_one (terminal.Null ∷ terminal.Default ∷ [])))))

unfoldable pub read_triggered_action : Parser (Unit {0})
read_triggered_action = read_mapped drop_value (read_then (read_word terminal.On) (read_then (read_one (terminal.Delete ∷ terminal.Update
    ∷ [])) read_action))

unfoldable pub read_triggered_actions : Parser (Unit {0})
read_triggered_actions = read_mapped drop_value (read_many (terminal.On ∷ []) read_triggered_action)

unfoldable pub read_target : Parser TargetNode
read_target = read_mapped target (read_then read_name (read_then (read_maybe (terminal.Open ∷ []) read_name_list) read_triggered_actions))

-- ---- constraints of columns and of tables

unfoldable pub read_constraint_name : Parser (Unit {0})
read_constraint_name = read_mapped drop_value (read_maybe (terminal.Constraint ∷ []) (read_then (read_word terminal.Constraint) read_name))

unfoldable pub read_column_constraint : Parser ColumnConstraintNode
read_column_constraint = read_either (terminal.Not ∷ []) (read_mapped not_null (read_then (read_word terminal.Not) (read_word terminal.Null)))
    (read_either (terminal.Primary ∷ []) (read_mapped primary_key (read_then (read_word terminal.Primary) (read_word terminal.Key)))
    (read_either (terminal.Unique ∷ []) (read_mapped unique (read_word terminal.Unique))
    (read_mapped references (read_then (read_word terminal.References) read_target))))

unfoldable pub read_column_rule : Parser ColumnConstraintNode
read_column_rule = read_mapped second (read_then read_constraint_name read_column_constraint)

abbrev pub column_rule_first : List Terminal
column_rule_first = terminal.Constraint ∷ terminal.Not ∷ terminal.Primary ∷ terminal.Unique ∷ terminal.References ∷ []

unfoldable pub read_column_rules : Parser (List ColumnConstraintNode)
read_column_rules = read_many column_rule_first read_column_rule

unfoldable pub read_foreign_key : Parser TableConstraintNode
read_foreign_key = read_mapped foreign_key
    (read_then (read_word terminal.Foreign)
    (read_then (read_word terminal.Key) (read_then read_name_list (read_then (read_word terminal.References) read_target))))

unfoldable pub read_table_constraint : Parser TableConstraintNode
read_table_constraint = read_either (terminal.Primary ∷ [])
    (read_mapped primary_key_over (read_then (read_word terminal.Primary) (read_then (read_word terminal.Key) read_name_list)))
    (read_either (terminal.Unique ∷ []) (read_mapped unique_over (read_then (read_word terminal.Unique) read_name_list))
    read_foreign_key)

unfoldable pub read_table_rule : Parser TableConstraintNode
read_table_rule = read_mapped second (read_then read_constraint_name read_table_constraint)

-- ---- tables

unfoldable pub read_column : Parser ColumnNode
read_column = read_mapped column (read_then read_name (read_then read_type read_column_rules))

unfoldable pub read_element : Parser Element
read_element = read_either name_terminals (read_mapped of_column read_column) (read_mapped of_rule read_table_rule)

unfoldable pub read_next_element : Parser Element
read_next_element = read_mapped second (read_then (read_word terminal.Comma) read_element)

unfoldable pub read_elements : Parser (List Element)
read_elements = read_mapped first_and_others (read_then read_element (read_many (terminal.Comma ∷ []) read_next_element))

unfoldable pub read_element_list : Parser (List Element)
read_element_list = read_in_parentheses read_elements

unfoldable pub read_table : Parser TableNode
read_table = read_mapped table
    (read_then (read_word terminal.Create) (read_then (read_word terminal.Table) (read_then read_name read_element_list)))

unfoldable pub read_other_tables : Parser (List TableNode)
read_other_tables = read_tails (terminal.Semicolon ∷ []) (terminal.Create ∷ []) read_table

unfoldable pub read_all_tables : Parser (List TableNode)
read_all_tables = read_mapped first_and_others (read_then read_table read_other_tables)

-- whether another table follows. The step reads a semicolon, if there is one. `old` has the remaining tokens before the step, and `new` those after
-- it
abbrev pub Follows : Bool → List Lexeme → List Lexeme → Type 0
Follows true old new = (read_other_tables old ≡ (read_table new >>= read_others read_other_tables)) × (length new < length old)
Follows false old new = read_other_tables old ≡ (Some [], new)
