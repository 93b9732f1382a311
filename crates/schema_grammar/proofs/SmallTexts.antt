-- The parser's answers for small texts, by computation.
use Rattle.std.proofs.Common.{◌≡◌, [], ◌∷◌, Some, None, refl}
use Rattle.ll_grammars.specs.declared.terminal.Terminal.TheVariants as terminal
use Rattle.ll_grammars.specs.Reading.{read_many, read_tails}
use Rattle.ll_grammars.specs.Places.{IsSyntaxErrorAt}
use Rattle.schema_grammar.specs.Examples.{token, unfinished_text, zero_length, table_of_whole, whole_text}
use Rattle.schema_grammar.specs.Grammar.{SchemaText}
use Rattle.schema_grammar.specs.Readers.{read_name, read_next_name, read_names, read_name_list, read_length, read_type, read_action, read_triggered_action, read_triggered_actions, read_target, read_constraint_name, read_column_constraint, read_column_rule, read_column_rules, read_foreign_key, read_table_constraint, read_table_rule, read_column, read_element, read_next_element, read_elements, read_element_list, read_table, read_other_tables, read_all_tables}
use Rattle.schema_grammar.proofs.Ends.{spelled, wrong_at}

read_whole : read_all_tables whole_text ≡ (Some (table_of_whole ∷ []), [])
unfolding read_many read_tails read_name read_next_name read_names read_name_list read_length read_type read_action read_triggered_action read_triggered_actions read_target read_constraint_name read_column_constraint read_column_rule read_column_rules read_foreign_key read_table_constraint read_table_rule read_column read_element read_next_element read_elements read_element_list read_table read_other_tables read_all_tables
read_whole = refl

read_head : read_all_tables unfinished_text ≡ (None, [])
unfolding read_many read_tails read_name read_next_name read_names read_name_list read_length read_type read_action read_triggered_action read_triggered_actions read_target read_constraint_name read_column_constraint read_column_rule read_column_rules read_foreign_key read_table_constraint read_table_rule read_column read_element read_next_element read_elements read_element_list read_table read_other_tables read_all_tables
read_head = refl

read_zero_length : read_all_tables zero_length ≡ (None, token terminal.Zero 26 27 ∷ token terminal.Close 27 28 ∷ token terminal.Close 28 29 ∷ [])
unfolding read_many read_tails read_name read_next_name read_names read_name_list read_length read_type read_action read_triggered_action read_triggered_actions read_target read_constraint_name read_column_constraint read_column_rule read_column_rules read_foreign_key read_table_constraint read_table_rule read_column read_element read_next_element read_elements read_element_list read_table read_other_tables read_all_tables
read_zero_length = refl

read_empty : read_all_tables [] ≡ (None, [])
unfolding read_many read_tails read_name read_next_name read_names read_name_list read_length read_type read_action read_triggered_action read_triggered_actions read_target read_constraint_name read_column_constraint read_column_rule read_column_rules read_foreign_key read_table_constraint read_table_rule read_column read_element read_next_element read_elements read_element_list read_table read_other_tables read_all_tables
read_empty = refl

pub whole_text_spells : SchemaText whole_text (table_of_whole ∷ [])
whole_text_spells = spelled whole_text (table_of_whole ∷ []) [] read_whole refl

pub unfinished_text_error : IsSyntaxErrorAt SchemaText unfinished_text 16 16
unfinished_text_error = wrong_at unfinished_text [] 16 16 read_head refl

pub zero_length_error : IsSyntaxErrorAt SchemaText zero_length 29 26
zero_length_error = wrong_at zero_length (token terminal.Zero 26 27 ∷ token terminal.Close 27 28 ∷ token terminal.Close 28 29 ∷ []) 29 26 read_zero_length refl

pub empty_text_error : IsSyntaxErrorAt SchemaText [] 0 0
empty_text_error = wrong_at [] [] 0 0 read_empty refl
