-- The results for small schema texts, by computation.
use Rattle.std.proofs.Common.{◌≡◌, [], ◌∷◌, Ok, Err, refl}
use Rattle.std.specs.Prelude.{codes}
use Rattle.std.specs.Str.{chars, is_utf8}
use Rattle.std.specs.Str.Lossy.{utf8_valid_len}
use Rattle.ll_grammars.specs.Reading.{read_many, read_tails}
use Rattle.schema_grammar.specs.Readers.{read_name, read_next_name, read_names, read_name_list, read_length, read_type, read_action, read_triggered_action, read_triggered_actions, read_target, read_constraint_name, read_column_constraint, read_column_rule, read_column_rules, read_foreign_key, read_table_constraint, read_table_rule, read_column, read_element, read_next_element, read_elements, read_element_list, read_table, read_other_tables, read_all_tables}
use Rattle.sql_tokens.specs.Pieces.{closing_length, identifier, literal, symbol, piece, tokens_at}
use Rattle.sql_tokens.specs.Words.{terminal_of, name_of, number_of}
use Rattle.schema_types.specs.declared.errors.LimitKind.TheVariants as limit
use Rattle.schema_types.specs.declared.errors.SchemaError.TheVariants as error
use Rattle.schema_types.specs.Names.{index_of_name, flat_map_with_earlier}
use Rattle.schema_types.specs.Numbers.{numbers_of_columns}
use Rattle.schema_types.specs.Declarations.{primary_key}
use Rattle.schema_types.specs.Offences.{listed_offences, list_offences, target_offences, rule_offences, column_offences, table_rule_offences, element_offences, table_offences, offences}
use Rattle.schema_types.specs.Refusals.{nullable_in, nullable_offsets, text_lengths}
use Rattle.schema_types.specs.Meaning.{reference_of, table_of, schema_of, if_within_limits, schema_or_refusal}
use Rattle.text_answers.specs.SmallTexts.{one_column}
use Rattle.text_answers.specs.Stages.{tokens_of}
use Rattle.text_answers.specs.SchemaTexts.{tables_of, schema_answer}

pub whole : schema_answer (codes "CREATE TABLE R (X INTEGER NOT NULL);") ≡ Ok one_column
unfolding schema_answer tokens_of tables_of chars is_utf8 utf8_valid_len lib.Utf8.encode closing_length identifier literal symbol piece tokens_at terminal_of name_of number_of read_many read_tails read_name read_next_name read_names read_name_list read_length read_type read_action read_triggered_action read_triggered_actions read_target read_constraint_name read_column_constraint read_column_rule read_column_rules read_foreign_key read_table_constraint read_table_rule read_column read_element read_next_element read_elements read_element_list read_table read_other_tables read_all_tables index_of_name flat_map_with_earlier numbers_of_columns primary_key listed_offences list_offences target_offences rule_offences column_offences table_rule_offences element_offences table_offences offences nullable_in nullable_offsets text_lengths reference_of table_of schema_of if_within_limits schema_or_refusal
whole = refl

pub bad_byte : schema_answer (239 ∷ 187 ∷ 191 ∷ 255 ∷ []) ≡ Err (error.Syntax 3)
unfolding schema_answer tokens_of tables_of chars is_utf8 utf8_valid_len lib.Utf8.encode closing_length identifier literal symbol piece tokens_at terminal_of name_of number_of read_many read_tails read_name read_next_name read_names read_name_list read_length read_type read_action read_triggered_action read_triggered_actions read_target read_constraint_name read_column_constraint read_column_rule read_column_rules read_foreign_key read_table_constraint read_table_rule read_column read_element read_next_element read_elements read_element_list read_table read_other_tables read_all_tables index_of_name flat_map_with_earlier numbers_of_columns primary_key listed_offences list_offences target_offences rule_offences column_offences table_rule_offences element_offences table_offences offences nullable_in nullable_offsets text_lengths reference_of table_of schema_of if_within_limits schema_or_refusal
bad_byte = refl

pub no_token : schema_answer (codes "FOO $") ≡ Err (error.Syntax 4)
unfolding schema_answer tokens_of tables_of chars is_utf8 utf8_valid_len lib.Utf8.encode closing_length identifier literal symbol piece tokens_at terminal_of name_of number_of read_many read_tails read_name read_next_name read_names read_name_list read_length read_type read_action read_triggered_action read_triggered_actions read_target read_constraint_name read_column_constraint read_column_rule read_column_rules read_foreign_key read_table_constraint read_table_rule read_column read_element read_next_element read_elements read_element_list read_table read_other_tables read_all_tables index_of_name flat_map_with_earlier numbers_of_columns primary_key listed_offences list_offences target_offences rule_offences column_offences table_rule_offences element_offences table_offences offences nullable_in nullable_offsets text_lengths reference_of table_of schema_of if_within_limits schema_or_refusal
no_token = refl

pub no_length : schema_answer (codes "CREATE TABLE R (X VARCHAR(0) NOT NULL)") ≡ Err (error.Syntax 26)
unfolding schema_answer tokens_of tables_of chars is_utf8 utf8_valid_len lib.Utf8.encode closing_length identifier literal symbol piece tokens_at terminal_of name_of number_of read_many read_tails read_name read_next_name read_names read_name_list read_length read_type read_action read_triggered_action read_triggered_actions read_target read_constraint_name read_column_constraint read_column_rule read_column_rules read_foreign_key read_table_constraint read_table_rule read_column read_element read_next_element read_elements read_element_list read_table read_other_tables read_all_tables index_of_name flat_map_with_earlier numbers_of_columns primary_key listed_offences list_offences target_offences rule_offences column_offences table_rule_offences element_offences table_offences offences nullable_in nullable_offsets text_lengths reference_of table_of schema_of if_within_limits schema_or_refusal
no_length = refl

pub one_name_twice : schema_answer (codes "CREATE TABLE R (X INTEGER, x INTEGER)") ≡ Err (error.Name 27)
unfolding schema_answer tokens_of tables_of chars is_utf8 utf8_valid_len lib.Utf8.encode closing_length identifier literal symbol piece tokens_at terminal_of name_of number_of read_many read_tails read_name read_next_name read_names read_name_list read_length read_type read_action read_triggered_action read_triggered_actions read_target read_constraint_name read_column_constraint read_column_rule read_column_rules read_foreign_key read_table_constraint read_table_rule read_column read_element read_next_element read_elements read_element_list read_table read_other_tables read_all_tables index_of_name flat_map_with_earlier numbers_of_columns primary_key listed_offences list_offences target_offences rule_offences column_offences table_rule_offences element_offences table_offences offences nullable_in nullable_offsets text_lengths reference_of table_of schema_of if_within_limits schema_or_refusal
one_name_twice = refl

pub may_be_null : schema_answer (codes "CREATE TABLE R (X INTEGER)") ≡ Err (error.Nullable 16)
unfolding schema_answer tokens_of tables_of chars is_utf8 utf8_valid_len lib.Utf8.encode closing_length identifier literal symbol piece tokens_at terminal_of name_of number_of read_many read_tails read_name read_next_name read_names read_name_list read_length read_type read_action read_triggered_action read_triggered_actions read_target read_constraint_name read_column_constraint read_column_rule read_column_rules read_foreign_key read_table_constraint read_table_rule read_column read_element read_next_element read_elements read_element_list read_table read_other_tables read_all_tables index_of_name flat_map_with_earlier numbers_of_columns primary_key listed_offences list_offences target_offences rule_offences column_offences table_rule_offences element_offences table_offences offences nullable_in nullable_offsets text_lengths reference_of table_of schema_of if_within_limits schema_or_refusal
may_be_null = refl

pub too_long : schema_answer (codes "CREATE TABLE R (X VARCHAR(1000001) NOT NULL)") ≡ Err (error.Limit limit.TextLength 1000001)
unfolding schema_answer tokens_of tables_of chars is_utf8 utf8_valid_len lib.Utf8.encode closing_length identifier literal symbol piece tokens_at terminal_of name_of number_of read_many read_tails read_name read_next_name read_names read_name_list read_length read_type read_action read_triggered_action read_triggered_actions read_target read_constraint_name read_column_constraint read_column_rule read_column_rules read_foreign_key read_table_constraint read_table_rule read_column read_element read_next_element read_elements read_element_list read_table read_other_tables read_all_tables index_of_name flat_map_with_earlier numbers_of_columns primary_key listed_offences list_offences target_offences rule_offences column_offences table_rule_offences element_offences table_offences offences nullable_in nullable_offsets text_lengths reference_of table_of schema_of if_within_limits schema_or_refusal
too_long = refl
