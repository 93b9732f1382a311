-- The schema text of the shop is read as its four tables. The proof is a computation.
use Rattle.std.specs.Str.{chars, is_utf8}
use Rattle.std.specs.Str.Lossy.{utf8_valid_len}
use Rattle.std.proofs.Common.{◌≡◌, Ok, refl}
use Rattle.ll_grammars.specs.Reading.{read_many, read_tails}
use Rattle.schema_grammar.specs.Readers.{read_name, read_next_name, read_names, read_name_list, read_length, read_type, read_action, read_triggered_action, read_triggered_actions, read_target, read_constraint_name, read_column_constraint, read_column_rule, read_column_rules, read_foreign_key, read_table_constraint, read_table_rule, read_column, read_element, read_next_element, read_elements, read_element_list, read_table, read_other_tables, read_all_tables}
use Rattle.sql_tokens.specs.Pieces.{closing_length, identifier, literal, symbol, piece, tokens_at}
use Rattle.sql_tokens.specs.Words.{terminal_of, name_of, number_of}
use Rattle.schema_types.specs.Names.{index_of_name, flat_map_with_earlier}
use Rattle.schema_types.specs.Numbers.{numbers_of_columns}
use Rattle.schema_types.specs.Declarations.{primary_key}
use Rattle.schema_types.specs.Offences.{listed_offences, list_offences, target_offences, rule_offences, column_offences, table_rule_offences, element_offences, table_offences, offences}
use Rattle.schema_types.specs.Refusals.{nullable_in, nullable_offsets, text_lengths}
use Rattle.schema_types.specs.Meaning.{reference_of, table_of, schema_of, if_within_limits, schema_or_refusal}
use Rattle.text_answers.specs.Stages.{tokens_of}
use Rattle.text_answers.specs.SchemaTexts.{tables_of, schema_answer}
use Rattle.demo_files.specs.Texts.{schema_text}
use Rattle.demo_tables.specs.ShopSchema.{shop_schema}

pub schema_read : schema_answer schema_text ≡ Ok shop_schema
unfolding schema_answer tokens_of tables_of chars is_utf8 utf8_valid_len lib.Utf8.encode closing_length identifier literal symbol piece tokens_at terminal_of name_of number_of read_many read_tails read_name read_next_name read_names read_name_list read_length read_type read_action read_triggered_action read_triggered_actions read_target read_constraint_name read_column_constraint read_column_rule read_column_rules read_foreign_key read_table_constraint read_table_rule read_column read_element read_next_element read_elements read_element_list read_table read_other_tables read_all_tables index_of_name flat_map_with_earlier numbers_of_columns primary_key listed_offences list_offences target_offences rule_offences column_offences table_rule_offences element_offences table_offences offences nullable_in nullable_offsets text_lengths reference_of table_of schema_of if_within_limits schema_or_refusal schema_text
schema_read = refl
