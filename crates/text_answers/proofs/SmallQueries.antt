-- The results for small query texts, by computation.
use Rattle.std.proofs.Common.{◌≡◌, [], ◌∷◌, ◌++◌, Some, None, Ok, Err, refl, ap, ◌∙◌}
use Rattle.std.specs.Prelude.{codes}
use Rattle.std.specs.Str.{chars, is_utf8}
use Rattle.std.specs.Str.Lossy.{utf8_valid_len}
use Rattle.ll_grammars.specs.Reading.{read_many, read_tails}
use Rattle.query_grammar.specs.Nesting.{nesting}
use Rattle.query_grammar.specs.Readers.{read_name, read_other_name, read_new_name, read_dotted_name, read_column, read_number, read_literal, read_operand, read_operator, read_negation, read_next_literal, read_literals, read_value_list, read_predicate, read_flat, read_factor, read_next_factor, read_factors, read_term, read_next_term, read_terms, read_cond, read_inside, read_test, read_within, read_condition, read_source, read_join, read_joins, read_part, read_next_part, read_parts, read_dotted_out, read_out, read_next_out, read_listed_outs, read_outs, read_condition_after_where, read_filter, read_query}
use Rattle.sql_tokens.specs.Pieces.{closing_length, identifier, literal, symbol, piece, tokens_at}
use Rattle.sql_tokens.specs.Words.{terminal_of, name_of, literal_text_of, number_of}
use Rattle.query_names.specs.declared.errors.QueryError.TheVariants as error
use Rattle.schema_types.specs.Names.{index_of_name}
use Rattle.query_names.specs.Names.{column_in, entries, from_offences}
use Rattle.query_names.specs.Scopes.{in_scope, entry_named, column_without_alias, resolve, conditions}
use Rattle.query_names.specs.Offences.{name_offences, all_kind_offences}
use Rattle.query_names.specs.Numbers.{number_value, number_offences}
use Rattle.query_names.specs.Values.{conjuncts, outs_of_entry, query_of}
use Rattle.sql_parse.specs.QueryOrRefusal.{long_lists, refusals, query_or_refusal}
use Rattle.text_answers.specs.SmallTexts.{one_column, where_x_is_one}
use Rattle.text_answers.specs.Stages.{tokens_of}
use Rattle.text_answers.specs.QueryTexts.{syntax_tree_of, nested_answer, query_answer}
use Rattle.ll_grammars.specs.declared.terminal.Terminal.TheVariants as terminal
use Rattle.query_grammar.specs.declared.tree.LiteralNode.{LiteralNode}
use Rattle.query_grammar.specs.declared.tree.LiteralNode.TheVariants as literal_text
use Rattle.query_grammar.specs.declared.tree.OperandNode.TheVariants as operand
use Rattle.query_grammar.specs.declared.tree.Op.TheVariants as op
use Rattle.query_grammar.specs.declared.tree.TestNode.{TestNode}
use Rattle.query_grammar.specs.declared.tree.TestNode.TheVariants as test
use Rattle.query_grammar.specs.declared.tree.CondNode.TheVariants as cond
use Rattle.query_grammar.specs.declared.tree.OutNode.TheVariants as out
use Rattle.query_grammar.specs.declared.tree.OutsNode.TheVariants as outs
use Rattle.query_grammar.specs.declared.tree.QueryNode.{QueryNode}
use Rattle.query_grammar.specs.Examples.{token}
use Rattle.query_names.specs.Values.{Meaning}
use Rattle.sql_parse.proofs.KindFacts.{means_test}
use Rattle.query_names.proofs.TestFacts.{tests_test}

-- the syntax tree of SELECT X FROM R WHERE .., with this test
abbrev x_where : TestNode → QueryNode
x_where t = record {
  outs = outs.Listed (out.Column (record { table = None; column = token terminal.Name 7 8 }) None ∷ []);
  parts = record { first = record { table = token terminal.Name 14 15; alias = None }; joins = [] } ∷ [];
  filter = Some (cond.Test t);
}

-- X is at byte 22 of the text
abbrev x_is : LiteralNode → TestNode
x_is l = test.Compare (operand.Column (record { table = None; column = token terminal.Name 22 23 })) op.Eq (operand.Literal l)

abbrev is_one : TestNode
is_one = x_is (literal_text.Number None (token terminal.Number 26 27))

abbrev is_a : TestNode
is_a = x_is (literal_text.Text (token terminal.Text 26 29))

read_whole : query_answer one_column (codes "SELECT X FROM R WHERE X = 1") ≡ query_or_refusal one_column (codes "SELECT X FROM R WHERE X = 1") (x_where is_one)
unfolding query_answer nested_answer syntax_tree_of tokens_of chars is_utf8 utf8_valid_len lib.Utf8.encode closing_length identifier literal symbol piece tokens_at terminal_of name_of literal_text_of number_of read_many read_tails nesting read_name read_other_name read_new_name read_dotted_name read_column read_number read_literal read_operand read_operator read_negation read_next_literal read_literals read_value_list read_predicate read_flat read_factor read_next_factor read_factors read_term read_next_term read_terms read_cond read_inside read_test read_within read_condition read_source read_join read_joins read_part read_next_part read_parts read_dotted_out read_out read_next_out read_listed_outs read_outs read_condition_after_where read_filter read_query number_offences
read_whole = refl

conjuncts_whole : conjuncts one_column (codes "SELECT X FROM R WHERE X = 1") where_x_is_one.from (x_where is_one) ≡ where_x_is_one.conjuncts
unfolding query_answer nested_answer syntax_tree_of tokens_of chars is_utf8 utf8_valid_len lib.Utf8.encode closing_length identifier literal symbol piece tokens_at terminal_of name_of literal_text_of number_of read_many read_tails nesting read_name read_other_name read_new_name read_dotted_name read_column read_number read_literal read_operand read_operator read_negation read_next_literal read_literals read_value_list read_predicate read_flat read_factor read_next_factor read_factors read_term read_next_term read_terms read_cond read_inside read_test read_within read_condition read_source read_join read_joins read_part read_next_part read_parts read_dotted_out read_out read_next_out read_listed_outs read_outs read_condition_after_where read_filter read_query index_of_name column_in entries from_offences in_scope entry_named column_without_alias resolve conditions name_offences all_kind_offences number_value number_offences conjuncts outs_of_entry query_of long_lists refusals query_or_refusal
conjuncts_whole = ap (λ (m : Meaning). m.members ++ []) (means_test one_column (codes "SELECT X FROM R WHERE X = 1") where_x_is_one.from (record { first = 0; end = 1 }) is_one)

bound_whole : query_or_refusal one_column (codes "SELECT X FROM R WHERE X = 1") (x_where is_one) ≡ Ok where_x_is_one
unfolding query_answer nested_answer syntax_tree_of tokens_of chars is_utf8 utf8_valid_len lib.Utf8.encode closing_length identifier literal symbol piece tokens_at terminal_of name_of literal_text_of number_of read_many read_tails nesting read_name read_other_name read_new_name read_dotted_name read_column read_number read_literal read_operand read_operator read_negation read_next_literal read_literals read_value_list read_predicate read_flat read_factor read_next_factor read_factors read_term read_next_term read_terms read_cond read_inside read_test read_within read_condition read_source read_join read_joins read_part read_next_part read_parts read_dotted_out read_out read_next_out read_listed_outs read_outs read_condition_after_where read_filter read_query index_of_name column_in entries from_offences in_scope entry_named column_without_alias resolve conditions name_offences all_kind_offences number_value number_offences outs_of_entry query_of long_lists refusals query_or_refusal
bound_whole = rw (tests_test is_one, conjuncts_whole) refl

pub whole : query_answer one_column (codes "SELECT X FROM R WHERE X = 1") ≡ Ok where_x_is_one
whole = read_whole ∙ bound_whole

read_other_kind : query_answer one_column (codes "SELECT X FROM R WHERE X = 'a'") ≡ query_or_refusal one_column (codes "SELECT X FROM R WHERE X = 'a'") (x_where is_a)
unfolding query_answer nested_answer syntax_tree_of tokens_of chars is_utf8 utf8_valid_len lib.Utf8.encode closing_length identifier literal symbol piece tokens_at terminal_of name_of literal_text_of number_of read_many read_tails nesting read_name read_other_name read_new_name read_dotted_name read_column read_number read_literal read_operand read_operator read_negation read_next_literal read_literals read_value_list read_predicate read_flat read_factor read_next_factor read_factors read_term read_next_term read_terms read_cond read_inside read_test read_within read_condition read_source read_join read_joins read_part read_next_part read_parts read_dotted_out read_out read_next_out read_listed_outs read_outs read_condition_after_where read_filter read_query number_offences
read_other_kind = refl

bound_other_kind : query_or_refusal one_column (codes "SELECT X FROM R WHERE X = 'a'") (x_where is_a) ≡ Err (error.Kind 26)
unfolding query_answer nested_answer syntax_tree_of tokens_of chars is_utf8 utf8_valid_len lib.Utf8.encode closing_length identifier literal symbol piece tokens_at terminal_of name_of literal_text_of number_of read_many read_tails nesting read_name read_other_name read_new_name read_dotted_name read_column read_number read_literal read_operand read_operator read_negation read_next_literal read_literals read_value_list read_predicate read_flat read_factor read_next_factor read_factors read_term read_next_term read_terms read_cond read_inside read_test read_within read_condition read_source read_join read_joins read_part read_next_part read_parts read_dotted_out read_out read_next_out read_listed_outs read_outs read_condition_after_where read_filter read_query index_of_name column_in entries from_offences in_scope entry_named column_without_alias resolve conditions name_offences all_kind_offences number_value number_offences conjuncts outs_of_entry query_of long_lists refusals query_or_refusal
bound_other_kind = rw (tests_test is_a) refl

pub other_kind : query_answer one_column (codes "SELECT X FROM R WHERE X = 'a'") ≡ Err (error.Kind 26)
other_kind = read_other_kind ∙ bound_other_kind

pub number_first : query_answer one_column (codes "SELECT X FROM R WHERE X = 9223372036854775808 )") ≡ Err (error.Syntax 26)
unfolding query_answer nested_answer syntax_tree_of tokens_of chars is_utf8 utf8_valid_len lib.Utf8.encode closing_length identifier literal symbol piece tokens_at terminal_of name_of literal_text_of number_of read_many read_tails nesting read_name read_other_name read_new_name read_dotted_name read_column read_number read_literal read_operand read_operator read_negation read_next_literal read_literals read_value_list read_predicate read_flat read_factor read_next_factor read_factors read_term read_next_term read_terms read_cond read_inside read_test read_within read_condition read_source read_join read_joins read_part read_next_part read_parts read_dotted_out read_out read_next_out read_listed_outs read_outs read_condition_after_where read_filter read_query index_of_name column_in entries from_offences in_scope entry_named column_without_alias resolve conditions name_offences all_kind_offences number_value number_offences conjuncts outs_of_entry query_of long_lists refusals query_or_refusal
number_first = refl

pub from_first : query_answer one_column (codes "SELECT Y FROM R, R") ≡ Err (error.Name 17)
unfolding query_answer nested_answer syntax_tree_of tokens_of chars is_utf8 utf8_valid_len lib.Utf8.encode closing_length identifier literal symbol piece tokens_at terminal_of name_of literal_text_of number_of read_many read_tails nesting read_name read_other_name read_new_name read_dotted_name read_column read_number read_literal read_operand read_operator read_negation read_next_literal read_literals read_value_list read_predicate read_flat read_factor read_next_factor read_factors read_term read_next_term read_terms read_cond read_inside read_test read_within read_condition read_source read_join read_joins read_part read_next_part read_parts read_dotted_out read_out read_next_out read_listed_outs read_outs read_condition_after_where read_filter read_query index_of_name column_in entries from_offences in_scope entry_named column_without_alias resolve conditions name_offences all_kind_offences number_value number_offences conjuncts outs_of_entry query_of long_lists refusals query_or_refusal
from_first = refl

pub of_two_entries : query_answer one_column (codes "SELECT X FROM R, R S") ≡ Err (error.Name 7)
unfolding query_answer nested_answer syntax_tree_of tokens_of chars is_utf8 utf8_valid_len lib.Utf8.encode closing_length identifier literal symbol piece tokens_at terminal_of name_of literal_text_of number_of read_many read_tails nesting read_name read_other_name read_new_name read_dotted_name read_column read_number read_literal read_operand read_operator read_negation read_next_literal read_literals read_value_list read_predicate read_flat read_factor read_next_factor read_factors read_term read_next_term read_terms read_cond read_inside read_test read_within read_condition read_source read_join read_joins read_part read_next_part read_parts read_dotted_out read_out read_next_out read_listed_outs read_outs read_condition_after_where read_filter read_query index_of_name column_in entries from_offences in_scope entry_named column_without_alias resolve conditions name_offences all_kind_offences number_value number_offences conjuncts outs_of_entry query_of long_lists refusals query_or_refusal
of_two_entries = refl
