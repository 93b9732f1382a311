-- What the query texts are read as, proved by computation.
use Rattle.std.proofs.Common.{◌≡◌, List, [], ◌∷◌, ◌++◌, Some, None, Ok, refl, ap, ◌∙◌}
use Rattle.std.specs.Str.{chars, is_utf8}
use Rattle.std.specs.Str.Lossy.{utf8_valid_len}
use Rattle.ll_grammars.specs.Reading.{read_many, read_tails}
use Rattle.query_grammar.specs.Nesting.{nesting}
use Rattle.query_grammar.specs.Readers.{read_name, read_other_name, read_new_name, read_dotted_name, read_column, read_number, read_literal, read_operand, read_operator, read_negation, read_next_literal, read_literals, read_value_list, read_predicate, read_flat, read_factor, read_next_factor, read_factors, read_term, read_next_term, read_terms, read_cond, read_inside, read_test, read_within, read_condition, read_source, read_join, read_joins, read_part, read_next_part, read_parts, read_dotted_out, read_out, read_next_out, read_listed_outs, read_outs, read_condition_after_where, read_filter, read_query}
use Rattle.sql_tokens.specs.Pieces.{closing_length, identifier, literal, symbol, piece, tokens_at}
use Rattle.sql_tokens.specs.Words.{terminal_of, name_of, literal_text_of, number_of}
use Rattle.schema_types.specs.Names.{index_of_name}
use Rattle.query_names.specs.Names.{column_in, entries, from_offences}
use Rattle.query_names.specs.Scopes.{in_scope, entry_named, column_without_alias, resolve, conditions}
use Rattle.query_names.specs.Offences.{name_offences, all_kind_offences}
use Rattle.query_names.specs.Numbers.{number_value, number_offences}
use Rattle.query_names.specs.Values.{conjuncts, outs_of_entry, query_of}
use Rattle.sql_parse.specs.QueryOrRefusal.{long_lists, refusals, query_or_refusal}
use Rattle.text_answers.specs.Stages.{tokens_of}
use Rattle.text_answers.specs.QueryTexts.{syntax_tree_of, nested_answer, query_answer}
use Rattle.ll_grammars.specs.declared.terminal.Terminal.TheVariants as terminal
use Rattle.query_grammar.specs.declared.tree.LiteralNode.TheVariants as literal_text
use Rattle.query_grammar.specs.declared.tree.OperandNode.TheVariants as operand
use Rattle.query_grammar.specs.declared.tree.Op.TheVariants as op
use Rattle.query_grammar.specs.declared.tree.TestNode.{TestNode}
use Rattle.query_grammar.specs.declared.tree.TestNode.TheVariants as test
use Rattle.query_grammar.specs.declared.tree.CondNode.{CondNode}
use Rattle.query_grammar.specs.declared.tree.CondNode.TheVariants as cond
use Rattle.query_grammar.specs.declared.tree.OutNode.TheVariants as out
use Rattle.query_grammar.specs.declared.tree.OutsNode.TheVariants as outs
use Rattle.query_grammar.specs.declared.tree.QueryNode.{QueryNode}
use Rattle.query_grammar.specs.Examples.{token}
use Rattle.query_names.specs.Values.{Meaning, all_of, meaning, test_meaning}
use Rattle.sql_parse.proofs.KindFacts.{means_and, means_test}
use Rattle.query_names.proofs.TestFacts.{tests_and, tests_test}
use Rattle.table_files.specs.Examples.{two_tables}
use Rattle.query_bounds.specs.Examples.{two_table_query}
use Rattle.key_bounds.specs.Examples.{manager_query, worker_schema}
use Rattle.query_names.specs.declared.scope.Scope.{Scope}
use Rattle.worked_run.specs.OneTable.{workers_query}
use Rattle.worked_run.specs.TwoTables.{query_text}

-- the condition R.X = S.X, after WHERE
abbrev is_joined : TestNode
is_joined = test.Compare (operand.Column (record { table = Some (token terminal.Name 27 28); column = token terminal.Name 29 30 }))
    op.Eq (operand.Column (record { table = Some (token terminal.Name 33 34); column = token terminal.Name 35 36 }))

-- the syntax tree of the whole text
abbrev tree : QueryNode
tree = record {
  outs = outs.Listed (out.Column (record { table = Some (token terminal.Name 7 8); column = token terminal.Name 9 10 }) None ∷ []);
  parts = record { first = record { table = token terminal.Name 16 17; alias = None }; joins = [] }
      ∷ record { first = record { table = token terminal.Name 19 20; alias = None }; joins = [] } ∷ [];
  filter = Some (cond.Test is_joined);
}

text_has_tree : query_answer two_tables query_text ≡ query_or_refusal two_tables query_text tree
unfolding query_answer nested_answer syntax_tree_of tokens_of chars is_utf8 utf8_valid_len lib.Utf8.encode closing_length identifier literal symbol piece tokens_at terminal_of name_of literal_text_of number_of read_many read_tails nesting read_name read_other_name read_new_name read_dotted_name read_column read_number read_literal read_operand read_operator read_negation read_next_literal read_literals read_value_list read_predicate read_flat read_factor read_next_factor read_factors read_term read_next_term read_terms read_cond read_inside read_test read_within read_condition read_source read_join read_joins read_part read_next_part read_parts read_dotted_out read_out read_next_out read_listed_outs read_outs read_condition_after_where read_filter read_query number_offences query_text
text_has_tree = refl

conjuncts_of_tree : conjuncts two_tables query_text two_table_query.from tree ≡ two_table_query.conjuncts
unfolding query_answer nested_answer syntax_tree_of tokens_of chars is_utf8 utf8_valid_len lib.Utf8.encode closing_length identifier literal symbol piece tokens_at terminal_of name_of literal_text_of number_of read_many read_tails nesting read_name read_other_name read_new_name read_dotted_name read_column read_number read_literal read_operand read_operator read_negation read_next_literal read_literals read_value_list read_predicate read_flat read_factor read_next_factor read_factors read_term read_next_term read_terms read_cond read_inside read_test read_within read_condition read_source read_join read_joins read_part read_next_part read_parts read_dotted_out read_out read_next_out read_listed_outs read_outs read_condition_after_where read_filter read_query index_of_name column_in entries from_offences in_scope entry_named column_without_alias resolve conditions name_offences all_kind_offences number_value number_offences conjuncts outs_of_entry query_of long_lists refusals query_or_refusal query_text
conjuncts_of_tree = ap (λ (m : Meaning). m.members ++ []) (means_test two_tables query_text two_table_query.from (record { first = 0; end = 2 }) is_joined)

tree_means_query : query_or_refusal two_tables query_text tree ≡ Ok two_table_query
unfolding query_answer nested_answer syntax_tree_of tokens_of chars is_utf8 utf8_valid_len lib.Utf8.encode closing_length identifier literal symbol piece tokens_at terminal_of name_of literal_text_of number_of read_many read_tails nesting read_name read_other_name read_new_name read_dotted_name read_column read_number read_literal read_operand read_operator read_negation read_next_literal read_literals read_value_list read_predicate read_flat read_factor read_next_factor read_factors read_term read_next_term read_terms read_cond read_inside read_test read_within read_condition read_source read_join read_joins read_part read_next_part read_parts read_dotted_out read_out read_next_out read_listed_outs read_outs read_condition_after_where read_filter read_query index_of_name column_in entries from_offences in_scope entry_named column_without_alias resolve conditions name_offences all_kind_offences number_value number_offences outs_of_entry query_of long_lists refusals query_or_refusal query_text
tree_means_query = rw (tests_test is_joined, conjuncts_of_tree) refl

pub query_read : query_answer two_tables query_text ≡ Ok two_table_query
query_read = text_has_tree ∙ tree_means_query

-- ---- the query on workers and their bosses

-- the conditions E.B = M.N and M.R = 3
abbrev is_boss : TestNode
is_boss = test.Compare (operand.Column (record { table = Some (token terminal.Name 37 38); column = token terminal.Name 39 40 }))
    op.Eq (operand.Column (record { table = Some (token terminal.Name 43 44); column = token terminal.Name 45 46 }))

abbrev is_of_region : TestNode
is_of_region = test.Compare (operand.Column (record { table = Some (token terminal.Name 51 52); column = token terminal.Name 53 54 }))
    op.Eq (operand.Literal (literal_text.Number None (token terminal.Number 57 58)))

abbrev both_tests : List CondNode
both_tests = cond.Test is_boss ∷ cond.Test is_of_region ∷ []

abbrev workers_tree : QueryNode
workers_tree = record {
  outs = outs.Listed (out.Column (record { table = Some (token terminal.Name 7 8); column = token terminal.Name 9 10 }) None ∷ []);
  parts = record { first = record { table = token terminal.Name 16 17; alias = Some (token terminal.Name 21 22) }; joins = [] }
      ∷ record { first = record { table = token terminal.Name 24 25; alias = Some (token terminal.Name 29 30) }; joins = [] } ∷ [];
  filter = Some (cond.And both_tests);
}

workers_spelled : query_answer worker_schema workers_query ≡ query_or_refusal worker_schema workers_query workers_tree
unfolding query_answer nested_answer syntax_tree_of tokens_of chars is_utf8 utf8_valid_len lib.Utf8.encode closing_length identifier literal symbol piece tokens_at terminal_of name_of literal_text_of number_of read_many read_tails nesting read_name read_other_name read_new_name read_dotted_name read_column read_number read_literal read_operand read_operator read_negation read_next_literal read_literals read_value_list read_predicate read_flat read_factor read_next_factor read_factors read_term read_next_term read_terms read_cond read_inside read_test read_within read_condition read_source read_join read_joins read_part read_next_part read_parts read_dotted_out read_out read_next_out read_listed_outs read_outs read_condition_after_where read_filter read_query number_offences workers_query
workers_spelled = refl

abbrev whole_scope : Scope
whole_scope = record { first = 0; end = 2 }

abbrev meaning_of_cond : CondNode → Meaning
meaning_of_cond = meaning worker_schema workers_query manager_query.from whole_scope

abbrev meaning_of_test : TestNode → Meaning
meaning_of_test = test_meaning worker_schema workers_query manager_query.from whole_scope

both_mean : meaning_of_cond (cond.And both_tests) ≡ all_of (meaning_of_test is_boss ∷ meaning_of_test is_of_region ∷ [])
both_mean =
    means_and worker_schema workers_query manager_query.from whole_scope both_tests
    ∙ ap (λ (m : Meaning). all_of (m ∷ meaning_of_cond (cond.Test is_of_region) ∷ [])) (means_test worker_schema workers_query manager_query.from whole_scope is_boss)
    ∙ ap (λ (m : Meaning). all_of (meaning_of_test is_boss ∷ m ∷ [])) (means_test worker_schema workers_query manager_query.from whole_scope is_of_region)

workers_conjoined : conjuncts worker_schema workers_query manager_query.from workers_tree ≡ manager_query.conjuncts
unfolding query_answer nested_answer syntax_tree_of tokens_of chars is_utf8 utf8_valid_len lib.Utf8.encode closing_length identifier literal symbol piece tokens_at terminal_of name_of literal_text_of number_of read_many read_tails nesting read_name read_other_name read_new_name read_dotted_name read_column read_number read_literal read_operand read_operator read_negation read_next_literal read_literals read_value_list read_predicate read_flat read_factor read_next_factor read_factors read_term read_next_term read_terms read_cond read_inside read_test read_within read_condition read_source read_join read_joins read_part read_next_part read_parts read_dotted_out read_out read_next_out read_listed_outs read_outs read_condition_after_where read_filter read_query index_of_name column_in entries from_offences in_scope entry_named column_without_alias resolve conditions name_offences all_kind_offences number_value number_offences conjuncts outs_of_entry query_of long_lists refusals query_or_refusal workers_query
workers_conjoined = ap (λ (m : Meaning). m.members ++ []) both_mean

workers_meant : query_or_refusal worker_schema workers_query workers_tree ≡ Ok manager_query
unfolding query_answer nested_answer syntax_tree_of tokens_of chars is_utf8 utf8_valid_len lib.Utf8.encode closing_length identifier literal symbol piece tokens_at terminal_of name_of literal_text_of number_of read_many read_tails nesting read_name read_other_name read_new_name read_dotted_name read_column read_number read_literal read_operand read_operator read_negation read_next_literal read_literals read_value_list read_predicate read_flat read_factor read_next_factor read_factors read_term read_next_term read_terms read_cond read_inside read_test read_within read_condition read_source read_join read_joins read_part read_next_part read_parts read_dotted_out read_out read_next_out read_listed_outs read_outs read_condition_after_where read_filter read_query index_of_name column_in entries from_offences in_scope entry_named column_without_alias resolve conditions name_offences all_kind_offences number_value number_offences outs_of_entry query_of long_lists refusals query_or_refusal workers_query
workers_meant = rw (tests_and both_tests, tests_test is_boss, tests_test is_of_region, workers_conjoined) refl

pub workers_query_read : query_answer worker_schema workers_query ≡ Ok manager_query
workers_query_read = workers_spelled ∙ workers_meant
