-- The parser's answers for small texts, by computation.
use Rattle.std.proofs.Common.{◌≡◌, ◌≤◌, Some, None, List, [], ◌∷◌, refl, arith}
use Rattle.ll_grammars.specs.declared.lexeme.Lexeme.{Lexeme}
use Rattle.ll_grammars.specs.declared.terminal.Terminal.TheVariants as terminal
use Rattle.ll_grammars.specs.Reading.{read_many}
use Rattle.ll_grammars.specs.Places.{IsSyntaxErrorAt}
use Rattle.query_grammar.specs.Nesting.{nesting}
use Rattle.query_grammar.specs.Grammar.{QuerySpecification}
use Rattle.query_grammar.specs.Readers.{read_name, read_other_name, read_new_name, read_dotted_name, read_column, read_number, read_literal, read_operand, read_operator, read_negation, read_next_literal, read_literals, read_value_list, read_predicate, read_flat, read_factor, read_next_factor, read_factors, read_term, read_next_term, read_terms, read_cond, read_inside, read_test, read_within, read_source, read_join, read_joins, read_part, read_next_part, read_parts, read_dotted_out, read_out, read_next_out, read_listed_outs, read_outs, read_condition_after_where, read_filter, read_query}
use Rattle.query_grammar.specs.Examples.{token, precedence, precedence_tree, grouped, grouped_tree, not_twice, inner_alone}
use Rattle.query_grammar.proofs.Whole.{spelled, wrong_at}

read_precedence : read_query (read_within 0) precedence ≡ (Some precedence_tree, [])
unfolding read_many nesting read_name read_other_name read_new_name read_dotted_name read_column read_number read_literal read_operand read_operator read_negation read_next_literal read_literals read_value_list read_predicate read_flat read_factor read_next_factor read_factors read_term read_next_term read_terms read_cond read_inside read_test read_within read_source read_join read_joins read_part read_next_part read_parts read_dotted_out read_out read_next_out read_listed_outs read_outs read_condition_after_where read_filter read_query
read_precedence = refl

read_grouped : read_query (read_within 1) grouped ≡ (Some grouped_tree, [])
unfolding read_many nesting read_name read_other_name read_new_name read_dotted_name read_column read_number read_literal read_operand read_operator read_negation read_next_literal read_literals read_value_list read_predicate read_flat read_factor read_next_factor read_factors read_term read_next_term read_terms read_cond read_inside read_test read_within read_source read_join read_joins read_part read_next_part read_parts read_dotted_out read_out read_next_out read_listed_outs read_outs read_condition_after_where read_filter read_query
read_grouped = refl

abbrev second_not : List Lexeme
second_not = token terminal.Not 26 29 ∷ token terminal.Name 30 31 ∷ token terminal.Equal 31 32 ∷ token terminal.Number 32 33 ∷ []

abbrev a_name : List Lexeme
a_name = token terminal.Name 22 23 ∷ []

read_not_twice : read_query (read_within 0) not_twice ≡ (None, second_not)
unfolding read_many nesting read_name read_other_name read_new_name read_dotted_name read_column read_number read_literal read_operand read_operator read_negation read_next_literal read_literals read_value_list read_predicate read_flat read_factor read_next_factor read_factors read_term read_next_term read_terms read_cond read_inside read_test read_within read_source read_join read_joins read_part read_next_part read_parts read_dotted_out read_out read_next_out read_listed_outs read_outs read_condition_after_where read_filter read_query
read_not_twice = refl

read_inner_alone : read_query (read_within 0) inner_alone ≡ (None, a_name)
unfolding read_many nesting read_name read_other_name read_new_name read_dotted_name read_column read_number read_literal read_operand read_operator read_negation read_next_literal read_literals read_value_list read_predicate read_flat read_factor read_next_factor read_factors read_term read_next_term read_terms read_cond read_inside read_test read_within read_source read_join read_joins read_part read_next_part read_parts read_dotted_out read_out read_next_out read_listed_outs read_outs read_condition_after_where read_filter read_query
read_inner_alone = refl

precedence_nesting : nesting precedence ≤ 0
unfolding nesting
precedence_nesting = omega arith

grouped_nesting : nesting grouped ≤ 1
unfolding nesting
grouped_nesting = omega arith

not_twice_nesting : nesting not_twice ≤ 0
unfolding nesting
not_twice_nesting = omega arith

inner_alone_nesting : nesting inner_alone ≤ 0
unfolding nesting
inner_alone_nesting = omega arith

pub precedence_spells : QuerySpecification precedence precedence_tree
precedence_spells = spelled 0 precedence precedence_tree [] precedence_nesting read_precedence refl

pub grouped_spells : QuerySpecification grouped grouped_tree
grouped_spells = spelled 1 grouped grouped_tree [] grouped_nesting read_grouped refl

pub not_twice_wrong : IsSyntaxErrorAt QuerySpecification not_twice 33 26
not_twice_wrong = wrong_at 0 not_twice second_not 33 26 not_twice_nesting read_not_twice refl

pub inner_alone_wrong : IsSyntaxErrorAt QuerySpecification inner_alone 23 22
inner_alone_wrong = wrong_at 0 inner_alone a_name 23 22 inner_alone_nesting read_inner_alone refl
