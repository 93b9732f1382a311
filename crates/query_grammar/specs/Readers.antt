-- A parser for each rule of the grammar, with one token of look-ahead. If the alternatives of a rule begin with the same part, this part is read
-- first. Each alternative then gives a function, which is applied to the value of this part.
use Rattle.std.specs.Prelude.{ℕ, zero, suc, Bool, Option, Some, None, List, [], ◌∷◌}
use Rattle.ll_grammars.specs.declared.lexeme.Lexeme.{Lexeme}
use Rattle.ll_grammars.specs.declared.terminal.Terminal.{Terminal}
use Rattle.ll_grammars.specs.declared.terminal.Terminal.TheVariants as terminal
use Rattle.ll_grammars.specs.Reading.{Parser, read_one, read_then, read_mapped, read_either, read_maybe, read_many}
use Rattle.ll_grammars.specs.Rules.{first_and_others, second, read_word, read_in_parentheses}
use Rattle.query_grammar.specs.declared.tree.ColumnNode.{ColumnNode}
use Rattle.query_grammar.specs.declared.tree.LiteralNode.{LiteralNode}
use Rattle.query_grammar.specs.declared.tree.OperandNode.{OperandNode}
use Rattle.query_grammar.specs.declared.tree.Op.{Op}
use Rattle.query_grammar.specs.declared.tree.Op.TheVariants as op
use Rattle.query_grammar.specs.declared.tree.TestNode.{TestNode}
use Rattle.query_grammar.specs.declared.tree.TestNode.TheVariants as test
use Rattle.query_grammar.specs.declared.tree.CondNode.{CondNode}
use Rattle.query_grammar.specs.declared.tree.SourceNode.{SourceNode}
use Rattle.query_grammar.specs.declared.tree.JoinedNode.{JoinedNode}
use Rattle.query_grammar.specs.declared.tree.FromItemNode.{FromItemNode}
use Rattle.query_grammar.specs.declared.tree.OutNode.{OutNode}
use Rattle.query_grammar.specs.declared.tree.OutNode.TheVariants as out
use Rattle.query_grammar.specs.declared.tree.OutsNode.{OutsNode}
use Rattle.query_grammar.specs.declared.tree.QueryNode.{QueryNode}
use Rattle.query_grammar.specs.Values.{is_written, constant, column, number, text, of_column, of_literal, tested, negate, all_of, any_of, source, join, part, everything, these_outs, query}
use Rattle.query_grammar.specs.Nesting.{nesting}
use Rattle.query_grammar.specs.Grammar.{name_terminals, sign_terminals, digit_terminals}

-- ---- the value of an alternative, as a function of the value of the common beginning

abbrev pub apply_to_beginning : {A B : Type 0} → A × (A → B) → B
apply_to_beginning parts = parts.1 parts.0

-- an operator and the right operand are read after the left operand
abbrev pub compare : Op × OperandNode → OperandNode → TestNode
compare parts left = test.Compare left parts.0 parts.1

-- BETWEEN, the lower end, AND and the upper end are read after the operand and an optional NOT
abbrev pub ranged : Lexeme × (OperandNode × (Lexeme × OperandNode)) → Bool → OperandNode → TestNode
ranged parts negated operand = test.Between operand negated parts.1.0 parts.1.1.1

-- IN and the values are read after the operand and an optional NOT
abbrev pub listed_in : Lexeme × List LiteralNode → Bool → OperandNode → TestNode
listed_in parts negated operand = test.In operand negated parts.1

-- the star is read after the table's name and the dot
abbrev pub star_of : Lexeme → Lexeme → OutNode
star_of star table = out.All table

-- the column's name and an optional new name are read after the table's name and the dot
abbrev pub qualified : Lexeme × Option Lexeme → Lexeme → OutNode
qualified parts table = out.Column (record { table = Some table; column = parts.0 }) parts.1

-- an optional new name is read after the column's name
abbrev pub plain : Option Lexeme → Lexeme → OutNode
plain name column = out.Column (record { table = None; column = column }) name

-- ---- terminals with which a rule may begin

abbrev pub new_name_first : List Terminal
new_name_first = terminal.As ∷ name_terminals

abbrev pub number_first : List Terminal
number_first = terminal.Plus ∷ terminal.Minus ∷ digit_terminals

abbrev pub operator_terminals : List Terminal
operator_terminals =
    terminal.Equal ∷ terminal.NotEqual ∷ terminal.Less ∷ terminal.LessOrEqual ∷ terminal.Greater ∷ terminal.GreaterOrEqual ∷ []

abbrev pub join_first : List Terminal
join_first = terminal.Inner ∷ terminal.Join ∷ []

-- ---- names, columns, literals

unfoldable pub read_name : Parser Lexeme
read_name = read_one name_terminals

unfoldable pub read_other_name : Parser Lexeme
read_other_name = read_mapped second (read_then (read_maybe (terminal.As ∷ []) (read_word terminal.As)) read_name)

unfoldable pub read_new_name : Parser (Option Lexeme)
read_new_name = read_maybe new_name_first read_other_name

unfoldable pub read_dotted_name : Parser Lexeme
read_dotted_name = read_mapped second (read_then (read_word terminal.Dot) read_name)

unfoldable pub read_column : Parser ColumnNode
read_column = read_mapped column (read_then read_name (read_maybe (terminal.Dot ∷ []) read_dotted_name))

unfoldable pub read_number : Parser LiteralNode
read_number = read_mapped number (read_then (read_maybe sign_terminals (read_one sign_terminals)) (read_one digit_terminals))

unfoldable pub read_literal : Parser LiteralNode
read_literal = read_either number_first read_number (read_mapped text (read_word terminal.Text))

-- ---- tests

unfoldable pub read_operand : Parser OperandNode
read_operand = read_either name_terminals (read_mapped of_column read_column) (read_mapped of_literal read_literal)

abbrev pub read_constant : Terminal → Op → Parser Op
read_constant t value = read_mapped (constant value) (read_word t)

unfoldable pub read_operator : Parser Op
read_operator = read_either (terminal.Equal ∷ []) (read_constant terminal.Equal op.Eq)
    (read_either (terminal.NotEqual ∷ []) (read_constant terminal.NotEqual op.Ne)
    (read_either (terminal.Less ∷ []) (read_constant terminal.Less op.Lt)
    (read_either (terminal.LessOrEqual ∷ []) (read_constant terminal.LessOrEqual op.Le)
    (read_either (terminal.Greater ∷ []) (read_constant terminal.Greater op.Gt)
    (read_constant terminal.GreaterOrEqual op.Ge)))))

unfoldable pub read_negation : Parser Bool
read_negation = read_mapped is_written (read_maybe (terminal.Not ∷ []) (read_word terminal.Not))

unfoldable pub read_next_literal : Parser LiteralNode
read_next_literal = read_mapped second (read_then (read_word terminal.Comma) read_literal)

unfoldable pub read_literals : Parser (List LiteralNode)
read_literals = read_mapped first_and_others (read_then read_literal (read_many (terminal.Comma ∷ []) read_next_literal))

unfoldable pub read_value_list : Parser (List LiteralNode)
read_value_list = read_in_parentheses read_literals

unfoldable pub read_predicate : Parser TestNode
read_predicate =
    read_mapped apply_to_beginning (read_then read_operand (read_either operator_terminals
    (read_mapped compare (read_then read_operator read_operand))
    (read_mapped apply_to_beginning (read_then read_negation (read_either (terminal.Between ∷ [])
    (read_mapped ranged (read_then (read_word terminal.Between)
    (read_then read_operand (read_then (read_word terminal.And) read_operand))))
    (read_mapped listed_in (read_then (read_word terminal.In) read_value_list)))))))

unfoldable pub read_flat : Parser CondNode
read_flat = read_mapped tested read_predicate

-- ---- conditions. The parser `t` reads a test

unfoldable pub read_factor : Parser CondNode → Parser CondNode
read_factor t = read_mapped negate (read_then read_negation t)

unfoldable pub read_next_factor : Parser CondNode → Parser CondNode
read_next_factor t = read_mapped second (read_then (read_word terminal.And) (read_factor t))

unfoldable pub read_factors : Parser CondNode → Parser (List CondNode)
read_factors t = read_mapped first_and_others (read_then (read_factor t) (read_many (terminal.And ∷ []) (read_next_factor t)))

unfoldable pub read_term : Parser CondNode → Parser CondNode
read_term t = read_mapped all_of (read_factors t)

unfoldable pub read_next_term : Parser CondNode → Parser CondNode
read_next_term t = read_mapped second (read_then (read_word terminal.Or) (read_term t))

unfoldable pub read_terms : Parser CondNode → Parser (List CondNode)
read_terms t = read_mapped first_and_others (read_then (read_term t) (read_many (terminal.Or ∷ []) (read_next_term t)))

unfoldable pub read_cond : Parser CondNode → Parser CondNode
read_cond t = read_mapped any_of (read_terms t)

unfoldable pub read_inside : Parser CondNode → Parser CondNode
read_inside t = read_in_parentheses (read_cond t)

-- a test in which parentheses are nested at most n deep
unfoldable pub read_test : ℕ → Parser CondNode
read_test zero = read_flat
read_test (suc n) = read_either (terminal.Open ∷ []) (read_inside (read_test n)) read_flat

unfoldable pub read_within : ℕ → Parser CondNode
read_within n = read_cond (read_test n)

-- a condition, where parentheses may be nested as deep as they are in the tokens
unfoldable pub read_condition : Parser CondNode
read_condition text = read_within (nesting text) text

-- ---- queries. The parser `c` reads a condition

unfoldable pub read_source : Parser SourceNode
read_source = read_mapped source (read_then read_name read_new_name)

unfoldable pub read_join : Parser CondNode → Parser JoinedNode
read_join c =
    read_mapped join (read_then (read_maybe (terminal.Inner ∷ []) (read_word terminal.Inner))
    (read_then (read_word terminal.Join) (read_then read_source (read_then (read_word terminal.On) c))))

unfoldable pub read_joins : Parser CondNode → Parser (List JoinedNode)
read_joins c = read_many join_first (read_join c)

unfoldable pub read_part : Parser CondNode → Parser FromItemNode
read_part c = read_mapped part (read_then read_source (read_joins c))

unfoldable pub read_next_part : Parser CondNode → Parser FromItemNode
read_next_part c = read_mapped second (read_then (read_word terminal.Comma) (read_part c))

unfoldable pub read_parts : Parser CondNode → Parser (List FromItemNode)
read_parts c = read_mapped first_and_others (read_then (read_part c) (read_many (terminal.Comma ∷ []) (read_next_part c)))

unfoldable pub read_dotted_out : Parser (Lexeme → OutNode)
read_dotted_out =
    read_mapped second (read_then (read_word terminal.Dot) (read_either (terminal.Star ∷ [])
    (read_mapped star_of (read_word terminal.Star))
    (read_mapped qualified (read_then read_name read_new_name))))

unfoldable pub read_out : Parser OutNode
read_out = read_mapped apply_to_beginning (read_then read_name (read_either (terminal.Dot ∷ []) read_dotted_out (read_mapped plain read_new_name)))

unfoldable pub read_next_out : Parser OutNode
read_next_out = read_mapped second (read_then (read_word terminal.Comma) read_out)

unfoldable pub read_listed_outs : Parser (List OutNode)
read_listed_outs = read_mapped first_and_others (read_then read_out (read_many (terminal.Comma ∷ []) read_next_out))

unfoldable pub read_outs : Parser OutsNode
read_outs = read_either (terminal.Star ∷ []) (read_mapped everything (read_word terminal.Star)) (read_mapped these_outs read_listed_outs)

unfoldable pub read_condition_after_where : Parser CondNode → Parser CondNode
read_condition_after_where c = read_mapped second (read_then (read_word terminal.Where) c)

unfoldable pub read_filter : Parser CondNode → Parser (Option CondNode)
read_filter c = read_maybe (terminal.Where ∷ []) (read_condition_after_where c)

unfoldable pub read_query : Parser CondNode → Parser QueryNode
read_query c =
    read_mapped query (read_then (read_word terminal.Select) (read_then read_outs
    (read_then (read_word terminal.From) (read_then (read_parts c)
    (read_then (read_filter c) (read_maybe (terminal.Semicolon ∷ []) (read_word terminal.Semicolon)))))))
