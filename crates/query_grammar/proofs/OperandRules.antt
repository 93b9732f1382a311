-- The parsers of names, columns, literals, operands and operators read their rules.
use Rattle.std.proofs.Common.{refl}
use Rattle.ll_grammars.specs.declared.terminal.Terminal.TheVariants as terminal
use Rattle.ll_grammars.specs.Language.{one, ◌▸◌, mapped, maybe}
use Rattle.ll_grammars.specs.Parses.{FirstAndFollow, Parses}
use Rattle.ll_grammars.specs.Rules.{first_and_others, second, word, listed}
use Rattle.ll_grammars.proofs.Steps.{one_shape, then_shape, either_shape, maybe_shape, reads_one}
use Rattle.ll_grammars.proofs.Combined.{in_sequence, with_value, choice, option, repeat, a_word, parenthesized, some_token, word_shape, next_shape, listed_shape, parentheses_shape}
use Rattle.query_grammar.specs.declared.tree.Op.TheVariants as op
use Rattle.query_grammar.specs.Values.{is_written, constant, column, number, text, of_column, of_literal}
use Rattle.query_grammar.specs.Grammar.{name_terminals, sign_terminals, digit_terminals, Name, NewName, ColumnReference, Literal, Operand, ComparisonOperator, Negation, InValueList}
use Rattle.query_grammar.specs.Readers.{read_name, read_other_name, read_new_name, read_dotted_name, read_column, read_number, read_literal, read_operand, read_operator, read_negation, read_next_literal, read_literals, read_value_list}

abbrev pub name_shape : FirstAndFollow
name_shape = one_shape name_terminals

pub reads_name : Parses Name name_shape read_name
unfolding read_name
reads_name = reads_one name_terminals (some_token terminal.Name) refl

abbrev pub other_name_shape : FirstAndFollow
other_name_shape = then_shape (maybe_shape (word_shape terminal.As)) name_shape

pub reads_other_name : Parses (mapped second (maybe (word terminal.As) ▸ Name)) other_name_shape read_other_name
unfolding read_other_name
reads_other_name = with_value second (in_sequence (option (a_word terminal.As refl) refl) reads_name refl)

abbrev pub new_name_shape : FirstAndFollow
new_name_shape = maybe_shape other_name_shape

pub reads_new_name : Parses NewName new_name_shape read_new_name
unfolding read_new_name
reads_new_name = option reads_other_name refl

abbrev pub dotted_name_shape : FirstAndFollow
dotted_name_shape = next_shape terminal.Dot name_shape

pub reads_dotted_name : Parses (mapped second (word terminal.Dot ▸ Name)) dotted_name_shape read_dotted_name
unfolding read_dotted_name
reads_dotted_name = with_value second (in_sequence (a_word terminal.Dot refl) reads_name refl)

abbrev pub column_shape : FirstAndFollow
column_shape = then_shape name_shape (maybe_shape dotted_name_shape)

pub reads_column : Parses ColumnReference column_shape read_column
unfolding read_column
reads_column = with_value column (in_sequence reads_name (option reads_dotted_name refl) refl)

-- ---- literals

abbrev pub number_shape : FirstAndFollow
number_shape = then_shape (maybe_shape (one_shape sign_terminals)) (one_shape digit_terminals)

pub reads_number : Parses (mapped number (maybe (one sign_terminals) ▸ one digit_terminals)) number_shape read_number
unfolding read_number
reads_number = with_value number (in_sequence (option (reads_one sign_terminals (some_token terminal.Plus) refl) refl) (reads_one digit_terminals (some_token terminal.Zero) refl) refl)

abbrev pub literal_shape : FirstAndFollow
literal_shape = either_shape number_shape (word_shape terminal.Text)

pub reads_literal : Parses Literal literal_shape read_literal
unfolding read_literal
reads_literal = choice reads_number (with_value text (a_word terminal.Text refl)) refl refl refl

pub reads_next_literal : Parses (mapped second (word terminal.Comma ▸ Literal)) (next_shape terminal.Comma literal_shape) read_next_literal
unfolding read_next_literal
reads_next_literal = with_value second (in_sequence (a_word terminal.Comma refl) reads_literal refl)

pub reads_literals : Parses (listed terminal.Comma Literal) (listed_shape terminal.Comma literal_shape) read_literals
unfolding read_literals
reads_literals = with_value first_and_others (in_sequence reads_literal (repeat reads_next_literal refl refl) refl)

abbrev pub value_list_shape : FirstAndFollow
value_list_shape = parentheses_shape (listed_shape terminal.Comma literal_shape)

pub reads_value_list : Parses InValueList value_list_shape read_value_list
unfolding read_value_list
reads_value_list = parenthesized reads_literals refl

-- ---- operands, operators, NOT

abbrev pub operand_shape : FirstAndFollow
operand_shape = either_shape column_shape literal_shape

pub reads_operand : Parses Operand operand_shape read_operand
unfolding read_operand
reads_operand = choice (with_value of_column reads_column) (with_value of_literal reads_literal) refl refl refl

abbrev pub operator_shape : FirstAndFollow
operator_shape = either_shape (word_shape terminal.Equal)
    (either_shape (word_shape terminal.NotEqual)
    (either_shape (word_shape terminal.Less)
    (either_shape (word_shape terminal.LessOrEqual)
    (either_shape (word_shape terminal.Greater) (word_shape terminal.GreaterOrEqual)))))

pub reads_operator : Parses ComparisonOperator operator_shape read_operator
unfolding read_operator
reads_operator =
    choice (with_value (constant op.Eq) (a_word terminal.Equal refl))
    (choice (with_value (constant op.Ne) (a_word terminal.NotEqual refl))
    (choice (with_value (constant op.Lt) (a_word terminal.Less refl))
    (choice (with_value (constant op.Le) (a_word terminal.LessOrEqual refl))
    (choice (with_value (constant op.Gt) (a_word terminal.Greater refl)) (with_value (constant op.Ge) (a_word terminal.GreaterOrEqual refl)) refl refl refl)
    refl refl refl)
    refl refl refl)
    refl refl refl)
    refl refl refl

abbrev pub negation_shape : FirstAndFollow
negation_shape = maybe_shape (word_shape terminal.Not)

pub reads_negation : Parses Negation negation_shape read_negation
unfolding read_negation
reads_negation = with_value is_written (option (a_word terminal.Not refl) refl)
