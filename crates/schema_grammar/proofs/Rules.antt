-- Each parser reads exactly its rule of the grammar. Each `refl` proves a condition of an LL(1) grammar by computation.
use Rattle.std.proofs.Common.{◌≡◌, true, [], ◌∷◌, List, refl}
use Rattle.ll_grammars.specs.declared.lexeme.Lexeme.{Lexeme}
use Rattle.ll_grammars.specs.declared.terminal.Terminal.{Terminal}
use Rattle.ll_grammars.specs.declared.terminal.Terminal.TheVariants as terminal
use Rattle.ll_grammars.specs.Terminals.{among}
use Rattle.ll_grammars.specs.Language.{one, ◌▸◌, mapped, many}
use Rattle.ll_grammars.specs.Reading.{read_one}
use Rattle.ll_grammars.specs.Parses.{FirstAndFollow, Parses}
use Rattle.ll_grammars.specs.Rules.{first_and_others, second, word, listed, in_parentheses}
use Rattle.ll_grammars.proofs.Steps.{one_shape, then_shape, either_shape, maybe_shape, reads_one}
use Rattle.ll_grammars.proofs.Repeats.{many_shape}
use Rattle.ll_grammars.proofs.Tails.{tails, tails_shape, reads_tails, tails_is_repeated, repeated_is_tails}
use Rattle.ll_grammars.proofs.Combined.{in_sequence, with_value, choice, option, repeat, some_token, word_shape, a_word, parentheses_shape, parenthesized, next_shape, listed_shape, reads_same}
use Rattle.schema_grammar.specs.declared.tree.TableNode.{TableNode}
use Rattle.schema_grammar.specs.Grammar.{drop_value, target, number_type, text_type, varying_type, not_null, primary_key, unique, references, column, primary_key_over, unique_over, foreign_key, of_column, of_rule, table, name_terminals, number_types, Name, Names, Length, DataType, ReferentialAction, TriggeredAction, Target, ConstraintName, with_constraint_name, ColumnConstraint, TableConstraint, ColumnDefinition, TableElement, TableDefinition, SchemaText}
use Rattle.schema_grammar.specs.Readers.{read_name, read_next_name, read_names, read_name_list, read_length, read_type, read_action, read_triggered_action, read_triggered_actions, read_target, read_constraint_name, read_column_constraint, read_column_rule, read_column_rules, read_foreign_key, read_table_constraint, read_table_rule, read_column, read_element, read_next_element, read_elements, read_element_list, read_table, read_other_tables, read_all_tables}

a_token : (terminals : List Terminal) (t : Terminal) → among terminals t ≡ true → Parses (one terminals) (one_shape terminals) (read_one terminals)
a_token terminals t e = reads_one terminals (some_token t) e

-- ---- names

abbrev pub name_shape : FirstAndFollow
name_shape = one_shape name_terminals

pub reads_name : Parses Name name_shape read_name
unfolding read_name
reads_name = a_token name_terminals terminal.Name refl

pub reads_next_name : Parses (mapped second (word terminal.Comma ▸ Name)) (next_shape terminal.Comma name_shape) read_next_name
unfolding read_next_name
reads_next_name = with_value second (in_sequence (a_word terminal.Comma refl) reads_name refl)

pub reads_names : Parses Names (listed_shape terminal.Comma name_shape) read_names
unfolding read_names
reads_names = with_value first_and_others (in_sequence reads_name (repeat reads_next_name refl refl) refl)

abbrev pub name_list_shape : FirstAndFollow
name_list_shape = parentheses_shape (listed_shape terminal.Comma name_shape)

pub reads_name_list : Parses (in_parentheses Names) name_list_shape read_name_list
unfolding read_name_list
reads_name_list = parenthesized reads_names refl

-- ---- types

abbrev pub length_shape : FirstAndFollow
length_shape = parentheses_shape (word_shape terminal.Number)

pub reads_length : Parses Length length_shape read_length
unfolding read_length
reads_length = parenthesized (a_word terminal.Number refl) refl

abbrev pub varying_shape : FirstAndFollow
varying_shape = then_shape (one_shape (terminal.Char ∷ terminal.Character ∷ [])) (then_shape (word_shape terminal.Varying) length_shape)

abbrev pub type_shape : FirstAndFollow
type_shape = either_shape (one_shape number_types) (either_shape (then_shape (word_shape terminal.Varchar) length_shape) varying_shape)

pub reads_type : Parses DataType type_shape read_type
unfolding read_type
reads_type =
    choice (with_value number_type (a_token number_types terminal.Int refl))
    (choice (with_value text_type (in_sequence (a_word terminal.Varchar refl) reads_length refl))
    (with_value varying_type (in_sequence (a_token (terminal.Char ∷ terminal.Character ∷ []) terminal.Char refl) (in_sequence (a_word terminal.Varying refl) reads_length refl) refl)) refl refl refl)
    refl refl refl

-- ---- references

abbrev pub action_shape : FirstAndFollow
action_shape = either_shape (then_shape (word_shape terminal.No) (word_shape terminal.Action))
    (either_shape (word_shape terminal.Cascade) (then_shape (word_shape terminal.Set) (one_shape (terminal.Null ∷ terminal.Default ∷ []))))

pub reads_action : Parses ReferentialAction action_shape read_action
unfolding read_action
reads_action =
    choice (with_value drop_value (in_sequence (a_word terminal.No refl) (a_word terminal.Action refl) refl))
    (choice (with_value drop_value (a_word terminal.Cascade refl)) (with_value drop_value (in_sequence (a_word terminal.Set refl) (a_token (terminal.Null ∷ terminal.Default ∷ []) terminal.Null refl) refl)) refl refl refl)
    refl refl refl

abbrev pub triggered_action_shape : FirstAndFollow
triggered_action_shape = then_shape (word_shape terminal.On) (then_shape (one_shape (terminal.Delete ∷ terminal.Update ∷ [])) action_shape)

pub reads_triggered_action : Parses TriggeredAction triggered_action_shape read_triggered_action
unfolding read_triggered_action
reads_triggered_action = with_value drop_value (in_sequence (a_word terminal.On refl) (in_sequence (a_token (terminal.Delete ∷ terminal.Update ∷ []) terminal.Delete refl) reads_action refl) refl)

pub reads_triggered_actions : Parses (mapped drop_value (many TriggeredAction)) (many_shape triggered_action_shape) read_triggered_actions
unfolding read_triggered_actions
reads_triggered_actions = with_value drop_value (repeat reads_triggered_action refl refl)

abbrev pub target_shape : FirstAndFollow
target_shape = then_shape name_shape (then_shape (maybe_shape name_list_shape) (many_shape triggered_action_shape))

pub reads_target : Parses Target target_shape read_target
unfolding read_target
reads_target = with_value target (in_sequence reads_name (in_sequence (option reads_name_list refl) reads_triggered_actions refl) refl)

-- ---- constraints of columns and of tables

abbrev pub constraint_name_shape : FirstAndFollow
constraint_name_shape = maybe_shape (then_shape (word_shape terminal.Constraint) name_shape)

pub reads_constraint_name : Parses ConstraintName constraint_name_shape read_constraint_name
unfolding read_constraint_name
reads_constraint_name = with_value drop_value (option (in_sequence (a_word terminal.Constraint refl) reads_name refl) refl)

abbrev pub named_shape : FirstAndFollow → FirstAndFollow
named_shape s = then_shape constraint_name_shape s

abbrev pub column_constraint_shape : FirstAndFollow
column_constraint_shape = either_shape (then_shape (word_shape terminal.Not) (word_shape terminal.Null))
    (either_shape (then_shape (word_shape terminal.Primary) (word_shape terminal.Key))
    (either_shape (word_shape terminal.Unique)
    (then_shape (word_shape terminal.References) target_shape)))

pub reads_column_constraint : Parses ColumnConstraint column_constraint_shape read_column_constraint
unfolding read_column_constraint
reads_column_constraint =
    choice (with_value not_null (in_sequence (a_word terminal.Not refl) (a_word terminal.Null refl) refl))
    (choice (with_value primary_key (in_sequence (a_word terminal.Primary refl) (a_word terminal.Key refl) refl))
    (choice (with_value unique (a_word terminal.Unique refl))
    (with_value references (in_sequence (a_word terminal.References refl) reads_target refl)) refl refl refl) refl refl refl)
    refl refl refl

pub reads_column_rule : Parses (with_constraint_name ColumnConstraint) (named_shape column_constraint_shape) read_column_rule
unfolding read_column_rule
reads_column_rule = with_value second (in_sequence reads_constraint_name reads_column_constraint refl)

pub reads_column_rules : Parses (many (with_constraint_name ColumnConstraint)) (many_shape (named_shape column_constraint_shape)) read_column_rules
unfolding read_column_rules
reads_column_rules = repeat reads_column_rule refl refl

abbrev pub foreign_key_shape : FirstAndFollow
foreign_key_shape = then_shape (word_shape terminal.Foreign) (then_shape (word_shape terminal.Key) (then_shape name_list_shape (then_shape (word_shape terminal.References) target_shape)))

pub reads_foreign_key : Parses (mapped foreign_key (word terminal.Foreign ▸ word terminal.Key ▸ in_parentheses Names ▸ word terminal.References ▸ Target)) foreign_key_shape read_foreign_key
unfolding read_foreign_key
reads_foreign_key = with_value foreign_key (in_sequence (a_word terminal.Foreign refl) (in_sequence (a_word terminal.Key refl) (in_sequence reads_name_list (in_sequence (a_word terminal.References refl) reads_target refl) refl) refl) refl)

abbrev pub table_constraint_shape : FirstAndFollow
table_constraint_shape = either_shape (then_shape (word_shape terminal.Primary) (then_shape (word_shape terminal.Key) name_list_shape))
    (either_shape (then_shape (word_shape terminal.Unique) name_list_shape) foreign_key_shape)

pub reads_table_constraint : Parses TableConstraint table_constraint_shape read_table_constraint
unfolding read_table_constraint
reads_table_constraint =
    choice (with_value primary_key_over (in_sequence (a_word terminal.Primary refl) (in_sequence (a_word terminal.Key refl) reads_name_list refl) refl))
    (choice (with_value unique_over (in_sequence (a_word terminal.Unique refl) reads_name_list refl)) reads_foreign_key refl refl refl)
    refl refl refl

pub reads_table_rule : Parses (with_constraint_name TableConstraint) (named_shape table_constraint_shape) read_table_rule
unfolding read_table_rule
reads_table_rule = with_value second (in_sequence reads_constraint_name reads_table_constraint refl)

-- ---- tables

abbrev pub column_shape : FirstAndFollow
column_shape = then_shape name_shape (then_shape type_shape (many_shape (named_shape column_constraint_shape)))

pub reads_column : Parses ColumnDefinition column_shape read_column
unfolding read_column
reads_column = with_value column (in_sequence reads_name (in_sequence reads_type reads_column_rules refl) refl)

abbrev pub element_shape : FirstAndFollow
element_shape = either_shape column_shape (named_shape table_constraint_shape)

pub reads_element : Parses TableElement element_shape read_element
unfolding read_element
reads_element = choice (with_value of_column reads_column) (with_value of_rule reads_table_rule) refl refl refl

pub reads_next_element : Parses (mapped second (word terminal.Comma ▸ TableElement)) (next_shape terminal.Comma element_shape) read_next_element
unfolding read_next_element
reads_next_element = with_value second (in_sequence (a_word terminal.Comma refl) reads_element refl)

pub reads_elements : Parses (listed terminal.Comma TableElement) (listed_shape terminal.Comma element_shape) read_elements
unfolding read_elements
reads_elements = with_value first_and_others (in_sequence reads_element (repeat reads_next_element refl refl) refl)

abbrev pub element_list_shape : FirstAndFollow
element_list_shape = parentheses_shape (listed_shape terminal.Comma element_shape)

pub reads_element_list : Parses (in_parentheses (listed terminal.Comma TableElement)) element_list_shape read_element_list
unfolding read_element_list
reads_element_list = parenthesized reads_elements refl

abbrev pub table_shape : FirstAndFollow
table_shape = then_shape (word_shape terminal.Create) (then_shape (word_shape terminal.Table) (then_shape name_shape element_list_shape))

pub reads_table : Parses TableDefinition table_shape read_table
unfolding read_table
reads_table = with_value table (in_sequence (a_word terminal.Create refl) (in_sequence (a_word terminal.Table refl) (in_sequence reads_name reads_element_list refl) refl) refl)

-- a semicolon is read, and the token after the semicolon says whether another table follows
pub reads_other_tables : Parses (tails (terminal.Semicolon ∷ []) TableDefinition) (tails_shape (terminal.Semicolon ∷ []) table_shape) read_other_tables
unfolding read_other_tables
reads_other_tables = reads_tails (terminal.Semicolon ∷ []) reads_table refl refl

abbrev pub schema_shape : FirstAndFollow
schema_shape = then_shape table_shape (tails_shape (terminal.Semicolon ∷ []) table_shape)

to_schema : (text : List Lexeme) (v : List TableNode) → mapped first_and_others (TableDefinition ▸ tails (terminal.Semicolon ∷ []) TableDefinition) text v → SchemaText text v
unfolding SchemaText
to_schema text v l =
    let t = l.2 in
    let others = tails_is_repeated (terminal.Semicolon ∷ []) TableDefinition l.0.1 t.rest t.second in
    ((l.0.0, (l.0.1, others.0)), l.1, record { front = t.front; rest = t.rest; whole = t.whole; first = t.first; second = others.1 })

from_schema : (text : List Lexeme) (v : List TableNode) → SchemaText text v → mapped first_and_others (TableDefinition ▸ tails (terminal.Semicolon ∷ []) TableDefinition) text v
unfolding SchemaText
from_schema text v l =
    let t = l.2 in
    ((l.0.0, l.0.1.0), l.1, record { front = t.front; rest = t.rest; whole = t.whole; first = t.first; second = repeated_is_tails (terminal.Semicolon ∷ []) TableDefinition l.0.1.0 l.0.1.1 t.rest t.second })

pub reads_all_tables : Parses SchemaText schema_shape read_all_tables
unfolding read_all_tables
reads_all_tables = reads_same to_schema from_schema (with_value first_and_others (in_sequence reads_table reads_other_tables refl))
