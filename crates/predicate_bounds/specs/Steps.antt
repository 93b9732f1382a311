-- An entry's own conjuncts as steps over a stack of answers. An answer is a list, a number of rows, or a test of a row. A comparison's step
-- puts an answer on the stack; the steps And and Or combine the two answers on top.
use Rattle.std.specs.Prelude.{ℕ, List, [], ◌∷◌, ◌++◌, option_map}
use Rattle.csv_tables.specs.Values as values
use Rattle.csv_tables.specs.Values.{Value}
use Rattle.query_types.specs.declared.types.Cond.{Cond}
use Rattle.filtered_lists.specs.Filters.{ComparisonAnswers, filtered}
use Rattle.filtered_lists.specs.Ranges as ranges
use Rattle.predicate_bounds.specs.declared.steps.Literal.{Literal}
use Rattle.predicate_bounds.specs.declared.steps.Literal.TheVariants as literal
use Rattle.predicate_bounds.specs.declared.steps.Range.{Range}
use Rattle.predicate_bounds.specs.declared.steps.Step.{Step}
use Rattle.predicate_bounds.specs.declared.steps.Step.TheVariants as step

-- `value_of` and `range_of` turn literals and ranges of the code into values and ranges of the definitions. `literal_of` and `literal_range_of` turn
-- these back into literals and ranges
abbrev pub value_of : Literal → Value
value_of (literal.Int number) = values.Int number
value_of (literal.Text text) = values.Text text

abbrev pub literal_of : Value → Literal
literal_of (values.Int number) = literal.Int number
literal_of (values.Text text) = literal.Text text

abbrev pub range_of : Range → ranges.Range
range_of range = record { column = range.column; low = option_map value_of range.low; high = option_map value_of range.high }

abbrev pub literal_range_of : ranges.Range → Range
literal_range_of range = record { column = range.column; low = option_map literal_of range.low; high = option_map literal_of range.high }

-- answers that are lists of steps: running the steps puts the answer itself on the stack
abbrev pub step_answers : ComparisonAnswers (List Step)
step_answers = record {
  whole = step.Whole ∷ [];
  equal = λ column value. step.Equal column (literal_of value) ∷ [];
  range = λ range. step.Within (literal_range_of range) ∷ [];
  both = λ x y. x ++ (y ++ step.And ∷ []);
  none = step.NoRows ∷ [];
  either = λ x y. x ++ (y ++ step.Or ∷ []);
}

-- the steps of an entry's own conjuncts
abbrev pub steps_of : ℕ → List Cond → List Step
steps_of entry conjuncts = filtered step_answers entry conjuncts
