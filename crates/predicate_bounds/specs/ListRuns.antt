-- The stack of lists after some steps. The top of the stack is the first element here.
use Rattle.std.specs.Prelude.{ℕ, ◌^◌, nat_le, Bool, true, List, [], ◌∷◌}
use Rattle.std.specs.List.{sum, sum_by}
use Rattle.degree_sequences.specs.ByRank.{rank_sum}
use Rattle.degree_sequences.specs.RunningSums.{lesser}
use Rattle.filtered_lists.specs.Lists.{ColumnLists}
use Rattle.predicate_bounds.specs.declared.running.ListStep.{ListStep}
use Rattle.predicate_bounds.specs.declared.running.ListStep.TheVariants as list_step
use Rattle.predicate_bounds.specs.declared.steps.Step.{Step}
use Rattle.predicate_bounds.specs.declared.steps.Step.TheVariants as step
use Rattle.predicate_bounds.specs.Runs.{combine_top}
use Rattle.predicate_bounds.specs.Steps.{value_of, range_of}

abbrev pub after_list_step : ListStep → List (List ℕ) → List (List ℕ)
after_list_step (list_step.List list) stack = list ∷ stack
after_list_step list_step.And stack = combine_top lesser stack
after_list_step list_step.NoRows stack = [] ∷ stack
after_list_step list_step.Or stack = combine_top rank_sum stack

abbrev pub after_list_steps : List ListStep → List (List ℕ) → List (List ℕ)
after_list_steps [] stack = stack
after_list_steps (step ∷ steps) stack = after_list_steps steps (after_list_step step stack)

abbrev pub top_list : List (List ℕ) → List ℕ
top_list [] = []
top_list (list ∷ stack) = list

-- the sum of all lists on the stack together
abbrev pub total_of : List (List ℕ) → ℕ
total_of stack = sum_by sum stack

-- whether the list of a step, if the step has one, sums to at most 2^32
abbrev pub is_small : ListStep → Bool
is_small (list_step.List list) = nat_le (sum list) (2 ^ 32)
is_small list_step.And = true
is_small list_step.NoRows = true
is_small list_step.Or = true

-- a step with the list that it asks for
abbrev pub with_list : ColumnLists → Step → ListStep
with_list lists step.Whole = list_step.List lists.whole
with_list lists (step.Equal column literal) = list_step.List (lists.equal column (value_of literal))
with_list lists (step.Within range) = list_step.List (lists.range (range_of range))
with_list lists step.And = list_step.And
with_list lists step.NoRows = list_step.NoRows
with_list lists step.Or = list_step.Or
