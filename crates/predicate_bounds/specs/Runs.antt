-- The stack of answers after some steps. An answer is a list, a number of rows, or a test of a row. The top of the stack is the first element here.
use Rattle.std.specs.Prelude.{List, [], ◌∷◌}
use Rattle.filtered_lists.specs.Filters.{ComparisonAnswers}
use Rattle.predicate_bounds.specs.declared.steps.Step.{Step}
use Rattle.predicate_bounds.specs.declared.steps.Step.TheVariants as step
use Rattle.predicate_bounds.specs.Steps.{value_of, range_of}

-- the stack after `f` has made one answer of the two on top
abbrev pub combine_top : {A : Type 0} → (A → A → A) → List A → List A
combine_top f [] = []
combine_top f (y ∷ []) = y ∷ []
combine_top f (y ∷ (x ∷ stack)) = f x y ∷ stack

abbrev pub after_step : {A : Type 0} → ComparisonAnswers A → Step → List A → List A
after_step answers step.Whole stack = answers.whole ∷ stack
after_step answers (step.Equal column literal) stack = answers.equal column (value_of literal) ∷ stack
after_step answers (step.Within range) stack = answers.range (range_of range) ∷ stack
after_step answers step.And stack = combine_top answers.both stack
after_step answers step.NoRows stack = answers.none ∷ stack
after_step answers step.Or stack = combine_top answers.either stack

abbrev pub after_steps : {A : Type 0} → ComparisonAnswers A → List Step → List A → List A
after_steps answers [] stack = stack
after_steps answers (step ∷ steps) stack = after_steps answers steps (after_step answers step stack)
