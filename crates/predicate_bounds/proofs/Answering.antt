-- The steps of an entry's own conjuncts leave on the stack the answer that `filtered` defines.
use Rattle.std.proofs.Common.{◌≡◌, ℕ, List, [], ◌∷◌, ◌++◌, map, refl, ap, sym, ◌∙◌, append_assoc}
use Rattle.std.proofs.lemmas.List.{append-nil}
use Rattle.csv_tables.specs.Values.{Value}
use Rattle.query_types.specs.declared.types.Cond.{Cond}
use Rattle.filtered_lists.specs.Filters.{ComparisonAnswers, filtered}
use Rattle.filtered_lists.specs.Lists.{ColumnLists, list_answers}
use Rattle.filtered_lists.specs.Ranges as ranges
use Rattle.filtered_lists.proofs.Related.{filtered_related}
use Rattle.predicate_bounds.specs.declared.steps.Step.{Step}
use Rattle.predicate_bounds.specs.declared.steps.Step.TheVariants as step
use Rattle.predicate_bounds.specs.ListRuns.{after_list_step, after_list_steps, with_list}
use Rattle.predicate_bounds.specs.Runs.{after_step, after_steps}
use Rattle.predicate_bounds.specs.Steps.{step_answers, steps_of}
use Rattle.predicate_bounds.proofs.Literals.{value_of_literal_of, range_of_in}

abbrev Puts : (A : Type 0) → ComparisonAnswers A → List Step → A → Type 0
Puts A answers steps answer = (rest : List Step) (stack : List A) → after_steps answers (steps ++ rest) stack ≡ after_steps answers rest (answer ∷ stack)

puts_filtered : (A : Type 0) (answers : ComparisonAnswers A) (entry : ℕ) (conjuncts : List Cond) → Puts A answers (steps_of entry conjuncts) (filtered answers entry conjuncts)
puts_filtered A answers =
    filtered_related (List Step) A (Puts A answers) step_answers answers (record {
      whole = λ rest stack. refl;
      equal = λ column value rest stack. ap (λ (v : Value). after_steps answers rest (answers.equal column v ∷ stack)) (value_of_literal_of value);
      range = λ range rest stack. ap (λ (r : ranges.Range). after_steps answers rest (answers.range r ∷ stack)) (range_of_in range);
      both = λ x y a b h k rest stack. ap (λ (s : List Step). after_steps answers s stack) (append_assoc x (y ++ step.And ∷ []) rest ∙ ap (λ (s : List Step). x ++ s) (append_assoc y (step.And ∷ []) rest))
          ∙ h (y ++ (step.And ∷ rest)) stack ∙ k (step.And ∷ rest) (a ∷ stack);
      none = λ rest stack. refl;
      either = λ x y a b h k rest stack. ap (λ (s : List Step). after_steps answers s stack) (append_assoc x (y ++ step.Or ∷ []) rest ∙ ap (λ (s : List Step). x ++ s) (append_assoc y (step.Or ∷ []) rest))
          ∙ h (y ++ (step.Or ∷ rest)) stack ∙ k (step.Or ∷ rest) (a ∷ stack);
    })

steps_answer : (A : Type 0) (answers : ComparisonAnswers A) (entry : ℕ) (conjuncts : List Cond) → after_steps answers (steps_of entry conjuncts) [] ≡ filtered answers entry conjuncts ∷ []
steps_answer A answers entry conjuncts =
    ap (λ (s : List Step). after_steps answers s []) (sym (append-nil (steps_of entry conjuncts))) ∙ puts_filtered A answers entry conjuncts [] []

-- ---- steps that hold their lists leave the same answer as steps that ask for them

module _ (lists : ColumnLists) where
  one_list : (s : Step) (stack : List (List ℕ)) → after_list_step (with_list lists s) stack ≡ after_step (list_answers lists) s stack
  one_list step.Whole stack = refl
  one_list (step.Equal column literal) stack = refl
  one_list (step.Within range) stack = refl
  one_list step.And stack = refl
  one_list step.NoRows stack = refl
  one_list step.Or stack = refl

  all_lists : (steps : List Step) (stack : List (List ℕ)) → after_list_steps (map (with_list lists) steps) stack ≡ after_steps (list_answers lists) steps stack
  all_lists [] stack = refl
  all_lists (s ∷ steps) stack =
      ap (after_list_steps (map (with_list lists) steps)) (one_list s stack) ∙ all_lists steps (after_step (list_answers lists) s stack)

  pub lists_answer : (entry : ℕ) (conjuncts : List Cond) → after_list_steps (map (with_list lists) (steps_of entry conjuncts)) [] ≡ filtered (list_answers lists) entry conjuncts ∷ []
  lists_answer entry conjuncts = all_lists (steps_of entry conjuncts) [] ∙ steps_answer (List ℕ) (list_answers lists) entry conjuncts
