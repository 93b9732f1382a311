-- What AND and OR become when they are read, if `holds` is true and if it is false.
use Rattle.std.proofs.Common.{◌≡◌, Bool, true, false, List, [], ◌∷◌, map, refl, ap, ◌∙◌, Result, Ok, Err, OnOk}
use Rattle.query_types.specs.declared.types.Cond.{Cond, And, Or}
use Rattle.filtered_lists.specs.Filters.{Conjunction, and_answer, conjunction_of, one_conjunction, of_answer, or_answer}
use Rattle.filtered_lists.proofs.Parts.{conjunction_of_and, conjunction_of_or}
use Rattle.predicate_bounds.specs.declared.steps.Step.{Step}
use Rattle.predicate_bounds.specs.Steps.{step_answers}

abbrev pub read : Cond → Bool → Conjunction (List Step)
read cond holds = conjunction_of step_answers cond holds

each_read : (conds : List Cond) (holds : Bool) → map (λ member. member holds) (map (conjunction_of step_answers) conds) ≡ map (λ cond. read cond holds) conds
each_read [] holds = refl
each_read (cond ∷ conds) holds = ap (λ (s : List (Conjunction (List Step))). read cond holds ∷ s) (each_read conds holds)

pub read_and : (cond : Cond) (all items : List Cond) (holds : Bool) → cond ≡ And all → holds ≡ true → items ≡ all → read cond holds ≡ one_conjunction (map (λ c. read c holds) items)
read_and cond all items holds is held same =
    rw (is, held, same) (conjunction_of_and step_answers all true ∙ ap one_conjunction (each_read all true))

pub read_negated_and : (cond : Cond) (all items : List Cond) (holds : Bool) → cond ≡ And all → holds ≡ false → items ≡ all → read cond holds ≡ of_answer (or_answer step_answers (map (λ c. read c holds) items))
read_negated_and cond all items holds is no_more same =
    rw (is, no_more, same) (conjunction_of_and step_answers all false ∙ ap (λ (cs : List (Conjunction (List Step))). of_answer (or_answer step_answers cs)) (each_read all false))

pub read_or : (cond : Cond) (any items : List Cond) (holds : Bool) → cond ≡ Or any → holds ≡ true → items ≡ any → read cond holds ≡ of_answer (or_answer step_answers (map (λ c. read c holds) items))
read_or cond any items holds is held same =
    rw (is, held, same) (conjunction_of_or step_answers any true ∙ ap (λ (cs : List (Conjunction (List Step))). of_answer (or_answer step_answers cs)) (each_read any true))

pub read_negated_or : (cond : Cond) (any items : List Cond) (holds : Bool) → cond ≡ Or any → holds ≡ false → items ≡ any → read cond holds ≡ one_conjunction (map (λ c. read c holds) items)
read_negated_or cond any items holds is no_more same =
    rw (is, no_more, same) (conjunction_of_or step_answers any false ∙ ap one_conjunction (each_read any false))

pub answers_of_read : (conds : List Cond) (holds : Bool) → map (and_answer step_answers) (map (λ cond. read cond holds) conds) ≡ map (λ cond. and_answer step_answers (read cond holds)) conds
answers_of_read [] holds = refl
answers_of_read (cond ∷ conds) holds = ap (λ (s : List (List Step)). and_answer step_answers (read cond holds) ∷ s) (answers_of_read conds holds)

-- ---- results of calls

pub three_on_ok : {T E P Q R S : Type 0} (r : Result T E) → (P → Q → R → S) → OnOk r P → OnOk r Q → OnOk r R → OnOk r S
three_on_ok (Ok x) f p q s = f p q s
three_on_ok (Err e) f p q s = tt
