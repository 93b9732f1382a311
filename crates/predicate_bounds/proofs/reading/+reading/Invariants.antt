use Rattle.std.proofs.Common.{◌≡◌, ◌++◌, map, take}
use Rattle.filtered_lists.specs.Filters.{and_answer, conjunction_of, one_conjunction}
use Rattle.predicate_bounds.specs.Added.{IsConjunctionAdded}
use Rattle.predicate_bounds.specs.Steps.{step_answers}
use Rattle.predicate_bounds.proofs.Adding.{or_steps}
use Rattle.predicate_bounds.proofs.reading.+reading.Given as goal

abbrev pub invariant-Members::add_any-loop-cond : goal.invariant-Members::add_any-loop-cond
invariant-Members::add_any-loop-cond l =
    l.steps ≡ l.initial.steps ++ or_steps (map (λ cond. and_answer step_answers (conjunction_of step_answers cond l.holds)) (take l.cond-index l.conds))

abbrev pub invariant-Members::add_each-loop-cond : goal.invariant-Members::add_each-loop-cond
invariant-Members::add_each-loop-cond l =
    IsConjunctionAdded l.initial.self l.initial.steps l.self l.steps (one_conjunction (map (λ cond. conjunction_of step_answers cond l.holds) (take l.cond-index l.conds)))
