use Rattle.std.proofs.Common.{◌≡◌, ◌++◌, List, map, sym, ap, ◌∙◌}
use Rattle.std.proofs.lemmas.List.{take_all}
use Rattle.std.proofs.lemmas.Result.{on_ok_weaker}
use Rattle.filtered_lists.specs.Filters.{Conjunction, and_answer, or_answer}
use Rattle.query_types.specs.declared.types.Cond.{Cond}
use Rattle.predicate_bounds.specs.declared.steps.Step.{Step}
use Rattle.predicate_bounds.specs.Steps.{step_answers}
use Rattle.predicate_bounds.proofs.Adding.{add_any_step, add_each_step, or_answer_steps, answer_added, answer_steps, or_steps}
use Rattle.predicate_bounds.proofs.Conditions.{read, read_and, read_negated_and, read_or, read_negated_or, three_on_ok, answers_of_read}
use Rattle.predicate_bounds.proofs.reading.+reading.Goals as goal

pub Members::add_any-loop-cond-preserved : goal.Members::add_any-loop-cond-preserved
Members::add_any-loop-cond-preserved t c =
    add_any_step (λ cond. and_answer step_answers (read cond c.args.holds)) c.args.conds.now c.loop-cond.cond-index c.cond-item.result c.push.new.self c.loop-cond.steps c.add_answer.new.steps c.push-in-loop-cond.new.self
    c.loop-cond-test.true c.cond-item.is c.loop-cond.invariant c.in_ok-add_answer.ensures c.in_ok-push-2.ensures.ok

pub Members::add_any-returns : goal.Members::add_any-returns
Members::add_any-returns t c =
    let conjs : List (Conjunction (List Step)) = map (λ cond. read cond c.args.holds) c.args.conds.now in
    let all : c.loop-cond.steps ≡ c.push.new.self ++ or_steps (map (λ cond. and_answer step_answers (read cond c.args.holds)) c.args.conds.now) =
    c.loop-cond.invariant ∙ ap (λ (conds : List Cond). c.push.new.self ++ or_steps (map (λ cond. and_answer step_answers (read cond c.args.holds)) conds)) (take_all c.loop-cond.cond-index c.args.conds.now c.loop-cond-test.false) in
    three_on_ok c.add_and.result (λ steps has_answer ranges. answer_added c.args.self.now c.add_and.new.self c.args.steps.now c.loop-cond.steps c.add_and.new.steps (or_answer step_answers conjs)
    (or_answer_steps c.args.steps.now c.push.new.self c.loop-cond.steps conjs c.in_ok-push.ensures.ok (all ∙ ap (λ (xs : List (List Step)). c.push.new.self ++ or_steps xs) (sym (answers_of_read c.args.conds.now c.args.holds)))) steps has_answer ranges)
    c.add_and.ensures.steps c.add_and.ensures.has_answer c.add_and.ensures.ranges

pub Members::add_condition-returns-then-holds : goal.Members::add_condition-returns-then-holds
Members::add_condition-returns-then-holds t c =
    rw (read_and c.args.cond.now c.in-And.all c.as_slice.result.now c.args.holds c.in-And.is c.if-holds.true c.as_slice.ensures) c.add_each.ensures

pub Members::add_condition-returns-else-holds : goal.Members::add_condition-returns-else-holds
Members::add_condition-returns-else-holds t c =
    rw (read_negated_and c.args.cond.now c.in-And.all c.as_slice-else-holds.result.now c.args.holds c.in-And.is c.if-holds.false c.as_slice-else-holds.ensures) c.add_any.ensures

pub Members::add_condition-returns-then-holds-2 : goal.Members::add_condition-returns-then-holds-2
Members::add_condition-returns-then-holds-2 t c =
    rw (read_or c.args.cond.now c.in-Or.any c.as_slice-then-holds-2.result.now c.args.holds c.in-Or.is c.if-holds-2.true c.as_slice-then-holds-2.ensures) c.add_any-then-holds-2.ensures

pub Members::add_condition-returns-else-holds-2 : goal.Members::add_condition-returns-else-holds-2
Members::add_condition-returns-else-holds-2 t c =
    rw (read_negated_or c.args.cond.now c.in-Or.any c.as_slice-else-holds-2.result.now c.args.holds c.in-Or.is c.if-holds-2.false c.as_slice-else-holds-2.ensures) c.add_each-else-holds-2.ensures

pub Members::add_each-loop-cond-preserved : goal.Members::add_each-loop-cond-preserved
Members::add_each-loop-cond-preserved t c =
    add_each_step (λ cond. read cond c.args.holds) c.args.conds.now c.loop-cond.cond-index c.cond-item.result c.args.self.now c.loop-cond.self c.add_condition.new.self c.args.steps.now c.loop-cond.steps c.add_condition.new.steps
    c.loop-cond-test.true c.cond-item.is c.loop-cond.invariant c.in_ok-add_condition.ensures

pub add_answer-returns : goal.add_answer-returns
add_answer-returns t c =
    on_ok_weaker c.finish.result (λ closed. answer_steps c.none-members.result c.add_condition.new.self c.args.steps.now c.add_condition.new.steps c.finish.new.steps (read c.args.cond.now c.args.holds)
    c.none-members.ensures.has_answer c.none-members.ensures.ranges c.in_ok-add_condition.ensures closed) c.finish.ensures
