use Rattle.std.proofs.Common.{List, map, ap, sym, ◌∙◌}
use Rattle.std.proofs.lemmas.List.{take_all}
use Rattle.std.proofs.lemmas.List.Folds.{list_any_at}
use Rattle.predicate_bounds.specs.ListRuns.{with_list}
use Rattle.predicate_bounds.specs.declared.steps.Step.{Step}
use Rattle.gathered_stats.specs.Asked.{asks_for_all_rows}
use Rattle.gathered_stats.proofs.Asking.{list_one_more_step}
use Rattle.gathered_stats.proofs.entry_table.EntryTable.list_steps_over.Goals as goal

pub list_step-requires-clause-whole : goal.list_step-requires-clause-whole
list_step-requires-clause-whole c = λ asks.
    c.requires.whole
    (list_any_at asks_for_all_rows c.args.steps.now c.loop-step.step-index c.step-item.result c.loop-step-test.true (sym (ap asks_for_all_rows c.step-item.is) ∙ asks))

pub loop-step-preserved : goal.loop-step-preserved
loop-step-preserved c = (
  c.in_ok-push.ensures.column ∙ c.loop-step.invariant.0,
  λ lists have. list_one_more_step lists c.args.steps.now c.loop-step.step-index c.step-item.result c.loop-step.gathered.steps c.push.new.self.steps c.in_ok-listed.listed
      c.loop-step-test.true c.step-item.is (c.loop-step.invariant.1 lists have) (c.in_ok-listed.ensures.list lists have) c.in_ok-push.ensures.steps,
  c.in_ok-listed.ensures.rests,
)

pub returns-clause-steps : goal.returns-clause-steps
returns-clause-steps c = λ lists have.
    c.loop-step.invariant.1 lists have ∙ ap (λ (s : List Step). map (with_list lists) s) (take_all c.loop-step.step-index c.args.steps.now c.loop-step-test.false)
