use Rattle.std.proofs.Common.{subst, sym}
use Rattle.std.specs.Bool.{IsTrue}
use Rattle.predicate_bounds.specs.declared.running.ListStep.{ListStep}
use Rattle.predicate_bounds.specs.ListRuns.{is_small}
use Rattle.stats_file_bounds.proofs.Small.{step_small}
use Rattle.stats_file_bounds.proofs.entry.list_steps.Goals as goal

pub push-requires : goal.push-requires
push-requires c =
    subst (λ (s : ListStep). IsTrue (is_small s)) (sym c.in_ok-listed.ensures) (step_small c.args.section.now c.requires.section c.args.needs.now c.args.joined c.step-item.result)
