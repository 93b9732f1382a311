use Rattle.std.proofs.Common.{◌≡◌, ◌∙◌, sym, refl}
use Rattle.outcomes.specs.declared.status.Status.TheVariants as status
use Rattle.safebound_top.specs.CallHistory.{Done}
use Rattle.prepared_runs.specs.PreparedRun.{outcome_of}
use Rattle.safebound_top.proofs.TextSteps.{ended_cut}
use Rattle.safebound_top.proofs.top_call.write_or_report.Goals as goal

pub returns-in-Ok-clause-ended : goal.returns-in-Ok-clause-ended
returns-in-Ok-clause-ended g c = Done refl c.in-Ok.ensures.texts.texts.0 c.in-Ok.ensures.texts.texts.1

pub returns-in-Ok-clause-kept : goal.returns-in-Ok-clause-kept
returns-in-Ok-clause-kept g c done = c.in-Ok.ensures.kept

pub report-requires : goal.report-requires
report-requires g c h = let no : status.WriteFault c.in-Err.sink ≡ status.Done = sym c.from-status.ensures ∙ h in cc

pub returns-in-Err-clause-kept : goal.returns-in-Err-clause-kept
returns-in-Err-clause-kept g c h = let no : status.WriteFault c.in-Err.sink ≡ status.Done = sym c.from-status.ensures ∙ h in absurd (cc)

pub returns-in-Err-clause-ended : goal.returns-in-Err-clause-ended
returns-in-Err-clause-ended g c = ended_cut c.in-Err.sink c.from-status.result _ _ _ _ _ _ _ _ _ _ (outcome_of c.args.schema.now c.args.ready) _ c.from-status.ensures c.in-Err.ensures.texts c.report.ensures
