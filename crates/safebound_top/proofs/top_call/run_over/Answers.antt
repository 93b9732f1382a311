use Rattle.std.proofs.Common.{Result, refl, sym, ◌∙◌, subst}
use Rattle.std.specs.Prelude.{IsOkAnd}
use Rattle.outcomes.specs.declared.refusal.Refusal.{Refusal}
use Rattle.outcomes.proofs.StatusFacts.{ended_not_done}
use Rattle.safebound_top.specs.CallHistory.{EndedEarly, RanToEnd}
use Rattle.prepared_runs.specs.KeptBuffers.{HasBuffersOf}
use Rattle.prepared_runs.specs.RunOutcome.{RunOutcome}
use Rattle.prepared_runs.specs.PreparedRun.{outcome_of}
use Rattle.safebound_top.proofs.top_call.run_over.Goals as goal

pub returns-in-Ok-clause-ran : goal.returns-in-Ok-clause-ran
returns-in-Ok-clause-ran g c = RanToEnd (outcome_of c.args.schema.now c.in-Ok.ready) c.in-Ok.ensures.reads c.write_or_report.ensures.ended

pub returns-in-Ok-clause-kept : goal.returns-in-Ok-clause-kept
returns-in-Ok-clause-kept g c done files told =
    subst (λ (r : Result RunOutcome Refusal). IsOkAnd r (λ outcome. HasBuffersOf outcome c.write_or_report.new.kept)) (sym (c.in-Ok.ensures.reads.gives files told)) (c.write_or_report.ensures.kept done)

pub returns-in-Err-clause-ran : goal.returns-in-Err-clause-ran
returns-in-Err-clause-ran g c = EndedEarly c.in-Err.failure c.report_failure.ensures.status c.in-Err.ensures.reads (refl, refl) c.report_failure.ensures.told

pub returns-in-Err-clause-kept : goal.returns-in-Err-clause-kept
returns-in-Err-clause-kept g c done = absurd (ended_not_done c.in-Err.failure (sym c.report_failure.ensures.status ∙ done))
