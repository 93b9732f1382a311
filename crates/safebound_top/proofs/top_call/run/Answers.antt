use Rattle.std.proofs.Common.{refl, sym, ◌∙◌}
use Rattle.outcomes.proofs.StatusFacts.{ended_not_done}
use Rattle.prepared_runs.proofs.KeptFacts.{keeps_so}
use Rattle.safebound_top.proofs.RunCourses.{course_ran, course_stopped}
use Rattle.safebound_top.proofs.top_call.run.Goals as goal

pub returns-in-Ok-clause-course : goal.returns-in-Ok-clause-course
returns-in-Ok-clause-course g c words command =
    course_ran c.args.command.now words command c.run_over.result _ _ _ _ c.in-Ok.schema (record { files = refl; faults = refl; misses = refl })
    c.in-Ok.ensures.reads c.run_over.ensures.ran

pub returns-in-Ok-clause-kept : goal.returns-in-Ok-clause-kept
returns-in-Ok-clause-kept g c done =
    keeps_so c.args.command.now _ c.in-Ok.schema _ c.in-Ok.ensures.reads refl (c.run_over.ensures.kept done)

pub returns-in-Err-clause-course : goal.returns-in-Err-clause-course
returns-in-Err-clause-course g c words command =
    course_stopped c.args.command.now words command c.report_failure.result _ _ _ c.in-Err.failure c.report_failure.ensures.status c.in-Err.ensures.reads
    (refl, refl) c.report_failure.ensures.told

pub returns-in-Err-clause-kept : goal.returns-in-Err-clause-kept
returns-in-Err-clause-kept g c done = absurd (ended_not_done c.in-Err.failure (sym c.report_failure.ensures.status ∙ done))
