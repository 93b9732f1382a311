use Rattle.std.proofs.Common.{inl, inr, refl, ap, sym, ◌∙◌, Some, arith}
use Rattle.base_io.specs.Causes.{Rose}
use Rattle.outcomes.specs.declared.failure.Failure.TheVariants as failure
use Rattle.outcomes.proofs.StatusFacts.{ended_not_done}
use Rattle.safebound_top.proofs.ShopCourses.{course_shop, course_unmade}
use Rattle.safebound_top.proofs.top_call.run_shop.Goals as goal

calm : Rose 0 0 → ⊥
calm (inl more) = omega (arith, more)
calm (inr last) = omega (arith, last)

pub returns-in-Ok-clause-course : goal.returns-in-Ok-clause-course
returns-in-Ok-clause-course g c words command =
    course_shop c.args.number _ (ap (λ files. Some files) c.in-Ok.ensures) calm words c.run.result _ _ (c.run.ensures.course words command)

pub returns-in-Err-clause-course : goal.returns-in-Err-clause-course
returns-in-Err-clause-course g c words command =
    course_unmade c.args.command.now words command c.args.number c.report_failure.result _ _ c.report_failure.ensures.status (refl, refl)
    c.report_failure.ensures.told

pub returns-in-Ok-clause-kept : goal.returns-in-Ok-clause-kept
returns-in-Ok-clause-kept g c done files told = c.run.ensures.kept done files (ap (λ files. Some files) c.in-Ok.ensures ∙ told)

pub returns-in-Err-clause-kept : goal.returns-in-Err-clause-kept
returns-in-Err-clause-kept g c done = absurd (ended_not_done failure.NoMemory (sym c.report_failure.ensures.status ∙ done))
