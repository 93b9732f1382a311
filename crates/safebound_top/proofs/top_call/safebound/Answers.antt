use Rattle.std.proofs.Common.{None, refl, sym, ◌∙◌, ◌≡◌}
use Rattle.outcomes.specs.declared.refusal.Refusal.TheVariants as refusal
use Rattle.outcomes.specs.declared.status.Status.TheVariants as status
use Rattle.safebound_top.proofs.Courses.{headline}
use Rattle.prepared_runs.proofs.CommandFacts.{command_taken, no_command, no_shop, shop_taken}
use Rattle.prepared_runs.proofs.KeptFacts.{keeps_verdict}
use Rattle.safebound_top.proofs.Promises.{keeps_promise}
use Rattle.safebound_top.proofs.RunCourses.{course_unasked}
use Rattle.safebound_top.proofs.ShopCourses.{course_of_words}
use Rattle.safebound_top.proofs.top_call.safebound.Goals as goal

pub returns-in-Ok-clause-headline : goal.returns-in-Ok-clause-headline
returns-in-Ok-clause-headline g c =
    headline _ (course_of_words _ c.run_command.result _ _ _ c.in-Ok.command.shop (shop_taken _ c.in-Ok.command c.in-Ok.ensures.answer)
    (c.run_command.ensures.course _ (command_taken _ c.in-Ok.command c.in-Ok.ensures.answer)))

pub returns-in-Ok-clause-promise : goal.returns-in-Ok-clause-promise
returns-in-Ok-clause-promise g c = keeps_promise _ (returns-in-Ok-clause-headline g c)

pub returns-in-Ok-clause-buffers : goal.returns-in-Ok-clause-buffers
returns-in-Ok-clause-buffers g c done = keeps_verdict _ _ (command_taken _ c.in-Ok.command c.in-Ok.ensures.answer) _ c.in-Ok.command.shop _ (shop_taken _ c.in-Ok.command c.in-Ok.ensures.answer) (c.run_command.ensures.kept done)

pub returns-in-Err-clause-headline : goal.returns-in-Err-clause-headline
returns-in-Err-clause-headline g c =
    headline _ (course_of_words _ _ _ _ _ None (no_shop _ c.in-Err.ensures.answer)
    (course_unasked _ c.refuse_words.ensures.status (no_command _ c.in-Err.ensures.answer) refl (refl, refl) c.refuse_words.ensures.told))

pub returns-in-Err-clause-promise : goal.returns-in-Err-clause-promise
returns-in-Err-clause-promise g c = keeps_promise _ (returns-in-Err-clause-headline g c)

pub returns-in-Err-clause-buffers : goal.returns-in-Err-clause-buffers
returns-in-Err-clause-buffers g c done = let no : status.Refused refusal.Usage ≡ status.Done = sym c.refuse_words.ensures.status ∙ done in absurd (cc)

pub returns-in-Ok-clause-untouched : goal.returns-in-Ok-clause-untouched
returns-in-Ok-clause-untouched g c = rw (shop_taken _ c.in-Ok.command c.in-Ok.ensures.answer) c.run_command.ensures.untouched

pub returns-in-Err-clause-untouched : goal.returns-in-Err-clause-untouched
returns-in-Err-clause-untouched g c = rw (no_shop _ c.in-Err.ensures.answer) tt
