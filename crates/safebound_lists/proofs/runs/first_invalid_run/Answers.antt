use Rattle.std.proofs.Common.{length, arith}
use Rattle.safebound_lists.specs.First.{IsFirstWrong}
use Rattle.safebound_lists.specs.Runs.{IsValidAt}
use Rattle.safebound_lists.proofs.Following.{no_run_is_tested_yet, one_more_tested, too_many_keys_are_invalid, rising_degree_is_invalid}
use Rattle.safebound_lists.proofs.runs.first_invalid_run.Goals as goal
use Rattle.safebound_lists.proofs.runs.first_invalid_run.Goals.{then-run-eq0-via-then-run-eq0, then-run-eq0-via-else-run-eq0+then-run-eq0-2, then-run-eq0-via-else-run-eq0+else-run-eq0-2+then-run-least, then-run-eq0-via-else-run-eq0+else-run-eq0-2+else-run-least+then-run-remaining}

pub loop-place-init : goal.loop-place-init
loop-place-init c = no_run_is_tested_yet c.args.runs.now

pub loop-place-preserved : goal.loop-place-preserved
loop-place-preserved c =
    one_more_tested c.args.runs.now c.loop-place.place c.loop-place.least c.loop-place.remaining c.loop-place.invariant c.loop-place-test.true
    (omega (arith, c.if-run-eq0.false)) (omega (arith, c.if-run-eq0-2.false)) c.if-run-least.false c.if-run-remaining.false

pub returns-then-run-eq0 : goal.returns-then-run-eq0
returns-then-run-eq0 c = elim c.then-run-eq0.branch [
  | then-run-eq0-via-then-run-eq0 w ↦ wrong (λ may. absurd (omega (arith, may.degree, w.if-run-eq0.true)))
  | then-run-eq0-via-else-run-eq0+then-run-eq0-2 w ↦ wrong (λ may. absurd (omega (arith, may.keys, w.if-run-eq0-2.true)))
  | then-run-eq0-via-else-run-eq0+else-run-eq0-2+then-run-least w ↦ wrong
      (rising_degree_is_invalid c.args.runs.now c.loop-place.place c.loop-place.least c.loop-place.remaining c.loop-place.invariant c.loop-place-test.true (omega arith) w.if-run-least.true)
  | then-run-eq0-via-else-run-eq0+else-run-eq0-2+else-run-least+then-run-remaining w ↦ wrong
      (too_many_keys_are_invalid c.args.runs.now c.loop-place.place c.loop-place.least c.loop-place.remaining c.loop-place.invariant c.loop-place-test.true
      (omega (arith, w.if-run-eq0.false)) w.if-run-remaining.true)
]
  where
    wrong : (IsValidAt c.args.runs.now c.loop-place.place → ⊥) → IsFirstWrong (IsValidAt c.args.runs.now) (length c.args.runs.now) c.loop-place.place
    wrong bad = record { within = c.loop-place-test.true; wrong = bad; before = c.loop-place.invariant.valid }
