use Rattle.std.proofs.Common.{arith}
use Rattle.stats_words.proofs.RunTexts.{no_count, no_run, no_value, some_run}
use Rattle.stats_words.proofs.lists.run_of_words.Goals as goal

pub returns-in_err-value : goal.returns-in_err-value
returns-in_err-value c =
    rw c.from_residual.ensures (no_value c.args.below c.args.left c.args.value.now c.args.count.now (omega (arith, c.requires)) c.in_err-value.ensures)

pub returns-in_err-count : goal.returns-in_err-count
returns-in_err-count c =
    rw c.from_residual-in_err-count.ensures (no_count c.args.below c.args.left c.args.value.now c.args.count.now (omega (arith, c.requires)) c.in_err-count.ensures)

pub returns-then-may_follow : goal.returns-then-may_follow
returns-then-may_follow c =
    rw c.from-value.ensures (some_run c.args.below c.args.left c.args.value.now c.args.count.now c.in_ok-value.value c.in_ok-count.count c.in_ok-value.ensures c.in_ok-count.ensures
    (c.may_follow.ensures.0 (cc)))

pub returns-else-may_follow : goal.returns-else-may_follow
returns-else-may_follow c =
    no_run c.args.below c.args.left c.args.value.now c.args.count.now c.in_ok-value.value c.in_ok-count.count (omega (arith, c.requires)) c.in_ok-value.ensures c.in_ok-count.ensures
    (λ may. let told = c.may_follow.ensures.1 may in cc)
