use Rattle.stats_words.proofs.NumberFacts.{negative_none, negative_zero}
use Rattle.stats_words.proofs.numbers.negative_number.Goals as goal

pub returns-in_err-size : goal.returns-in_err-size
returns-in_err-size c = rw c.from_residual.ensures (negative_none c.args.digits.now c.in_err-size.ensures)

pub returns-then-size-eq0 : goal.returns-then-size-eq0
returns-then-size-eq0 c = negative_zero c.args.digits.now c.in_ok-size.size c.if-size-eq0.true c.in_ok-size.ensures
