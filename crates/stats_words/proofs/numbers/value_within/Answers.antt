use Rattle.stats_words.proofs.NumberFacts.{value_refused}
use Rattle.stats_words.proofs.numbers.value_within.Goals as goal

pub returns-in_default : goal.returns-in_default
returns-in_default c =
    value_refused c.args.word.now c.loop-byte.byte-index c.loop-byte.value c.args.most c.loop-byte-test.true c.in_default.ensures c.loop-byte.invariant.0
