use Rattle.std.proofs.Common.{arith}
use Rattle.stats_words.proofs.NumberFacts.{none_read, number_read}
use Rattle.stats_words.proofs.numbers.number.Goals as goal

pub returns-then-not-may_begin_numeral : goal.returns-then-not-may_begin_numeral
returns-then-not-may_begin_numeral c =
    none_read c.args.word.now c.args.most c.may_begin_numeral.result (omega (arith, c.ranges.most)) c.may_begin_numeral.ensures (cc)

pub returns : goal.returns
returns c =
    number_read c.args.word.now c.args.most c.may_begin_numeral.result c.value_within.result (omega (arith, c.ranges.most)) c.may_begin_numeral.ensures (cc) c.value_within.ensures
