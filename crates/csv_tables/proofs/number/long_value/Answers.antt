use Rattle.std.proofs.Common.{◌∙◌, ◌+◌, drop, get_or, sym}
use Rattle.std.proofs.lemmas.List.{at_drop_more}
use Rattle.csv_tables.specs.Numbers.{decimal_after}
use Rattle.csv_tables.proofs.NumberFacts.{too_large}
use Rattle.csv_tables.proofs.number.long_value.Goals as goal

pub returns-then-next-most : goal.returns-then-next-most
returns-then-next-most c =
    sym (too_large c.args.most c.args.digits.now c.digits.size (get_or c.args.digits.now c.digits.digit-index 0) (drop (c.digits.digit-index + 1) c.args.digits.now)
    (c.digits.invariant.spelled ∙ at_drop_more (decimal_after c.digits.size) c.args.digits.now c.digits.digit-index 0 c.digits-test.true) c.if-next-most.true)
