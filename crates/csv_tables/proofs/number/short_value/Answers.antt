use Rattle.std.proofs.Common.{◌<◌, ◌^◌, arith}
use Rattle.csv_tables.proofs.NumberFacts.{few_digits}
use Rattle.csv_tables.proofs.number.short_value.Goals as goal

pub overflow_mul-size : goal.overflow_mul-size
overflow_mul-size c =
    let few : c.digits.size < 10 ^ 17 = few_digits c.digits.digit-index c.digits.size c.digits.invariant.small (omega (arith, c.requires.few, c.digits-test.true)) in
    omega (arith, few)

pub overflow_add-size : goal.overflow_add-size
overflow_add-size c =
    let few : c.digits.size < 10 ^ 17 = few_digits c.digits.digit-index c.digits.size c.digits.invariant.small (omega (arith, c.requires.few, c.digits-test.true)) in
    omega (arith, few, c.type_inv.digits c.digits.digit-index)
