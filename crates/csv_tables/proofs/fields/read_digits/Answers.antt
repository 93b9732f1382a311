use Rattle.std.proofs.Common.{ℕ, ◌+◌, ◌-◌, ◌*◌, ◌<◌, ◌≤◌, ◌^◌, arith, length, subst, sym}
use Rattle.csv_tables.specs.Fields.{DigitsSoFar}
use Rattle.csv_tables.proofs.DigitFacts.{digits_more, digits_none, digits_small}
use Rattle.csv_tables.proofs.fields.read_digits.Goals as goal

pub overflow_mul-size : goal.overflow_mul-size
overflow_mul-size c =
    let short : c.digits.end - c.args.first < 18 = omega (arith, c.digits.invariant.so_far.field.from) in
    let few : c.digits.size < 10 ^ 17 = digits_small c.args.bytes.now c.args.first c.digits.end c.digits.size c.digits.invariant.so_far short in
    omega (arith, few)

pub overflow_add-size : goal.overflow_add-size
overflow_add-size c =
    let short : c.digits.end - c.args.first < 18 = omega (arith, c.digits.invariant.so_far.field.from) in
    let few : c.digits.size < 10 ^ 17 = digits_small c.args.bytes.now c.args.first c.digits.end c.digits.size c.digits.invariant.so_far short in
    omega (arith, few)

pub digits-init : goal.digits-init
digits-init c = record { so_far = digits_none c.args.bytes.now c.args.first c.requires; few = omega arith }

pub digits-preserved : goal.digits-preserved
digits-preserved c =
    let digit : c.digit_of-digit.result ≤ 9 = omega arith in
    let within : c.digits.end < length c.args.bytes.now = omega arith in
    record {
      so_far = subst (λ (d : ℕ). DigitsSoFar c.args.bytes.now c.args.first (c.digits.end + 1) (c.digits.size * 10 + d)) (sym (c.digit_of-digit.ensures.value digit))
          (digits_more c.args.bytes.now c.args.first c.digits.end c.digits.size c.digits.invariant.so_far within (c.digit_of-digit.ensures.digit digit));
      few = omega (arith, c.digits.invariant.so_far.field.from);
    }
