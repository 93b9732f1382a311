use Rattle.std.proofs.Common.{◌≤◌, arith, refl}
use Rattle.std.proofs.lemmas.Bool.{le-leb}
use Rattle.csv_tables.proofs.fields.digit_of.Goals as goal

pub returns-clause-digit : goal.returns-clause-digit
returns-clause-digit c = λ small.
    let low : 48 ≤ c.args.byte = omega (arith, small, c.ranges.byte) in
    let high : c.args.byte ≤ 57 = omega (arith, small, c.ranges.byte) in
    rw (le-leb 48 c.args.byte low, le-leb c.args.byte 57 high) refl

pub returns-clause-value : goal.returns-clause-value
returns-clause-value c = λ small. omega (arith, small, c.ranges.byte)
