use Rattle.std.proofs.Common.{arith}
use Rattle.plain_records.proofs.OffsetFacts.{field_of, field_read_further}
use Rattle.csv_tables.proofs.DigitFacts.{digits_all}
use Rattle.csv_tables.proofs.fields.read_unsigned.Goals as goal

pub field_end-requires-then-not-is_at_end : goal.field_end-requires-then-not-is_at_end
field_end-requires-then-not-is_at_end c = field_read_further c.args.bytes.now c.args.start c.args.first c.read_digits-digits.result.end c.requires c.read_digits-digits.ensures.digits.field

pub returns-clause-field : goal.returns-clause-field
returns-clause-field c =
    field_of c.args.bytes.now c.args.start c.read_digits-digits.result.end
    (field_read_further c.args.bytes.now c.args.start c.args.first c.read_digits-digits.result.end c.requires c.read_digits-digits.ensures.digits.field)
    (c.is_at_end.ensures c.if-not-is_at_end.false)

pub returns-clause-size : goal.returns-clause-size
returns-clause-size c =
    digits_all c.args.bytes.now c.args.first c.read_digits-digits.result.end c.read_digits-digits.result.size c.read_digits-digits.ensures.digits
    (c.is_at_end.ensures c.if-not-is_at_end.false) (omega (arith, c.read_digits-digits.ensures.digits.field.from)) c.read_digits-digits.ensures.few
