use Rattle.std.proofs.Common.{◌+◌, drop, refl}
use Rattle.plain_records.specs.Plain.{first_field}
use Rattle.plain_records.proofs.OffsetFacts.{field_begins}
use Rattle.csv_tables.proofs.DigitFacts.{begins_with, below_zero_is, from_zero_is, past_minus, small_size}
use Rattle.csv_tables.proofs.fields.read_number.Goals as goal

pub read_unsigned-sized-requires : goal.read_unsigned-sized-requires
read_unsigned-sized-requires c = let minus = c.is_minus.ensures c.if-is_minus.true in past_minus c.args.bytes.now c.args.start minus.0 minus.1

pub read_unsigned-sized-requires-else-is_minus : goal.read_unsigned-sized-requires-else-is_minus
read_unsigned-sized-requires-else-is_minus c = field_begins c.args.bytes.now c.args.start c.requires

pub below_zero-requires : goal.below_zero-requires
below_zero-requires c = small_size (first_field (drop (c.args.start + 1) c.args.bytes.now)) c.read_unsigned-sized.result.size c.read_unsigned-sized.ensures.size

pub returns-then-is_minus : goal.returns-then-is_minus
returns-then-is_minus c =
    let minus = c.is_minus.ensures c.if-is_minus.true in
    record {
      begins = refl;
      is_field = c.read_unsigned-sized.ensures.field;
      number = rw c.below_zero.ensures (below_zero_is (first_field (drop c.args.start c.args.bytes.now)) (first_field (drop (c.args.start + 1) c.args.bytes.now)) c.read_unsigned-sized.result.size
          (begins_with c.args.bytes.now c.args.start minus.0 minus.1) c.read_unsigned-sized.ensures.size);
    }

pub from_zero-requires : goal.from_zero-requires
from_zero-requires c = small_size (first_field (drop c.args.start c.args.bytes.now)) c.read_unsigned-sized-else-is_minus.result.size c.read_unsigned-sized-else-is_minus.ensures.size

pub returns-else-is_minus : goal.returns-else-is_minus
returns-else-is_minus c = record {
  begins = refl;
  is_field = c.read_unsigned-sized-else-is_minus.ensures.field;
  number = rw c.from_zero.ensures (from_zero_is (first_field (drop c.args.start c.args.bytes.now)) c.read_unsigned-sized-else-is_minus.result.size c.read_unsigned-sized-else-is_minus.ensures.size);
}
