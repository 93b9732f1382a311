use Rattle.std.proofs.Common.{sym, ◌∙◌}
use Rattle.plain_records.proofs.OffsetFacts.{field_ends, field_more, field_past}
use Rattle.plain_records.proofs.lines.field_end.Goals as goal

pub returns-after-bytes : goal.returns-after-bytes
returns-after-bytes c = field_past c.args.bytes.now c.args.start c.bytes.at c.bytes.invariant c.bytes-test.false

pub returns-else-not-ends_field : goal.returns-else-not-ends_field
returns-else-not-ends_field c = field_ends c.args.bytes.now c.args.start c.bytes.at c.bytes.invariant c.bytes-test.true (sym c.ends_field.ensures ∙ c.if-not-ends_field.false)

pub bytes-preserved : goal.bytes-preserved
bytes-preserved c = field_more c.args.bytes.now c.args.start c.bytes.at c.bytes.invariant c.bytes-test.true (sym c.ends_field.ensures ∙ c.if-not-ends_field.true)
