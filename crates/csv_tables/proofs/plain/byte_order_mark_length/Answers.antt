use Rattle.std.proofs.Common.{◌∙◌, sym}
use Rattle.csv_tables.proofs.PlainFacts.{mark_there, no_mark}
use Rattle.csv_tables.proofs.plain.byte_order_mark_length.Goals as goal

pub returns-then-starts_with-clause-rest : goal.returns-then-starts_with-clause-rest
returns-then-starts_with-clause-rest c = mark_there c.args.bytes.now (sym c.starts_with.ensures.value ∙ c.if-starts_with.true)

pub returns-else-starts_with-clause-rest : goal.returns-else-starts_with-clause-rest
returns-else-starts_with-clause-rest c = no_mark c.args.bytes.now (sym c.starts_with.ensures.value ∙ c.if-starts_with.false)
