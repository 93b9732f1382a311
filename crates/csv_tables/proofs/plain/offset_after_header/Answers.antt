use Rattle.csv_tables.proofs.PlainFacts.{behind_first}
use Rattle.csv_tables.proofs.plain.offset_after_header.Goals as goal

pub returns-clause-records : goal.returns-clause-records
returns-clause-records c =
    behind_first c.args.bytes.now c.byte_order_mark_length.result c.skip_line_ends-start.result c.line_at.result.next c.byte_order_mark_length.ensures.rest c.skip_line_ends-start.ensures.records
    c.skip_line_ends-start.ensures.at_text c.line_at.ensures.rest
