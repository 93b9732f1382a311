use Rattle.stats_reading.proofs.CodeFacts.{open_table_ends}
use Rattle.stats_reading.proofs.ends.end_table.Goals as goal

pub returns-in_default : goal.returns-in_default
returns-in_default c =
    open_table_ends c.args.draft.now.stage c.args.draft.now c.end_open_table.new.draft c.end_open_table.result c.in_default.not-Tables c.end_open_table.ensures
