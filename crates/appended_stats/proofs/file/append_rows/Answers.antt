use Rattle.appended_stats.proofs.FileKept.{file_keeps, file_made}
use Rattle.appended_stats.proofs.Growing.{all_sections_may_grow}
use Rattle.appended_stats.proofs.file.append_rows.Goals as goal

pub of-requires : goal.of-requires
of-requires c = (c.requires.rules.least, c.requires.rules.most)

pub sections_after-requires-clause-cells : goal.sections_after-requires-clause-cells
sections_after-requires-clause-cells c = c.requires.cells_are.columns

pub sections_after-requires-clause-sections : goal.sections_after-requires-clause-sections
sections_after-requires-clause-sections c = all_sections_may_grow c.args._schema.now c.args.file c.args.table c.args.pool.now c.args.cells.now c.requires

pub returns-clause-file : goal.returns-clause-file
returns-clause-file c = file_made c.args._schema.now c.args.file c.args.table c.args.pool.now c.args.cells.now c.requires c.of.result c.in_ok-tables.tables c.of.ensures c.in_ok-tables.ensures

pub returns-clause-rules : goal.returns-clause-rules
returns-clause-rules c = file_keeps c.args._schema.now c.args.file c.args.table c.args.pool.now c.args.cells.now c.requires c.of.result c.in_ok-tables.tables c.of.ensures c.in_ok-tables.ensures
