use Rattle.std.proofs.Common.{◌∙◌, refl, arith}
use Rattle.table_files.proofs.Loads.{no_memory_reads}
use Rattle.table_files.proofs.OneTable.{own_rows}
use Rattle.table_files.proofs.table.load_table.Goals as goal

pub returns-in_default-clause-reads : goal.returns-in_default-clause-reads
returns-in_default-clause-reads g c = no_memory_reads _ _ _ refl (omega arith) refl

pub returns-clause-reads : goal.returns-clause-reads
returns-clause-reads g c = own_rows c.args.number c.args.table.now c.as_str.result.now (c.as_str.ensures.value ∙ c.in-Ok.ensures) c.load_rows.ensures.reads
