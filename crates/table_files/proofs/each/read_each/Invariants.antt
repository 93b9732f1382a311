use Rattle.std.specs.Prelude.{All}
use Rattle.base_io.specs.Devices.{reading}
use Rattle.table_files.proofs.EachTable.{TablesReadSoFar}
use Rattle.table_files.proofs.FewRows.{HasRowsWithinLimit}
use Rattle.table_files.proofs.each.read_each.Given as goal

abbrev pub invariant-numbers : goal.invariant-numbers
invariant-numbers g l = record {
  so_far : TablesReadSoFar l.schema l.numbers (reading g.S.Store.files g.S.Store.faults g.S.Store.misses l.initial.store l.store) l.number-index l.pool l.found;
  few_rows : All HasRowsWithinLimit l.found;
}
