use Rattle.bench_joins.specs.Tables.{AreNumbers}
use Rattle.bench_joins.proofs.tables.scattered.Given as goal

abbrev pub invariant-rows : goal.invariant-rows
invariant-rows l = AreNumbers l.row l.cells.items
