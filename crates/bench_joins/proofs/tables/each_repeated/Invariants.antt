use Rattle.std.proofs.Common.{◌≡◌}
use Rattle.bench_joins.specs.Tables.{each_repeated}
use Rattle.bench_joins.proofs.tables.each_repeated.Given as goal

abbrev pub invariant-rows : goal.invariant-rows
invariant-rows l = l.cells.items ≡ each_repeated l.row l.fn.repeats
