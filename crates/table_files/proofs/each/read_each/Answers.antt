use Rattle.std.proofs.Common.{refl}
use Rattle.std.proofs.lemmas.List.Elements.{All-push}
use Rattle.std.proofs.lemmas.Result.{err_from_is_err_and}
use Rattle.table_files.proofs.EachTable.{next_read, next_stops}
use Rattle.table_files.proofs.FewRows.{HasRowsWithinLimit}
use Rattle.table_files.proofs.each.read_each.Goals as goal

pub returns-in_err-cells-clause-reads : goal.returns-in_err-cells-clause-reads
returns-in_err-cells-clause-reads g c =
    let p = err_from_is_err_and c.from_residual.result c.from_residual.ensures.1 in
    rw (p.1, p.2) (next_stops c.args.schema.now c.args.numbers.now _ _ (record { files = refl; faults = refl; misses = refl }) c.numbers.number-index _ c.numbers.pool c.numbers.found
    c.numbers-test.true refl c.get-table.result.now c.get-table.ensures c.numbers.invariant.so_far c.in_err-cells.field-0.0 c.in_err-cells.ensures.reads)

pub numbers-preserved : goal.numbers-preserved
numbers-preserved g c = record {
  so_far = rw c.in-Ok.ensures.ok (next_read c.args.schema.now c.args.numbers.now _ _ (record { files = refl; faults = refl; misses = refl }) c.numbers.number-index _ c.numbers.pool c.numbers.found
      c.numbers-test.true refl c.get-table.result.now c.get-table.ensures c.numbers.invariant.so_far c.load_table.new.pool c.in_ok-cells.cells c.in_ok-cells.ensures.begins c.in_ok-cells.ensures.more
      c.in_ok-cells.ensures.cells c.in_ok-cells.ensures.file c.in_ok-cells.ensures.reads);
  few_rows = rw c.in-Ok.ensures.ok (All-push HasRowsWithinLimit c.numbers.found c.in_ok-cells.cells c.numbers.invariant.few_rows c.in_ok-cells.ensures.few);
}
