use Rattle.std.proofs.Common.{List, map, ap, sym, ◌∙◌, subst, refl, arith}
use Rattle.std.proofs.lemmas.List.{take_all}
use Rattle.gathered_stats.specs.declared.paired_rows.PickedColumn.{PickedColumn}
use Rattle.gathered_stats.specs.declared.filters.SortedColumn.{SortedColumn}
use Rattle.gathered_stats.specs.PairedRows.{IsPicked}
use Rattle.gathered_stats.specs.Filters.{IsFilterOf}
use Rattle.gathered_stats.specs.ShownCells.{cells_at}
use Rattle.gathered_stats.proofs.Picking.{one_more, one_sorted, read_cells, read_count, sorted_is, sorted_serve}
use Rattle.gathered_stats.proofs.paired_rows.sorted_columns.Goals as goal

pub new-requires-clause-cells : goal.new-requires-clause-cells
new-requires-clause-cells c =
    let here : IsPicked c.args.cells.now c.args.rows.now c.one-item.result.column c.one-item.result =
    subst (λ (p : PickedColumn). IsPicked c.args.cells.now c.args.rows.now p.column p) (sym c.one-item.is)
    (c.requires.columns c.loop-one.one-index c.one-item.result c.loop-one-test.true) in
    read_cells c.args.pool.now c.args.cells.now c.requires.cells c.args.rows.now c.requires.rows c.one-item.result here c.as_slice.result.now c.as_slice.ensures

pub new-requires-clause-rows : goal.new-requires-clause-rows
new-requires-clause-rows c =
    let here : IsPicked c.args.cells.now c.args.rows.now c.one-item.result.column c.one-item.result =
    subst (λ (p : PickedColumn). IsPicked c.args.cells.now c.args.rows.now p.column p) (sym c.one-item.is)
    (c.requires.columns c.loop-one.one-index c.one-item.result c.loop-one-test.true) in
    omega (
      arith,
      read_count c.args.pool.now c.args.cells.now c.requires.cells c.args.rows.now c.requires.rows c.one-item.result here c.as_slice.result.now c.as_slice.ensures,
      c.requires.few,
    )

pub loop-one-preserved : goal.loop-one-preserved
loop-one-preserved c =
    let one : PickedColumn = c.one-item.result in
    let here : IsPicked c.args.cells.now c.args.rows.now one.column one =
    subst (λ (p : PickedColumn). IsPicked c.args.cells.now c.args.rows.now p.column p) (sym c.one-item.is)
    (c.requires.columns c.loop-one.one-index one c.loop-one-test.true) in
    let filter : SortedColumn = record { column = one.column; sorted = c.in_ok-sorted.sorted } in (
      one_more (IsFilterOf c.args.pool.now (cells_at c.args.rows.now c.args.cells.now)) c.loop-one.filters c.push.new.self filter c.loop-one.invariant.0
          (sorted_is c.args.pool.now c.args.cells.now c.requires.cells c.args.rows.now c.requires.rows one here c.as_slice.result.now c.as_slice.ensures c.in_ok-sorted.sorted c.in_ok-sorted.ensures)
          c.in_ok-push.ensures.ok,
      one_sorted c.args.columns.now c.loop-one.one-index one c.loop-one.filters c.push.new.self filter c.loop-one-test.true c.one-item.is c.loop-one.invariant.1 refl c.in_ok-push.ensures.ok,
    )

pub returns-clause-has_column : goal.returns-clause-has_column
returns-clause-has_column c = λ step serve.
    sorted_serve c.args.columns.now c.loop-one.filters
    (c.loop-one.invariant.1 ∙ ap (λ (s : List PickedColumn). map (λ one. one.column) s) (take_all c.loop-one.one-index c.args.columns.now c.loop-one-test.false)) step serve
