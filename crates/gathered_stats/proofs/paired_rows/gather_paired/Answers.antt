use Rattle.std.proofs.Common.{List, sym, subst, arith}
use Rattle.std.proofs.lemmas.Result.{IfOk-weaker}
use Rattle.csv_tables.specs.declared.types.Cells.{Cells}
use Rattle.gathered_stats.specs.declared.filters.SortedColumn.{SortedColumn}
use Rattle.gathered_stats.specs.PairedRows.{IsGatheredForPaired}
use Rattle.gathered_stats.specs.ShownCells.{AreRowNumbersOf}
use Rattle.gathered_stats.proofs.Entries.{cells_are_valid, own_read, steps_ask_within}
use Rattle.gathered_stats.proofs.Joined.{columns_exist}
use Rattle.gathered_stats.proofs.Picking.{beside_gathered, serve_each}
use Rattle.gathered_stats.proofs.ShownCells.{are_cells_at}
use Rattle.gathered_stats.proofs.StatisticsOfTables.{columns_have, their_lists}
use Rattle.gathered_stats.proofs.paired_rows.gather_paired.Goals as goal

pub cells_in_entry-cells-requires-clause-cells : goal.cells_in_entry-cells-requires-clause-cells
cells_in_entry-cells-requires-clause-cells c =
    c.requires.database.tables.slots c.args.beside.now.entry 0 (omega (arith, c.requires.entry, c.requires.database.entries))

pub cells_in_entry-requires-clause-cells : goal.cells_in_entry-requires-clause-cells
cells_in_entry-requires-clause-cells c =
    c.requires.database.tables.slots c.args.beside.now.other 0 (omega (arith, c.requires.other, c.requires.database.entries))

pub picked_columns-requires-clause-cells : goal.picked_columns-requires-clause-cells
picked_columns-requires-clause-cells c =
    cells_are_valid c.args.query.now c.args.db.now c.requires.database c.args.beside.now.entry c.cells_in_entry-cells.result.now c.requires.entry c.cells_in_entry-cells.ensures

pub picked_columns-requires-clause-exist : goal.picked_columns-requires-clause-exist
picked_columns-requires-clause-exist c =
    steps_ask_within c.args.query.now c.args.db.now c.requires.database c.args.beside.now.entry c.cells_in_entry-cells.result.now c.in_ok-steps.steps c.as_slice-steps.result.now
    c.cells_in_entry-cells.ensures c.in_ok-steps.ensures c.as_slice-steps.ensures

pub picked_columns-requires-clause-rows : goal.picked_columns-requires-clause-rows
picked_columns-requires-clause-rows c = subst (λ (cells : Cells). AreRowNumbersOf cells c.args.beside.now.rows.now) (sym c.cells_in_entry-cells.ensures) c.requires.rows

pub gather_for_other_entry-requires-clause-ready : goal.gather_for_other_entry-requires-clause-ready
gather_for_other_entry-requires-clause-ready c = record {
  cells = are_cells_at c.args.db.now.pool c.cells_in_entry-cells.result.now c.args.beside.now.rows.now
      (cells_are_valid c.args.query.now c.args.db.now c.requires.database c.args.beside.now.entry c.cells_in_entry-cells.result.now c.requires.entry c.cells_in_entry-cells.ensures)
      (subst (λ (cells : Cells). AreRowNumbersOf cells c.args.beside.now.rows.now) (sym c.cells_in_entry-cells.ensures) c.requires.rows);
  rows = c.requires.few;
  filters = c.in_ok-filters.ensures.filters;
}

pub gather_for_other_entry-requires-clause-has_column : goal.gather_for_other_entry-requires-clause-has_column
gather_for_other_entry-requires-clause-has_column c = serve_each c.in_ok-picked.picked c.as_slice.result.now c.as_slice.ensures c.in_ok-filters.filters c.as_slice-steps.result.now c.in_ok-picked.ensures.has_column c.in_ok-filters.ensures.has_column

pub gather_for_other_entry-requires-clause-rows : goal.gather_for_other_entry-requires-clause-rows
gather_for_other_entry-requires-clause-rows c = subst (λ (cells : Cells). AreRowNumbersOf cells c.args.beside.now.other_rows.now) (sym c.cells_in_entry.ensures) c.requires.other_rows

pub gather_for_other_entry-requires-clause-cells : goal.gather_for_other_entry-requires-clause-cells
gather_for_other_entry-requires-clause-cells c =
    cells_are_valid c.args.query.now c.args.db.now c.requires.database c.args.beside.now.other c.cells_in_entry.result.now c.requires.other c.cells_in_entry.ensures

pub gather_for_other_entry-requires-clause-columns : goal.gather_for_other_entry-requires-clause-columns
gather_for_other_entry-requires-clause-columns c =
    columns_exist c.args.query.now c.args.db.now c.requires.database c.args.beside.now.other c.cells_in_entry.result.now c.args.parts.now.equalities c.as_slice-2.result.now c.in_ok-columns.columns
    c.as_slice-3.result.now c.cells_in_entry.ensures c.requires.equalities c.as_slice-2.ensures c.in_ok-columns.ensures c.as_slice-3.ensures

pub gather_for_other_entry-requires-clause-lists : goal.gather_for_other_entry-requires-clause-lists
gather_for_other_entry-requires-clause-lists c =
    columns_have c.args.query.now c.args.db.now c.args.accuracy c.requires.database c.characters_differ.ensures
    (their_lists c.args.db.now c.args.accuracy c.requires.database.tables c.characters_differ.ensures) c.args.beside.now.other c.cells_in_entry.result.now c.requires.other c.cells_in_entry.ensures

pub gather_for_other_entry-requires-clause-other_stats : goal.gather_for_other_entry-requires-clause-other_stats
gather_for_other_entry-requires-clause-other_stats c =
    own_read c.args.query.now c.args.db.now c.args.accuracy c.args.beside.now.other c.args.beside.now.other_stats.now c.cells_in_entry.result.now c.in_ok-own_steps.own_steps c.as_slice-4.result.now
    c.requires.other_stats c.cells_in_entry.ensures c.in_ok-own_steps.ensures c.as_slice-4.ensures

pub returns : goal.returns
returns c =
    let filters : List SortedColumn = c.in_ok-filters.filters in
    IfOk-weaker c.gather_for_other_entry.result _ (IsGatheredForPaired c.args.query.now c.args.db.now c.args.accuracy c.args.beside.now.entry c.args.beside.now.rows.now c.args.beside.now.other c.args.beside.now.other_rows.now)
    (λ stats made.
    beside_gathered c.args.query.now c.args.db.now c.args.accuracy c.args.beside.now.entry c.args.beside.now.rows.now c.args.beside.now.other c.args.beside.now.other_rows.now
    c.cells_in_entry-cells.result.now c.cells_in_entry.result.now c.args.parts.now.equalities c.as_slice-2.result.now c.in_ok-columns.columns c.as_slice-3.result.now c.in_ok-steps.steps
    c.as_slice-steps.result.now stats c.cells_in_entry-cells.ensures c.cells_in_entry.ensures c.requires.equalities c.as_slice-2.ensures c.in_ok-columns.ensures c.as_slice-3.ensures c.in_ok-steps.ensures
    c.as_slice-steps.ensures made.columns_are made.steps_are)
    c.gather_for_other_entry.ensures
