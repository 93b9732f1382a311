use Rattle.std.proofs.Common.{◌≡◌, ℕ, List, length, get_or, ap, sym, ◌∙◌}
use Rattle.std.specs.List.{range_with_len}
use Rattle.std.proofs.lemmas.List.{length-map}
use Rattle.std.proofs.lemmas.List.FromFn.{length-range_with_len}
use Rattle.std.proofs.lemmas.Option.{MatchOption-at_some}
use Rattle.cond_stats.specs.Lists.{compressed_degrees}
use Rattle.csv_tables.specs.declared.types.Cells.{Cells}
use Rattle.gathered_stats.specs.Columns.{keys_in}
use Rattle.gathered_stats.specs.ShownCells.{shown_cells}
use Rattle.gathered_stats.proofs.Asking.{columns_of_kinds}
use Rattle.gathered_stats.proofs.Entries.{keys_are_cells}
use Rattle.gathered_stats.proofs.Picking.{all_picked, column_beside, rows_read}
use Rattle.gathered_stats.proofs.ShownCells.{shown_if_given_rows}
use Rattle.gathered_stats.proofs.WholeLists.{whole_list_within_limit}
use Rattle.gathered_stats.proofs.paired_rows.gather_other.Goals as goal

pub get-requires : goal.get-requires
get-requires c = columns_of_kinds c.args.table.now.pool.now c.args.cells.now c.requires.cells c.args.column c.requires.column

pub picked-requires : goal.picked-requires
picked-requires c =
    rows_read c.args.table.now.pool.now c.args.cells.now c.requires.cells c.args.rows.now c.requires.rows c.args.column c.get.result.now c.as_slice-all.result.now
    c.requires.column c.get.ensures c.as_slice-all.ensures

pub list_steps_over-requires-clause-keys : goal.list_steps_over-requires-clause-keys
list_steps_over-requires-clause-keys c =
    let all : c.args.rows.now ≡ range_with_len 0 (length c.as_slice-all.result.now) = c.is_each_row.ensures c.if-is_each_row.true in
    sym (ap (λ (s : List ℕ). length s) all ∙ length-range_with_len 0 (length c.as_slice-all.result.now))
    ∙ c.requires.beside ∙ sym (ap (λ (cells : Cells). cells.rows) (shown_if_given_rows c.args.table.now c.requires.at_rows))

pub list_steps_over-requires-clause-whole : goal.list_steps_over-requires-clause-whole
list_steps_over-requires-clause-whole c = λ asks.
    let given : c.in-Some.whole.now ≡ compressed_degrees c.args.table.now.accuracy (keys_in c.args.cells.now c.args.column) = MatchOption-at_some _ _ c.in-Some.whole c.in-Some.is c.requires.whole in
    given ∙ ap (compressed_degrees c.args.table.now.accuracy)
    (sym (keys_are_cells c.args.cells.now c.args.column c.get.result.now c.as_slice-all.result.now c.get.ensures c.as_slice-all.ensures))

pub list_steps_over-requires-clause-rows : goal.list_steps_over-requires-clause-rows
list_steps_over-requires-clause-rows c =
    whole_list_within_limit c.args.table.now.accuracy (shown_cells c.args.table.now).rows (keys_in c.args.cells.now c.args.column) c.as_slice-all.result.now c.in-Some.whole.now
    (keys_are_cells c.args.cells.now c.args.column c.get.result.now c.as_slice-all.result.now c.get.ensures c.as_slice-all.ensures) (list_steps_over-requires-clause-keys c)
    c.requires.ready.rows (MatchOption-at_some _ _ c.in-Some.whole c.in-Some.is c.requires.whole)

pub list_steps-requires-clause-keys : goal.list_steps-requires-clause-keys
list_steps-requires-clause-keys c =
    let all : c.args.rows.now ≡ range_with_len 0 (length c.as_slice-all.result.now) = c.is_each_row.ensures c.if-is_each_row.true in
    sym (ap (λ (s : List ℕ). length s) all ∙ length-range_with_len 0 (length c.as_slice-all.result.now))
    ∙ c.requires.beside ∙ sym (ap (λ (cells : Cells). cells.rows) (shown_if_given_rows c.args.table.now c.requires.at_rows))

pub list_steps-requires-2-clause-keys : goal.list_steps-requires-2-clause-keys
list_steps-requires-2-clause-keys c =
    ap (λ (s : List ℕ). length s) (c.as_slice.ensures ∙ c.in_ok-keys.ensures) ∙ length-map c.args.rows.now (λ (row : ℕ). get_or c.as_slice-all.result.now row 0)
    ∙ c.requires.beside ∙ sym (ap (λ (cells : Cells). cells.rows) (shown_if_given_rows c.args.table.now c.requires.at_rows))

pub returns-in-Some-clause-steps : goal.returns-in-Some-clause-steps
returns-in-Some-clause-steps c =
    column_beside c.list_steps_over.result c.args.table.now.pool.now (shown_cells c.args.table.now) c.args.table.now.accuracy c.args.cells.now c.args.rows.now c.args.steps.now c.args.column
    c.get.result.now c.as_slice-all.result.now c.as_slice-all.result.now c.get.ensures c.as_slice-all.ensures
    (all_picked c.args.rows.now c.as_slice-all.result.now (c.is_each_row.ensures c.if-is_each_row.true)) c.list_steps_over.ensures.column c.list_steps_over.ensures.steps

pub returns-in-None-clause-steps : goal.returns-in-None-clause-steps
returns-in-None-clause-steps c =
    column_beside c.list_steps.result c.args.table.now.pool.now (shown_cells c.args.table.now) c.args.table.now.accuracy c.args.cells.now c.args.rows.now c.args.steps.now c.args.column
    c.get.result.now c.as_slice-all.result.now c.as_slice-all.result.now c.get.ensures c.as_slice-all.ensures
    (all_picked c.args.rows.now c.as_slice-all.result.now (c.is_each_row.ensures c.if-is_each_row.true)) c.list_steps.ensures.column c.list_steps.ensures.steps

pub returns-clause-steps : goal.returns-clause-steps
returns-clause-steps c =
    column_beside c.list_steps-2.result c.args.table.now.pool.now (shown_cells c.args.table.now) c.args.table.now.accuracy c.args.cells.now c.args.rows.now c.args.steps.now c.args.column
    c.get.result.now c.as_slice-all.result.now c.as_slice.result.now c.get.ensures c.as_slice-all.ensures
    (c.as_slice.ensures ∙ c.in_ok-keys.ensures) c.list_steps-2.ensures.column c.list_steps-2.ensures.steps
