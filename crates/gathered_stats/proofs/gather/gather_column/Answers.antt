use Rattle.std.proofs.Common.{◌≡◌, ℕ, List, length, ap, sym, ◌∙◌, subst, arith}
use Rattle.std.proofs.lemmas.List.{length-replicate}
use Rattle.csv_tables.specs.declared.types.Cells.{Cells}
use Rattle.sql_meaning.specs.Databases.{AreCells}
use Rattle.gathered_stats.specs.Columns.{keys_in}
use Rattle.gathered_stats.specs.ShownCells.{shown_cells}
use Rattle.gathered_stats.proofs.Entries.{column_made, keys_as_long_as_rows, keys_made, keys_are_cells}
use Rattle.gathered_stats.proofs.ShownCells.{shown_if_all_rows}
use Rattle.gathered_stats.proofs.gather.gather_column.Goals as goal

pub list_steps-requires-clause-keys : goal.list_steps-requires-clause-keys
list_steps-requires-clause-keys c =
    let is : shown_cells c.args.table.now ≡ c.args.table.now.cells.now = shown_if_all_rows c.args.table.now c.requires.whole in
    keys_as_long_as_rows c.args.table.now.pool.now c.args.table.now.cells.now (subst (AreCells c.args.table.now.pool.now) is c.requires.ready.cells) c.args.column c.get-cells.result.now c.as_slice.result.now
    (omega (arith, c.if-at-len.true, c.len.ensures)) c.get-cells.ensures c.as_slice.ensures
    ∙ sym (ap (λ (cells : Cells). cells.rows) is)

pub list_steps-requires-2-clause-keys : goal.list_steps-requires-2-clause-keys
list_steps-requires-2-clause-keys c =
    ap (λ (s : List ℕ). length s) (c.as_slice-2.ensures.value ∙ c.in_ok-keys.ensures) ∙ length-replicate c.args.table.now.cells.now.rows 0
    ∙ sym (ap (λ (cells : Cells). cells.rows) (shown_if_all_rows c.args.table.now c.requires.whole))

pub returns-then-at-len-clause-steps : goal.returns-then-at-len-clause-steps
returns-then-at-len-clause-steps c =
    let is : shown_cells c.args.table.now ≡ c.args.table.now.cells.now = shown_if_all_rows c.args.table.now c.requires.whole in
    column_made c.list_steps.result c.args.table.now.pool.now (shown_cells c.args.table.now) c.args.table.now.accuracy c.args.column c.as_slice.result.now c.args.steps.now
    (keys_are_cells c.args.table.now.cells.now c.args.column c.get-cells.result.now c.as_slice.result.now c.get-cells.ensures c.as_slice.ensures
    ∙ sym (ap (λ (cells : Cells). keys_in cells c.args.column) is))
    c.list_steps.ensures.column c.list_steps.ensures.steps

pub returns-clause-steps : goal.returns-clause-steps
returns-clause-steps c =
    let is : shown_cells c.args.table.now ≡ c.args.table.now.cells.now = shown_if_all_rows c.args.table.now c.requires.whole in
    column_made c.list_steps-2.result c.args.table.now.pool.now (shown_cells c.args.table.now) c.args.table.now.accuracy c.args.column c.as_slice-2.result.now c.args.steps.now
    (keys_made c.args.table.now.cells.now c.args.column c.in_ok-keys.keys.items c.as_slice-2.result.now (omega (arith, c.if-at-len.false, c.len.ensures)) c.in_ok-keys.ensures c.as_slice-2.ensures.value
    ∙ sym (ap (λ (cells : Cells). keys_in cells c.args.column) is))
    c.list_steps-2.ensures.column c.list_steps-2.ensures.steps
