use Rattle.std.proofs.Common.{◌≡◌, length, ap, sym, ◌∙◌, arith}
use Rattle.std.specs.List.{zip}
use Rattle.std.proofs.lemmas.Result.{IfOk-weaker}
use Rattle.cond_stats.specs.Columns.{CellColumn}
use Rattle.column_stats.specs.Pairs.{kind_of_column, rows_of_pair}
use Rattle.column_stats.specs.Stats.{stats_of}
use Rattle.column_stats.proofs.Columns.{are_read, cells_read, length_read, kind_read, made_are}
use Rattle.pair_tables.proofs.gathering.statistics_of_columns.Goals as goal

pub new-requires-clause-cells : goal.new-requires-clause-cells
new-requires-clause-cells c =
    are_read c.args.pool.now c.args.cells.now c.args.filter c.requires.filter c.get-kind.result.now c.as_slice-values.result.now
    (kind_read c.args.pool.now c.args.cells.now c.args.filter c.requires.filter c.get-kind.result.now c.get-kind.ensures)
    (cells_read c.args.pool.now c.args.cells.now c.args.filter c.requires.filter c.get-2.result.now c.as_slice-values.result.now c.get-2.ensures c.as_slice-values.ensures)

pub new-requires-clause-rows : goal.new-requires-clause-rows
new-requires-clause-rows c =
    omega (
      arith,
      length_read c.args.pool.now c.args.cells.now c.args.filter c.requires.filter c.as_slice-values.result.now
          (cells_read c.args.pool.now c.args.cells.now c.args.filter c.requires.filter c.get-2.result.now c.as_slice-values.result.now c.get-2.ensures c.as_slice-values.ensures),
      c.row_count-rows.ensures,
      c.row_count-rows.type_inv,
    )

pub gather_sorted-requires-clause-rows : goal.gather_sorted-requires-clause-rows
gather_sorted-requires-clause-rows c =
    omega (
      arith,
      length_read c.args.pool.now c.args.cells.now c.args.joined c.requires.joined c.as_slice-keys.result.now
          (cells_read c.args.pool.now c.args.cells.now c.args.joined c.requires.joined c.get.result.now c.as_slice-keys.result.now c.get.ensures c.as_slice-keys.ensures),
      c.row_count-rows.ensures,
      c.row_count-rows.type_inv,
    )

pub gather_sorted-requires-clause-kind : goal.gather_sorted-requires-clause-kind
gather_sorted-requires-clause-kind c = sym (ap (λ (column : CellColumn). column.kind) c.in_ok-column.ensures)

pub gather_sorted-requires-clause-joined : goal.gather_sorted-requires-clause-joined
gather_sorted-requires-clause-joined c =
    length_read c.args.pool.now c.args.cells.now c.args.joined c.requires.joined c.as_slice-keys.result.now
    (cells_read c.args.pool.now c.args.cells.now c.args.joined c.requires.joined c.get.result.now c.as_slice-keys.result.now c.get.ensures c.as_slice-keys.ensures)
    ∙ sym (length_read c.args.pool.now c.args.cells.now c.args.filter c.requires.filter c.as_slice-values.result.now
    (cells_read c.args.pool.now c.args.cells.now c.args.filter c.requires.filter c.get-2.result.now c.as_slice-values.result.now c.get-2.ensures c.as_slice-values.ensures))
    ∙ ap (λ (column : CellColumn). length column.cells) (sym c.in_ok-column.ensures)

pub returns : goal.returns
returns c =
    IfOk-weaker c.gather_sorted.result
    (λ stats. stats ≡ stats_of c.in_ok-column.column.texts c.in_ok-column.column.kind c.args.accuracy (zip c.in_ok-column.column.cells c.as_slice-keys.result.now))
    (λ stats. stats ≡ stats_of c.args.pool.now (kind_of_column c.args.cells.now c.args.filter) c.args.accuracy (rows_of_pair c.args.cells.now c.args.filter c.args.joined))
    (λ stats is. is ∙ made_are c.args.pool.now c.args.cells.now c.args.filter c.args.joined c.requires.filter c.requires.joined c.args.accuracy c.get-kind.result.now
    c.as_slice-values.result.now c.as_slice-keys.result.now c.in_ok-column.column
    (sym (kind_read c.args.pool.now c.args.cells.now c.args.filter c.requires.filter c.get-kind.result.now c.get-kind.ensures))
    (cells_read c.args.pool.now c.args.cells.now c.args.filter c.requires.filter c.get-2.result.now c.as_slice-values.result.now c.get-2.ensures c.as_slice-values.ensures)
    (cells_read c.args.pool.now c.args.cells.now c.args.joined c.requires.joined c.get.result.now c.as_slice-keys.result.now c.get.ensures c.as_slice-keys.ensures)
    c.in_ok-column.ensures) c.gather_sorted.ensures
