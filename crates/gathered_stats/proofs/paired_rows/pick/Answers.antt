use Rattle.std.proofs.Common.{refl}
use Rattle.gathered_stats.proofs.Asking.{columns_of_kinds}
use Rattle.gathered_stats.proofs.Picking.{is_picked, rows_read}
use Rattle.gathered_stats.proofs.paired_rows.pick.Goals as goal

pub get-requires : goal.get-requires
get-requires c = columns_of_kinds c.args.pool.now c.args.cells.now c.requires.cells c.args.column c.requires.exists

pub picked-requires : goal.picked-requires
picked-requires c = rows_read c.args.pool.now c.args.cells.now c.requires.cells c.args.rows.now c.requires.rows c.args.column c.get.result.now c.as_slice.result.now c.requires.exists c.get.ensures c.as_slice.ensures

pub returns : goal.returns
returns c =
    is_picked c.args.pool.now c.args.cells.now c.requires.cells c.args.rows.now c.requires.rows c.args.column c.get-kind.result.now c.get.result.now c.as_slice.result.now _ _
    c.requires.exists c.get-kind.ensures c.get.ensures c.as_slice.ensures c.in_ok-at_rows.ensures refl refl refl
