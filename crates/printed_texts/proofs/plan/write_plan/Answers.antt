use Rattle.std.proofs.lemmas.Result.{err_from_is_err_and}
use Rattle.base_io.proofs.WriteFacts.{wrote_with_last_flush, put_failed, put_then, wrote_err}
use Rattle.plans.specs.Orders.{order_of_tree}
use Rattle.printed_texts.specs.Plans.{level_lines}
use Rattle.printed_texts.proofs.plan.write_plan.Goals as goal

pub returns-in_err-write_scans : goal.returns-in_err-write_scans
returns-in_err-write_scans g c =
    let p = err_from_is_err_and c.from_residual.result c.from_residual.ensures.1 in
    let order = order_of_tree c.args.plan.now in
    wrote_err c.new-buffer.ensures p.1 (put_failed (level_lines 1 c.args.sources.now order.order order.levels) (rw c.as_slice.ensures at c.in_err-write_scans.ensures))

pub returns-in_err-write_levels : goal.returns-in_err-write_levels
returns-in_err-write_levels g c =
    let p = err_from_is_err_and c.from_residual-in_err-write_levels.result c.from_residual-in_err-write_levels.ensures.1 in
    wrote_err c.new-buffer.ensures p.1 (put_then (rw c.as_slice.ensures at c.in_ok-write_scans.ensures) c.in_err-write_levels.ensures)

pub returns : goal.returns
returns g c = wrote_with_last_flush c.new-buffer.ensures (put_then (rw c.as_slice.ensures at c.in_ok-write_scans.ensures) c.in_ok-write_levels.ensures) c.flush.ensures.wrote
