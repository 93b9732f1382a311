use Rattle.std.proofs.lemmas.Result.{err_from_is_err_and}
use Rattle.base_io.proofs.WriteFacts.{put_equal_text, wrote_with_last_flush, wrote_err}
use Rattle.sql_meaning.specs.Tables.{tables_of}
use Rattle.plans.specs.Orders.{order_of_tree}
use Rattle.printed_texts.specs.Plans.{audit_lines}
use Rattle.joined_texts.specs.Printed.{constants_of, level_counts}
use Rattle.joined_texts.proofs.AuditLines.{audit_is}
use Rattle.joined_texts.proofs.audit.write_audit.Goals as goal

pub returns-in_err-put_levels : goal.returns-in_err-put_levels
returns-in_err-put_levels g c =
    let p = err_from_is_err_and c.from_residual.result c.from_residual.ensures.1 in
    let query = c.args.query.now in
    let its = order_of_tree c.args.plan.now in
    let nodes = c.args.done.now.nodes in
    let all = constants_of query (tables_of c.args.db.now) in
    wrote_err c.new-buffer.ensures p.1 (put_equal_text (audit_lines query.from its (level_counts all its.order nodes)) (audit_is _ query.from c.args.plan.now nodes _ all c.as_slice-sources.ensures c.constants_hold-constants.ensures)
    c.in_err-put_levels.ensures)

pub returns : goal.returns
returns g c =
    let query = c.args.query.now in
    let its = order_of_tree c.args.plan.now in
    let nodes = c.args.done.now.nodes in
    let all = constants_of query (tables_of c.args.db.now) in
    wrote_with_last_flush c.new-buffer.ensures
    (put_equal_text (audit_lines query.from its (level_counts all its.order nodes)) (audit_is _ query.from c.args.plan.now nodes _ all c.as_slice-sources.ensures c.constants_hold-constants.ensures) c.in_ok-put_levels.ensures)
    c.flush.ensures.wrote
