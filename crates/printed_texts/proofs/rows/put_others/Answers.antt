use Rattle.std.proofs.Common.{refl, arith}
use Rattle.std.proofs.lemmas.Result.{err_from_is_err_and}
use Rattle.sql_meaning.specs.Tables.{tables_of}
use Rattle.base_io.proofs.WriteFacts.{put_with_other_error, put_item, put_item_failed}
use Rattle.printed_texts.specs.Lines.{next_field}
use Rattle.printed_texts.proofs.rows.put_others.Goals as goal

pub returns-in_err-put_next : goal.returns-in_err-put_next
returns-in_err-put_next g c =
    let p = err_from_is_err_and c.from_residual.result c.from_residual.ensures.1 in
    put_with_other_error p.1 (put_item_failed (next_field (tables_of c.args.db.now) c.args.line) c.args.outs.now c.outs.out-index c.out-item.result
    (omega arith) c.out-item.is refl c.outs.invariant c.in_err-put_next.ensures)

pub outs-preserved : goal.outs-preserved
outs-preserved g c =
    put_item (next_field (tables_of c.args.db.now) c.args.line) c.args.outs.now c.outs.out-index c.out-item.result
    (omega arith) c.out-item.is refl c.outs.invariant c.in_ok-put_next.ensures
