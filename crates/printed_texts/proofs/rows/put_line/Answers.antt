use Rattle.std.specs.Prelude.{codes}
use Rattle.std.proofs.lemmas.Result.{err_from_is_err_and}
use Rattle.base_io.proofs.WriteFacts.{put_failed, put_with_other_error, put_then}
use Rattle.printed_texts.proofs.rows.put_line.Goals as goal

pub returns-in_err-put_fields : goal.returns-in_err-put_fields
returns-in_err-put_fields g c =
    let p = err_from_is_err_and c.from_residual.result c.from_residual.ensures.1 in
    put_with_other_error p.1 (put_failed (codes "\r\n") c.in_err-put_fields.ensures)

pub returns : goal.returns
returns g c =
    put_then c.in_ok-put_fields.ensures c.put_record_end.ensures
