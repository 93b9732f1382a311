use Rattle.std.proofs.lemmas.Result.{err_from_is_err_and}
use Rattle.row_printer.specs.Fields.{field_text}
use Rattle.sql_meaning.specs.Tables.{tables_of}
use Rattle.base_io.proofs.WriteFacts.{put_failed, put_with_other_error, put_then}
use Rattle.printed_texts.specs.Lines.{field_at}
use Rattle.printed_texts.proofs.rows.put_next.Goals as goal

pub returns-in_err-put_comma : goal.returns-in_err-put_comma
returns-in_err-put_comma g c =
    let p = err_from_is_err_and c.from_residual.result c.from_residual.ensures.1 in
    put_with_other_error p.1 (put_failed (field_text (field_at (tables_of c.args.db.now) c.args.line c.args.out.now)) c.in_err-put_comma.ensures)

pub returns : goal.returns
returns g c =
    put_then c.in_ok-put_comma.ensures (rw c.field.ensures at c.put_value.ensures)
