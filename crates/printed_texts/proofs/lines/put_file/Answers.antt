use Rattle.std.proofs.lemmas.Result.{err_from_is_err_and}
use Rattle.base_io.proofs.WriteFacts.{put_failed, put_with_other_error, put_then}
use Rattle.printed_texts.specs.Words.{file_word_text}
use Rattle.printed_texts.proofs.lines.put_file.Goals as goal

pub returns-in_err-put : goal.returns-in_err-put
returns-in_err-put g c =
    let p = err_from_is_err_and c.from_residual.result c.from_residual.ensures.1 in
    put_with_other_error p.1 (put_failed (file_word_text c.args.file) c.in_err-put.ensures)

pub returns : goal.returns
returns g c =
    put_then c.in_ok-put.ensures c.put_file_name.ensures
