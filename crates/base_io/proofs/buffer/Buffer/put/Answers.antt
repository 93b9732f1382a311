use Rattle.std.proofs.lemmas.Result.{err_from_is_err_and}
use Rattle.base_io.proofs.WriteFacts.{put_with_other_error, put_directly, put_if_flush_fails}
use Rattle.base_io.proofs.buffer.Buffer.put.Goals as goal

pub returns-in_err-flush : goal.returns-in_err-flush
returns-in_err-flush g c =
    let p = err_from_is_err_and c.from_residual.result c.from_residual.ensures.1 in
    put_with_other_error p.1 (put_if_flush_fails c.args.bytes.now c.in_err-flush.ensures.wrote)

pub returns-in_err-write_all : goal.returns-in_err-write_all
returns-in_err-write_all g c =
    let p = err_from_is_err_and c.from_residual-in_err-write_all.result c.from_residual-in_err-write_all.ensures.1 in
    put_with_other_error p.1 (put_directly c.in_ok-flush.ensures.empty c.in_ok-flush.ensures.wrote c.in_err-write_all.ensures)

pub returns : goal.returns
returns g c = put_directly c.in_ok-flush.ensures.empty c.in_ok-flush.ensures.wrote c.in_ok-write_all.ensures
