use Rattle.std.proofs.Common.{arith}
use Rattle.std.proofs.lemmas.Result.{err_from_is_err_and}
use Rattle.base_io.proofs.WriteFacts.{put_with_other_error, put_part, put_part_failed}
use Rattle.row_printer.specs.Fields.{doubled_quote}
use Rattle.row_printer.proofs.field.put_doubled.Goals as goal

pub returns-in_err-put_byte_doubling_quotes : goal.returns-in_err-put_byte_doubling_quotes
returns-in_err-put_byte_doubling_quotes g c =
    let p = err_from_is_err_and c.from_residual.result c.from_residual.ensures.1 in
    put_with_other_error p.1 (put_part_failed doubled_quote c.args.field.now c.bytes.byte-index 0 (omega arith) c.bytes.invariant c.in_err-put_byte_doubling_quotes.ensures)

pub bytes-preserved : goal.bytes-preserved
bytes-preserved g c = put_part doubled_quote c.args.field.now c.bytes.byte-index 0 (omega arith) c.bytes.invariant c.in_ok-put_byte_doubling_quotes.ensures
