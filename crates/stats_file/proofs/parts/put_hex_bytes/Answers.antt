use Rattle.std.proofs.Common.{arith}
use Rattle.std.proofs.lemmas.Result.{err_from_is_err_and}
use Rattle.base_io.proofs.WriteFacts.{put_with_other_error, put_part, put_part_failed}
use Rattle.stats_file.specs.Lines.{hex_byte}
use Rattle.stats_file.proofs.parts.put_hex_bytes.Goals as goal

pub returns-in_err-put_hex_byte : goal.returns-in_err-put_hex_byte
returns-in_err-put_hex_byte g c =
    let p = err_from_is_err_and c.from_residual.result c.from_residual.ensures.1 in
    put_with_other_error p.1 (put_part_failed (hex_byte) c.args.bytes.now c.bytes.byte-index _ (omega arith) c.bytes.invariant c.in_err-put_hex_byte.ensures)

pub bytes-preserved : goal.bytes-preserved
bytes-preserved g c = put_part (hex_byte) c.args.bytes.now c.bytes.byte-index _ (omega arith) c.bytes.invariant c.in_ok-put_hex_byte.ensures
