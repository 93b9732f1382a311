use Rattle.std.specs.List.{flat_map}
use Rattle.std.proofs.lemmas.Result.{err_from_is_err_and}
use Rattle.stats_file.specs.Lines.{hex_byte}
use Rattle.base_io.proofs.WriteFacts.{put_failed, put_with_other_error, put_then}
use Rattle.stats_file.proofs.parts.put_hex.Goals as goal

pub returns-in_err-put : goal.returns-in_err-put
returns-in_err-put g c =
    let p = err_from_is_err_and c.from_residual.result c.from_residual.ensures.1 in
    put_with_other_error p.1 (put_failed (flat_map hex_byte c.args.bytes.now) c.in_err-put.ensures)

pub returns : goal.returns
returns g c =
    put_then c.in_ok-put.ensures c.put_hex_bytes.ensures
