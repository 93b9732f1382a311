use Rattle.std.proofs.Common.{map}
use Rattle.std.specs.Prelude.{codes}
use Rattle.std.specs.Char.{to_ascii_lowercase}
use Rattle.std.proofs.lemmas.Result.{err_from_is_err_and}
use Rattle.base_io.proofs.WriteFacts.{put_failed, put_with_other_error, put_then}
use Rattle.printed_texts.proofs.lines.put_table_file.Goals as goal

pub returns-in_err-put_lower : goal.returns-in_err-put_lower
returns-in_err-put_lower g c =
    let p = err_from_is_err_and c.from_residual.result c.from_residual.ensures.1 in
    put_with_other_error p.1 (put_failed {a = map to_ascii_lowercase c.args.table.now.name} (codes ".csv") (rw (c.as_bytes.ensures.value, c.as_str.ensures) at c.in_err-put_lower.ensures))

pub returns : goal.returns
returns g c =
    put_then {a = map to_ascii_lowercase c.args.table.now.name} (rw (c.as_bytes.ensures.value, c.as_str.ensures) at c.in_ok-put_lower.ensures) c.put.ensures
