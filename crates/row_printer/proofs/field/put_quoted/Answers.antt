use Rattle.std.proofs.Common.{◌++◌}
use Rattle.std.specs.Prelude.{codes}
use Rattle.std.proofs.lemmas.Result.{err_from_is_err_and}
use Rattle.base_io.proofs.WriteFacts.{put_failed, put_with_other_error, put_then}
use Rattle.row_printer.specs.Fields.{doubled}
use Rattle.row_printer.proofs.field.put_quoted.Goals as goal

pub returns-in_err-put : goal.returns-in_err-put
returns-in_err-put g c =
    let p = err_from_is_err_and c.from_residual.result c.from_residual.ensures.1 in
    put_with_other_error p.1 (put_failed (doubled c.args.field.now ++ codes "\"") c.in_err-put.ensures)

pub returns-in_err-put_doubled : goal.returns-in_err-put_doubled
returns-in_err-put_doubled g c =
    let p = err_from_is_err_and c.from_residual-in_err-put_doubled.result c.from_residual-in_err-put_doubled.ensures.1 in
    put_with_other_error p.1 (put_then c.in_ok-put.ensures (put_failed (codes "\"") c.in_err-put_doubled.ensures))

pub returns : goal.returns
returns g c = put_then c.in_ok-put.ensures (put_then c.in_ok-put_doubled.ensures c.put-2.ensures)
