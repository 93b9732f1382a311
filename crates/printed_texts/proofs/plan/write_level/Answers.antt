use Rattle.std.specs.Prelude.{codes}
use Rattle.std.proofs.lemmas.Result.{err_from_is_err_and}
use Rattle.base_io.proofs.WriteFacts.{put_failed, put_with_other_error, put_then}
use Rattle.printed_texts.proofs.plan.write_level.Goals as goal

pub returns-in_err-put_level_bound : goal.returns-in_err-put_level_bound
returns-in_err-put_level_bound g c =
    let p = err_from_is_err_and c.from_residual.result c.from_residual.ensures.1 in
    put_with_other_error p.1 (put_failed (codes "\n") c.in_err-put_level_bound.ensures)

pub returns : goal.returns
returns g c =
    put_then c.in_ok-put_level_bound.ensures c.put.ensures
