use Rattle.std.proofs.Common.{arith}
use Rattle.std.proofs.lemmas.Result.{err_from_is_err_and}
use Rattle.base_io.proofs.WriteFacts.{put_with_other_error, put_part, put_part_failed}
use Rattle.base_io.proofs.buffer.Buffer.put_parts.Goals as goal

pub returns-in_err-put : goal.returns-in_err-put
returns-in_err-put g c =
    let p = err_from_is_err_and c.from_residual.result c.from_residual.ensures.1 in
    put_with_other_error p.1 (put_part_failed (λ p. p.now) c.args.parts.now c.parts.part-index _ (omega arith) c.parts.invariant c.in_err-put.ensures)

pub parts-preserved : goal.parts-preserved
parts-preserved g c = put_part (λ p. p.now) c.args.parts.now c.parts.part-index _ (omega arith) c.parts.invariant c.in_ok-put.ensures
