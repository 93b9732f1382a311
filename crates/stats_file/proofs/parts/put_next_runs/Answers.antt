use Rattle.std.proofs.Common.{◌++◌, arith}
use Rattle.std.specs.Prelude.{codes}
use Rattle.std.proofs.lemmas.Result.{err_from_is_err_and}
use Rattle.base_io.proofs.WriteFacts.{put_with_other_error, put_part, put_part_failed}
use Rattle.stats_file.specs.Lines.{run_text}
use Rattle.piece_math.specs.declared.pieces.Piece.{Piece}
use Rattle.stats_file.proofs.parts.put_next_runs.Goals as goal

pub returns-in_err-put_next_run : goal.returns-in_err-put_next_run
returns-in_err-put_next_run g c =
    let p = err_from_is_err_and c.from_residual.result c.from_residual.ensures.1 in
    put_with_other_error p.1 (put_part_failed (λ (next : Piece). codes " " ++ run_text next) c.args.runs.now c.runs.run-index _ (omega arith) c.runs.invariant c.in_err-put_next_run.ensures)

pub runs-preserved : goal.runs-preserved
runs-preserved g c = put_part (λ (next : Piece). codes " " ++ run_text next) c.args.runs.now c.runs.run-index _ (omega arith) c.runs.invariant c.in_ok-put_next_run.ensures
