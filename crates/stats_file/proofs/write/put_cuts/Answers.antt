use Rattle.std.proofs.Common.{refl, arith}
use Rattle.std.proofs.lemmas.Result.{err_from_is_err_and}
use Rattle.base_io.proofs.WriteFacts.{put_with_other_error, put_item, put_item_failed}
use Rattle.stats_file.specs.Lines.{cut_line}
use Rattle.stats_file.proofs.write.put_cuts.Goals as goal

pub returns-in_err-put_cut_line : goal.returns-in_err-put_cut_line
returns-in_err-put_cut_line g c =
    let p = err_from_is_err_and c.from_residual.result c.from_residual.ensures.1 in
    put_with_other_error p.1 (put_item_failed (cut_line) c.args.cuts.now c.cuts.cut-index c.cut-item.result (omega arith) c.cut-item.is refl c.cuts.invariant c.in_err-put_cut_line.ensures)

pub cuts-preserved : goal.cuts-preserved
cuts-preserved g c = put_item (cut_line) c.args.cuts.now c.cuts.cut-index c.cut-item.result (omega arith) c.cut-item.is refl c.cuts.invariant c.in_ok-put_cut_line.ensures
