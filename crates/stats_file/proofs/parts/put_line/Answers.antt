use Rattle.std.proofs.Common.{refl, arith}
use Rattle.std.proofs.lemmas.Result.{err_from_is_err_and}
use Rattle.base_io.proofs.WriteFacts.{put_with_other_error, put_item, put_item_failed}
use Rattle.stats_file.specs.Parts.{part_text}
use Rattle.stats_file.proofs.parts.put_line.Goals as goal

pub returns-in_err-put_part : goal.returns-in_err-put_part
returns-in_err-put_part g c =
    let p = err_from_is_err_and c.from_residual.result c.from_residual.ensures.1 in
    put_with_other_error p.1 (put_item_failed (part_text) c.args.parts.now c.parts.part-index c.part-item.result (omega arith) c.part-item.is refl c.parts.invariant c.in_err-put_part.ensures)

pub parts-preserved : goal.parts-preserved
parts-preserved g c = put_item (part_text) c.args.parts.now c.parts.part-index c.part-item.result (omega arith) c.part-item.is refl c.parts.invariant c.in_ok-put_part.ensures
