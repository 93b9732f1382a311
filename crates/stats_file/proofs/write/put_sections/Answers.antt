use Rattle.std.proofs.Common.{refl, arith}
use Rattle.std.specs.List.{concat}
use Rattle.std.proofs.lemmas.Result.{err_from_is_err_and}
use Rattle.base_io.proofs.WriteFacts.{put_with_other_error, put_item, put_item_failed}
use Rattle.stats_file.specs.FileText.{section_lines}
use Rattle.stats_file.specs.declared.types.TableStats.{TableStats}
use Rattle.stats_file.proofs.write.put_sections.Goals as goal

pub returns-in_err-put_section : goal.returns-in_err-put_section
returns-in_err-put_section g c =
    let p = err_from_is_err_and c.from_residual.result c.from_residual.ensures.1 in
    put_with_other_error p.1 (put_item_failed (λ (section : TableStats). concat (section_lines c.args.schema.now section)) c.args.sections.now c.sections.section-index c.section-item.result (omega arith) c.section-item.is refl c.sections.invariant c.in_err-put_section.ensures)

pub sections-preserved : goal.sections-preserved
sections-preserved g c = put_item (λ (section : TableStats). concat (section_lines c.args.schema.now section)) c.args.sections.now c.sections.section-index c.section-item.result (omega arith) c.section-item.is refl c.sections.invariant c.in_ok-put_section.ensures
