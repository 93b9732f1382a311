use Rattle.std.proofs.Common.{◌++◌, sym}
use Rattle.std.specs.List.{flat_map}
use Rattle.std.proofs.lemmas.Result.{err_from_is_err_and}
use Rattle.stats_file.specs.FileText.{file_text}
use Rattle.stats_file.specs.Lines.{end_line}
use Rattle.stats_file.proofs.TextFacts.{file_text_is, section_part}
use Rattle.base_io.proofs.WriteFacts.{wrote_with_last_flush, put_failed, put_then, wrote_equal_text, wrote_err}
use Rattle.stats_file.proofs.write.write_stats.Goals as goal

pub returns-in_err-put_first_line : goal.returns-in_err-put_first_line
returns-in_err-put_first_line g c =
    let p = err_from_is_err_and c.from_residual.result c.from_residual.ensures.1 in
    wrote_equal_text (file_text c.args.schema.now c.args.file.now) (sym (file_text_is c.args.schema.now c.args.file.now))
    (wrote_err c.new-buffer.ensures p.1 (put_failed (flat_map (section_part c.args.schema.now) c.args.file.now.tables ++ end_line) c.in_err-put_first_line.ensures))

pub returns-in_err-put_sections : goal.returns-in_err-put_sections
returns-in_err-put_sections g c =
    let p = err_from_is_err_and c.from_residual-in_err-put_sections.result c.from_residual-in_err-put_sections.ensures.1 in
    wrote_equal_text (file_text c.args.schema.now c.args.file.now) (sym (file_text_is c.args.schema.now c.args.file.now))
    (wrote_err c.new-buffer.ensures p.1 (put_then c.in_ok-put_first_line.ensures (put_failed end_line (rw c.as_slice.ensures at c.in_err-put_sections.ensures))))

pub returns-in_err-put : goal.returns-in_err-put
returns-in_err-put g c =
    let p = err_from_is_err_and c.from_residual-in_err-put.result c.from_residual-in_err-put.ensures.1 in
    wrote_equal_text (file_text c.args.schema.now c.args.file.now) (sym (file_text_is c.args.schema.now c.args.file.now))
    (wrote_err c.new-buffer.ensures p.1 (put_then c.in_ok-put_first_line.ensures (put_then (rw c.as_slice.ensures at c.in_ok-put_sections.ensures) c.in_err-put.ensures)))

pub returns : goal.returns
returns g c =
    wrote_equal_text (file_text c.args.schema.now c.args.file.now) (sym (file_text_is c.args.schema.now c.args.file.now))
    (wrote_with_last_flush c.new-buffer.ensures
    (put_then c.in_ok-put_first_line.ensures (put_then (rw c.as_slice.ensures at c.in_ok-put_sections.ensures) c.in_ok-put.ensures))
    c.flush.ensures.wrote)
