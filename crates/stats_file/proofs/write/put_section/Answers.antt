use Rattle.std.proofs.Common.{sym}
use Rattle.std.specs.List.{concat, flat_map}
use Rattle.std.proofs.lemmas.Option.{slice_get_within}
use Rattle.std.proofs.lemmas.Result.{err_from_is_err_and}
use Rattle.stats_file.specs.FileText.{section_lines}
use Rattle.stats_file.proofs.RuleFacts.{have_columns}
use Rattle.stats_file.proofs.TextFacts.{pair_part, section_text_is}
use Rattle.base_io.proofs.WriteFacts.{put_equal_text, put_failed, put_with_other_error, put_then}
use Rattle.stats_file.proofs.write.put_section.Goals as goal

pub get-table-requires : goal.get-table-requires
get-table-requires g c = slice_get_within _ _ _ c.requires.table_is

pub put_pairs-requires : goal.put_pairs-requires
put_pairs-requires g c = rw c.as_slice.ensures (have_columns c.args.schema.now c.args.section.now c.get-table.result.now c.requires c.get-table.ensures)

pub returns-in_err-put_table_line : goal.returns-in_err-put_table_line
returns-in_err-put_table_line g c =
    let p = err_from_is_err_and c.from_residual.result c.from_residual.ensures.1 in
    put_with_other_error p.1 (put_equal_text (concat (section_lines c.args.schema.now c.args.section.now))
    (sym (section_text_is c.args.schema.now c.args.section.now c.get-table.result.now c.get-table.ensures))
    (put_failed (flat_map (pair_part c.get-table.result.now) c.args.section.now.pairs) (rw c.as_str.ensures at c.in_err-put_table_line.ensures)))

pub returns : goal.returns
returns g c =
    put_equal_text (concat (section_lines c.args.schema.now c.args.section.now))
    (sym (section_text_is c.args.schema.now c.args.section.now c.get-table.result.now c.get-table.ensures))
    (put_then (rw c.as_str.ensures at c.in_ok-put_table_line.ensures) (rw c.as_slice.ensures at c.put_pairs.ensures))
