use Rattle.std.proofs.Common.{◌-◌, drop, take, length}
use Rattle.std.specs.List.{flat_map}
use Rattle.std.proofs.lemmas.Result.{err_from_is_err_and}
use Rattle.sql_meaning.specs.Tables.{tables_of}
use Rattle.base_io.proofs.WriteFacts.{put_equal_text, put_failed, put_with_other_error, put_then}
use Rattle.printed_texts.specs.Lines.{fields_at, next_field}
use Rattle.printed_texts.proofs.Records.{several}
use Rattle.printed_texts.proofs.rows.put_several.Goals as goal

pub returns-in_err-put_value : goal.returns-in_err-put_value
returns-in_err-put_value g c =
    let p = err_from_is_err_and c.from_residual.result c.from_residual.ensures.1 in
    let outs = c.args.outs.now in
    let tables = tables_of c.args.db.now in
    put_with_other_error p.1 (put_equal_text (fields_at outs tables c.args.line) (several outs c.index-outs-0.result tables c.args.line c.requires.several c.index-outs-0.is)
    (put_failed (flat_map (next_field tables c.args.line) (take (length outs - 1) (drop 1 outs))) (rw c.field.ensures at c.in_err-put_value.ensures)))

pub returns : goal.returns
returns g c =
    let outs = c.args.outs.now in
    let tables = tables_of c.args.db.now in
    put_equal_text (fields_at outs tables c.args.line) (several outs c.index-outs-0.result tables c.args.line c.requires.several c.index-outs-0.is)
    (put_then (rw c.field.ensures at c.in_ok-put_value.ensures) c.put_others.ensures)
