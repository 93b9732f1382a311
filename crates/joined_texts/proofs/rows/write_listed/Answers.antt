use Rattle.std.specs.List.{flat_map}
use Rattle.std.proofs.lemmas.Result.{err_from_is_err_and}
use Rattle.base_io.proofs.WriteFacts.{wrote_with_last_flush, put_equal_text, put_failed, put_then, wrote_err}
use Rattle.printed_texts.specs.Texts.{rows_lines}
use Rattle.joined_texts.specs.JoinedRows.{choice_record, joined_choices}
use Rattle.joined_texts.specs.Printed.{selected_rows}
use Rattle.joined_texts.proofs.Printing.{whole_text}
use Rattle.joined_texts.proofs.rows.write_listed.Goals as goal

pub returns-in_err-put_line : goal.returns-in_err-put_line
returns-in_err-put_line g c =
    let p = err_from_is_err_and c.from_residual.result c.from_residual.ensures.1 in
    let query = c.args.query.now in
    let db = c.args.db.now in
    let it = joined_choices c.args.listed.now in
    wrote_err c.new-buffer.ensures p.1
    (put_equal_text (rows_lines query.select (selected_rows query db it.entries it.rows))
    (whole_text query db it.entries it.rows c.as_slice.result.now c.as_slice.ensures)
    (put_failed (flat_map (choice_record query db it.entries) it.rows) c.in_err-put_line.ensures))

pub returns-in_err-put_rows : goal.returns-in_err-put_rows
returns-in_err-put_rows g c =
    let p = err_from_is_err_and c.from_residual-in_err-put_rows.result c.from_residual-in_err-put_rows.ensures.1 in
    let query = c.args.query.now in
    let db = c.args.db.now in
    let it = joined_choices c.args.listed.now in
    wrote_err c.new-buffer.ensures p.1
    (put_equal_text (rows_lines query.select (selected_rows query db it.entries it.rows))
    (whole_text query db it.entries it.rows c.as_slice.result.now c.as_slice.ensures)
    (put_then c.in_ok-put_line.ensures c.in_err-put_rows.ensures))

pub returns : goal.returns
returns g c =
    let query = c.args.query.now in
    let db = c.args.db.now in
    let it = joined_choices c.args.listed.now in
    wrote_with_last_flush c.new-buffer.ensures
    (put_equal_text (rows_lines query.select (selected_rows query db it.entries it.rows))
    (whole_text query db it.entries it.rows c.as_slice.result.now c.as_slice.ensures)
    (put_then c.in_ok-put_line.ensures c.in_ok-put_rows.ensures))
    c.flush.ensures.wrote
