use Rattle.std.proofs.Common.{[], arith}
use Rattle.std.proofs.lemmas.Result.{err_from_is_err_and}
use Rattle.base_io.proofs.WriteFacts.{put_with_other_error, put_part, put_part_failed}
use Rattle.joined_texts.specs.JoinedRows.{choice_record, joined_choices}
use Rattle.joined_texts.proofs.rows.put_rows.Goals as goal

pub returns-in_err-put_row : goal.returns-in_err-put_row
returns-in_err-put_row g c =
    let p = err_from_is_err_and c.from_residual.result c.from_residual.ensures.1 in
    let it = joined_choices c.args.listed.now in
    put_with_other_error p.1 (put_part_failed (choice_record c.args.query.now c.args.db.now it.entries) it.rows c.rows.i [] (omega arith)
    c.rows.invariant c.in_err-put_row.ensures)

pub rows-preserved : goal.rows-preserved
rows-preserved g c =
    let it = joined_choices c.args.listed.now in
    put_part (choice_record c.args.query.now c.args.db.now it.entries) it.rows c.rows.i [] (omega arith)
    c.rows.invariant c.in_ok-put_row.ensures
