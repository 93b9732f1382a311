use Rattle.std.proofs.Common.{◌++◌}
use Rattle.std.specs.Prelude.{codes}
use Rattle.std.proofs.lemmas.Result.{err_from_is_err_and}
use Rattle.base_io.proofs.WriteFacts.{wrote_with_last_flush, put_equal_text, put_failed, put_failed_next, put_then, wrote_err}
use Rattle.printed_texts.specs.Faults.{error_line}
use Rattle.printed_texts.proofs.ErrorLines.{line_is, words_now, word_parts, words_are}
use Rattle.printed_texts.proofs.lines.write_error_line.Goals as goal

pub returns-in_err-put : goal.returns-in_err-put
returns-in_err-put g c =
    let p = err_from_is_err_and c.from_residual.result c.from_residual.ensures.1 in
    wrote_err c.new-buffer.ensures p.1 (put_equal_text (error_line (words_now c.args.words.now)) (line_is (words_now c.args.words.now) (word_parts c.args.words.now) (words_are c.args.words.now)) (put_failed (word_parts c.args.words.now ++ codes "\n") c.in_err-put.ensures))

pub returns-in_err-put_words : goal.returns-in_err-put_words
returns-in_err-put_words g c =
    let p = err_from_is_err_and c.from_residual-in_err-put_words.result c.from_residual-in_err-put_words.ensures.1 in
    wrote_err c.new-buffer.ensures p.1 (put_failed_next (codes "\n") (error_line (words_now c.args.words.now)) (line_is (words_now c.args.words.now) (word_parts c.args.words.now) (words_are c.args.words.now)) c.in_ok-put.ensures c.in_err-put_words.ensures)

pub returns-in_err-put-2 : goal.returns-in_err-put-2
returns-in_err-put-2 g c =
    let p = err_from_is_err_and c.from_residual-in_err-put-2.result c.from_residual-in_err-put-2.ensures.1 in
    wrote_err c.new-buffer.ensures p.1 (put_equal_text (error_line (words_now c.args.words.now)) (line_is (words_now c.args.words.now) (word_parts c.args.words.now) (words_are c.args.words.now))
    (put_then c.in_ok-put.ensures (put_then c.in_ok-put_words.ensures c.in_err-put-2.ensures)))

pub returns : goal.returns
returns g c =
    wrote_with_last_flush c.new-buffer.ensures (put_equal_text (error_line (words_now c.args.words.now)) (line_is (words_now c.args.words.now) (word_parts c.args.words.now) (words_are c.args.words.now))
    (put_then c.in_ok-put.ensures (put_then c.in_ok-put_words.ensures c.in_ok-put-2.ensures))) c.flush.ensures.wrote
