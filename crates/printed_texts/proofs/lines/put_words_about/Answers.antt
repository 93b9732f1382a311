use Rattle.std.proofs.Common.{◌++◌, ◌∷◌}
use Rattle.std.specs.List.{flat_map}
use Rattle.std.proofs.lemmas.Result.{err_from_is_err_and}
use Rattle.base_io.proofs.WriteFacts.{put_equal_text, put_failed, put_failed_next, put_with_other_error, put_then}
use Rattle.printed_texts.specs.Faults.{after_blank}
use Rattle.printed_texts.specs.Words.{file_word_text}
use Rattle.printed_texts.proofs.ErrorLines.{about_are, words_now, word_parts}
use Rattle.printed_texts.proofs.lines.put_words_about.Goals as goal

pub returns-in_err-put_words : goal.returns-in_err-put_words
returns-in_err-put_words g c =
    let p = err_from_is_err_and c.from_residual.result c.from_residual.ensures.1 in
    let file = file_word_text c.args.file in
    put_with_other_error p.1 (put_equal_text (flat_map after_blank (words_now c.args.words.now ++ (file ∷ words_now c.args.more.now))) (about_are c.args.words.now c.args.more.now file)
    (put_failed (after_blank file ++ word_parts c.args.more.now) c.in_err-put_words.ensures))

pub returns-in_err-put_file : goal.returns-in_err-put_file
returns-in_err-put_file g c =
    let p = err_from_is_err_and c.from_residual-in_err-put_file.result c.from_residual-in_err-put_file.ensures.1 in
    let file = file_word_text c.args.file in
    put_with_other_error p.1 (put_failed_next (word_parts c.args.more.now) (flat_map after_blank (words_now c.args.words.now ++ (file ∷ words_now c.args.more.now)))
    (about_are c.args.words.now c.args.more.now file) c.in_ok-put_words.ensures c.in_err-put_file.ensures)

pub returns : goal.returns
returns g c =
    let file = file_word_text c.args.file in
    put_equal_text (flat_map after_blank (words_now c.args.words.now ++ (file ∷ words_now c.args.more.now))) (about_are c.args.words.now c.args.more.now file)
    (put_then c.in_ok-put_words.ensures (put_then c.in_ok-put_file.ensures c.put_words-2.ensures))
