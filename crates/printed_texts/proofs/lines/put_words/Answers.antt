use Rattle.std.proofs.Common.{List, ℕ, arith}
use denote.Bor.{Bor}
use Rattle.std.proofs.lemmas.Result.{err_from_is_err_and}
use Rattle.base_io.proofs.WriteFacts.{put_with_other_error, put_part, put_part_failed}
use Rattle.printed_texts.specs.Faults.{after_blank}
use Rattle.printed_texts.proofs.lines.put_words.Goals as goal

pub returns-in_err-put_word : goal.returns-in_err-put_word
returns-in_err-put_word g c =
    let p = err_from_is_err_and c.from_residual.result c.from_residual.ensures.1 in
    put_with_other_error p.1 (put_part_failed (λ (w : Bor (List ℕ)). after_blank w.now) c.args.words.now c.words.word-index _ (omega arith) c.words.invariant c.in_err-put_word.ensures)

pub words-preserved : goal.words-preserved
words-preserved g c =
    put_part (λ (w : Bor (List ℕ)). after_blank w.now) c.args.words.now c.words.word-index _ (omega arith) c.words.invariant c.in_ok-put_word.ensures
