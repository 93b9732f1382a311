use Rattle.std.proofs.Common.{◌∙◌, sym}
use Rattle.safebound_words.proofs.NumberFacts.{read_digits}
use Rattle.safebound_words.proofs.number.spelled_number.Goals as goal

pub returns-in-Ok : goal.returns-in-Ok
returns-in-Ok c =
    let so = read_digits _ c.args.word.now c.parse.result c.parse.ensures.value.0 (sym c.are_digits.ensures ∙ c.if-not-are_digits.false) in
    rw c.in-Ok.is at so

pub returns-in-Err : goal.returns-in-Err
returns-in-Err c =
    let so = read_digits _ c.args.word.now c.parse.result c.parse.ensures.value.0 (sym c.are_digits.ensures ∙ c.if-not-are_digits.false) in
    rw c.in-Err.is at so
