use Rattle.stats_words.proofs.ListWordFacts.{no_star, run_is}
use Rattle.stats_words.proofs.lists.is_run_word.Goals as goal

pub returns-in-None : goal.returns-in-None
returns-in-None c = (λ t. absurd (cc), λ is. absurd (no_star c.args.word.now c.in-None.ensures is))

pub returns-in-Some : goal.returns-in-Some
returns-in-Some c =
    let r = run_is c.args.word.now c.in-Some.value.now c.in-Some.count.now c.in-Some.ensures in
    (λ t. r.1 (c.are_numerals.ensures.0 t), λ is. c.are_numerals.ensures.1 (r.0 is))
