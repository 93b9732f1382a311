use Rattle.stats_file.specs.Grammar.{IsRunWord}
use Rattle.stats_words.proofs.ListWordFacts.{run_words_without_blank, run_words_split}
use Rattle.stats_words.proofs.lists.are_run_words.Goals as goal

pub returns-then-not-is_run_word : goal.returns-then-not-is_run_word
returns-then-not-is_run_word c =
    let r = run_words_split c.runs.rest.now c.in-Some.run'.now c.in-Some.others.now c.in-Some.ensures in
    (λ t. absurd (cc), λ are. let told = c.is_run_word.ensures.1 (r.0 (c.runs.invariant.1 are)).0 in cc)

pub runs-preserved : goal.runs-preserved
runs-preserved c =
    let r = run_words_split c.runs.rest.now c.in-Some.run'.now c.in-Some.others.now c.in-Some.ensures in
    let is : IsRunWord c.in-Some.run'.now = c.is_run_word.ensures.0 (cc) in
    (λ are. c.runs.invariant.0 (r.1 (is, are)), λ are. (r.0 (c.runs.invariant.1 are)).1)

pub returns : goal.returns
returns c =
    let l = run_words_without_blank c.runs.rest.now c.in_default.ensures in
    (λ t. c.runs.invariant.0 (l.1 (c.is_run_word-2.ensures.0 t)), λ are. c.is_run_word-2.ensures.1 (l.0 (c.runs.invariant.1 are)))
