use Rattle.std.proofs.Common.{ℕ, List, ap, arith}
use Rattle.stats_file.specs.Rules.{IsList}
use Rattle.stats_words.specs.Runs.{list_text}
use Rattle.stats_reading.specs.Drafts.{RestFollows}
use Rattle.stats_reading.proofs.WordFacts.{spells_no_follower, same_list}
use Rattle.stats_reading.proofs.takes.take_rest.Goals as goal

pub returns-then-not-rest_follows : goal.returns-then-not-rest_follows
returns-then-not-rest_follows c = λ x may e.
    let s = c.args.draft.now in
    spells_no_follower list_text (IsList s.section.rows) (RestFollows s) (λ a b. same_list s.section.rows a b (omega arith)) c.args.word.now c.in_ok-rest.field-0 c.in-Some.rest
    c.in_ok-rest.ensures c.in-Some.is (λ follows. let told = c.rest_follows.ensures.1 follows in cc) x may (ap (λ (p : List ℕ × List ℕ). p.0) e)
