use Rattle.std.proofs.Common.{ℕ, List, ap, arith}
use Rattle.stats_file.specs.Rules.{IsList}
use Rattle.stats_words.specs.Runs.{list_text}
use Rattle.stats_reading.specs.Drafts.{NodeFollows}
use Rattle.stats_reading.proofs.WordFacts.{spells_no_follower, same_list}
use Rattle.stats_reading.proofs.takes.take_node.Goals as goal

pub returns-then-not-node_follows : goal.returns-then-not-node_follows
returns-then-not-node_follows c = λ x may e.
    let s = c.args.draft.now in
    spells_no_follower list_text (IsList s.section.rows) (NodeFollows s) (λ a b. same_list s.section.rows a b (omega arith)) c.args.word.now c.in_ok-node.field-0 c.in-Some.node
    c.in_ok-node.ensures c.in-Some.is (λ follows. let told = c.node_follows.ensures.1 follows in cc) x may (ap (λ (p : List ℕ × List ℕ). p.0) e)
