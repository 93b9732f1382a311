use Rattle.std.proofs.Common.{ℕ, List, ap}
use Rattle.stats_file.specs.Lines.{datum_text}
use Rattle.stats_file.specs.Rules.{IsOfKind}
use Rattle.stats_reading.specs.Drafts.{CutFollows}
use Rattle.stats_reading.proofs.WordFacts.{spells_no_follower, same_datum}
use Rattle.stats_reading.proofs.takes.take_cut.Goals as goal

pub returns-then-not-cut_follows : goal.returns-then-not-cut_follows
returns-then-not-cut_follows c = λ x may e.
    let s = c.args.draft.now in
    spells_no_follower datum_text (IsOfKind s.kind) (CutFollows s) (same_datum s.kind) c.args.word.now c.in_ok-value.field-0 c.in-Some.value
    c.in_ok-value.ensures c.in-Some.is (λ follows. let told = c.cut_follows.ensures.1 follows in cc) x may (ap (λ (p : List ℕ × List ℕ). p.0) e)
