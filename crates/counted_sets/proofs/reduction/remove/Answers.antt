use Rattle.std.proofs.Common.{sym, ◌∙◌, ◌≡◌, true, false, length, rules, subst}
use Rattle.counted_sets.specs.Counts.{CountsAreCorrect}
use Rattle.counted_sets.proofs.Removing.{enough_left, not_marked, removed}
use Rattle.counted_sets.proofs.reduction.remove.Goals as goal

pub returns-then-not-get-clause-marks : goal.returns-then-not-get-clause-marks
returns-then-not-get-clause-marks c =
    let gone : c.get.result ≡ false = search rules in
    sym (not_marked c.args.marks.now.items c.args.item (c.get.ensures false ∙ gone))

pub lower_counts-requires-clause-enough : goal.lower_counts-requires-clause-enough
lower_counts-requires-clause-enough c =
    let stands : c.get.result ≡ true = search rules in
    enough_left (length c.args.marks.now.items) (length c.args.counts.now.items) c.args.uses.now c.args.marks.now.items c.args.counts.now.items c.args.work.now c.args.item c.requires.counted c.requires.item (c.get.ensures false ∙ stands)

pub returns-clause-counted : goal.returns-clause-counted
returns-clause-counted c =
    let stands : c.get.result ≡ true = search rules in
    subst (λ marks. CountsAreCorrect (length c.args.marks.now.items) (length c.args.counts.now.items) c.args.uses.now marks c.lower_counts.new.counts.items c.lower_counts.new.work) (sym c.set.ensures.items)
    (removed (length c.args.marks.now.items) (length c.args.counts.now.items) c.args.uses.now c.args.marks.now.items c.args.counts.now.items c.lower_counts.new.counts.items c.args.work.now c.lower_counts.new.work c.args.item
    c.requires.counted c.requires.item (c.get.ensures false ∙ stands) c.lower_counts.ensures.length c.lower_counts.ensures.counts c.lower_counts.ensures.listed)
