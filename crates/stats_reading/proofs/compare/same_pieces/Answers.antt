use Rattle.std.proofs.Common.{◌≤◌, ap, length, refl, arith}
use Rattle.stats_reading.proofs.CodeFacts.{same_elements}
use Rattle.stats_reading.proofs.compare.same_pieces.Goals as goal

pub returns-then-not-have_same_length : goal.returns-then-not-have_same_length
returns-then-not-have_same_length c = (λ t. absurd (cc), λ e. let told = c.have_same_length.ensures.1 (ap length e) in cc)

pub returns : goal.returns
returns c =
    let all : length c.args.a.now ≤ c.loop-i.i = omega arith in (
      λ t. same_elements c.args.a.now c.args.b.now (c.have_same_length.ensures.0 (cc)) (λ k d lt. c.loop-i.invariant k d (omega arith)),
      λ e. refl,
    )
