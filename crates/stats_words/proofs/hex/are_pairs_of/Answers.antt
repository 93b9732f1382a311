use Rattle.std.proofs.Common.{◌≡◌, ◌*◌, ◌≤◌, refl, length, arith, ap}
use Rattle.stats_words.proofs.HexFacts.{length_of_pairs, pairs_of, same_pairs}
use Rattle.stats_words.proofs.hex.are_pairs_of.Goals as goal

pub returns-then-not-are_twice : goal.returns-then-not-are_twice
returns-then-not-are_twice c = (
  λ t. absurd (cc),
  λ e.
      let twice : length c.args.digits.now ≡ 2 * length c.args.bytes.now = omega (arith, length_of_pairs c.args.bytes.now, ap length e) in
      let told = c.are_twice.ensures.1 twice in
      cc,
)

pub returns-then-not-is_pair_of : goal.returns-then-not-is_pair_of
returns-then-not-is_pair_of c = (
  λ t. absurd (cc),
  λ e.
      let told = c.is_pair_of.ensures.1 (pairs_of c.args.digits.now c.args.bytes.now e c.loop-i.i c.loop-i-test.true) in
      cc,
)

pub returns : goal.returns
returns c =
    let twice : length c.args.digits.now ≡ 2 * length c.args.bytes.now = c.are_twice.ensures.0 (cc) in
    let all : length c.args.bytes.now ≤ c.loop-i.i = omega arith in
    (λ t. same_pairs c.args.digits.now c.args.bytes.now twice (λ k lt. c.loop-i.invariant k (omega arith)), λ e. refl)
