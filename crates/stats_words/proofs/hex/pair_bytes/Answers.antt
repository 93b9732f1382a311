use Rattle.std.proofs.Common.{◌*◌, ◌<◌, ◌+◌, ◌/◌, length, arith, ◌∙◌, ◌≤◌}
use Rattle.std.proofs.lemmas.List.{take_all}
use Rattle.stats_words.proofs.HexFacts.{digit_in, even_length}
use Rattle.stats_words.proofs.hex.pair_bytes.Goals as goal

pub byte_of-requires-clause-high : goal.byte_of-requires-clause-high
byte_of-requires-clause-high c =
    let even = even_length c.args.digits.now c.requires in
    let lt : c.loop-i.i < length c.args.digits.now / 2 = c.loop-i-test.true in
    digit_in c.args.digits.now (2 * c.loop-i.i) c.requires (omega arith)

pub byte_of-requires-clause-low : goal.byte_of-requires-clause-low
byte_of-requires-clause-low c =
    let even = even_length c.args.digits.now c.requires in
    let lt : c.loop-i.i < length c.args.digits.now / 2 = c.loop-i-test.true in
    digit_in c.args.digits.now (2 * c.loop-i.i + 1) c.requires (omega arith)

pub returns : goal.returns
returns c =
    let even = even_length c.args.digits.now c.requires in
    let all : length c.args.digits.now ≤ 2 * c.loop-i.i = omega arith in
    c.loop-i.invariant ∙ take_all (2 * c.loop-i.i) c.args.digits.now all
