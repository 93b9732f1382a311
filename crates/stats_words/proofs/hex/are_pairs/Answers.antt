use Rattle.std.proofs.Common.{◌≡◌, ◌%◌, ◌==◌, false, length, ◌∙◌, sym, arith}
use Rattle.std.proofs.lemmas.Bool.Decides.{nat_tests}
use Rattle.stats_words.proofs.HexFacts.{even_pairs, odd_pairs}
use Rattle.stats_words.proofs.hex.are_pairs.Goals as goal

pub returns : goal.returns
returns c =
    let even : length c.args.digits.now % 2 ≡ 0 = grind (arith, nat_tests) in
    c.are_hex_digits.ensures ∙ even_pairs c.args.digits.now even

pub returns-then-digits-ne0 : goal.returns-then-digits-ne0
returns-then-digits-ne0 c =
    let odd : (length c.args.digits.now % 2 == 0) ≡ false = grind (arith, nat_tests) in
    sym (odd_pairs c.args.digits.now odd)
