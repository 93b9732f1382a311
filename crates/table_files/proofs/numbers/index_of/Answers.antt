use Rattle.std.proofs.Common.{◌≡◌, ◌∙◌, arith, length, sym}
use Rattle.std.proofs.lemmas.Bool.{eq-eqb}
use Rattle.table_files.proofs.IndexFacts.{found_at, found_nowhere}
use Rattle.table_files.proofs.numbers.index_of.Goals as goal

pub returns-then-number-other : goal.returns-then-number-other
returns-then-number-other c =
    found_at c.args.numbers.now c.args.number c.numbers.at c.numbers-test.true (eq-eqb c.args.number _ c.if-number-other.true) c.numbers.invariant

pub returns : goal.returns
returns c =
    let all : c.numbers.at ≡ length c.args.numbers.now = omega arith in
    sym all ∙ found_nowhere c.args.numbers.now c.args.number c.numbers.at all c.numbers.invariant
