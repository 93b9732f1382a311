use Rattle.std.proofs.Common.{map, sym, arith}
use Rattle.std.proofs.lemmas.List.{length-map}
use Rattle.safebound_words.proofs.Ranges.{in_range}
use Rattle.safebound_words.proofs.WholeLines.{asks, asks_nothing}
use Rattle.safebound_words.proofs.WordCounts.{at_most_16_words}
use Rattle.safebound_words.proofs.words.read_words.Goals as goal

pub returns-in-Some-clause-command : goal.returns-in-Some-clause-command
returns-in-Some-clause-command c = asks (map (λ w. w.now) c.args.words.now) c.in-Some.command c.in-Some.ensures

pub returns-in-Some-clause-ranges : goal.returns-in-Some-clause-ranges
returns-in-Some-clause-ranges c = in_range (map (λ w. w.now) c.args.words.now) c.in-Some.command (sym c.in-Some.ensures)

pub returns-in-Some-clause-few : goal.returns-in-Some-clause-few
returns-in-Some-clause-few c =
    omega (arith, length-map c.args.words.now (λ w. w.now), at_most_16_words (map (λ w. w.now) c.args.words.now) c.in-Some.command (sym c.in-Some.ensures))

pub returns-in-None-clause-usage : goal.returns-in-None-clause-usage
returns-in-None-clause-usage c = asks_nothing (map (λ w. w.now) c.args.words.now) c.in-None.ensures
