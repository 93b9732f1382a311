use Rattle.stats_words.proofs.HexFacts.{PairsAre}
use Rattle.stats_words.proofs.hex.are_pairs_of.Given as goal

abbrev pub invariant-loop-i : goal.invariant-loop-i
invariant-loop-i l = PairsAre l.digits l.bytes l.i
