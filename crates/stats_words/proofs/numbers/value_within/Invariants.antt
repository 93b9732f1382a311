use Rattle.std.proofs.Common.{◌≤◌}
use Rattle.stats_words.proofs.NumberFacts.{ValueReadSoFar}
use Rattle.stats_words.proofs.numbers.value_within.Given as goal

abbrev pub invariant-loop-byte : goal.invariant-loop-byte
invariant-loop-byte l = ValueReadSoFar l.word l.byte-index l.value × (l.value ≤ l.most)
