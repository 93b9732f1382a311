use Rattle.std.proofs.Common.{◌≡◌, map, drop}
use Rattle.safebound_words.specs.Collected.{asked_by, asked_from, FitsNext}
use Rattle.safebound_words.proofs.line.read_line.Given as goal

abbrev pub invariant-words : goal.invariant-words
invariant-words l = record {
  asked : asked_from l.name l.line l.next (map (λ w. w.now) (drop l.word-index l.words)) ≡ asked_by l.name (map (λ w. w.now) l.words);
  fits : FitsNext l.name l.next;
}
