use Rattle.std.proofs.Common.{◌≡◌, [], ◌∷◌, length}
use Rattle.ll_grammars.specs.declared.terminal.Terminal.TheVariants as terminal
use Rattle.ll_grammars.specs.Reading.{read_many, with_front}
use Rattle.query_grammar.specs.Readers.{read_within, read_parts, read_next_part}
use Rattle.query_grammar.proofs.clauses.parts.Given as goal

abbrev pub decreases-others : goal.decreases-others
decreases-others l = length l.reader

abbrev pub invariant-others : goal.invariant-others
invariant-others l = with_front l.parts (read_many (terminal.Comma ∷ []) (read_next_part (read_within 64)) l.reader) ≡ read_parts (read_within 64) l.fn.reader
