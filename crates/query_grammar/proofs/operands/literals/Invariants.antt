use Rattle.std.proofs.Common.{◌≡◌, [], ◌∷◌, length}
use Rattle.ll_grammars.specs.declared.terminal.Terminal.TheVariants as terminal
use Rattle.ll_grammars.specs.Reading.{read_many, with_front}
use Rattle.query_grammar.specs.Readers.{read_literals, read_next_literal}
use Rattle.query_grammar.proofs.operands.literals.Given as goal

abbrev pub decreases-others : goal.decreases-others
decreases-others l = length l.reader

abbrev pub invariant-others : goal.invariant-others
invariant-others l = with_front l.literals (read_many (terminal.Comma ∷ []) read_next_literal l.reader) ≡ read_literals l.fn.reader
