use Rattle.std.proofs.Common.{◌≡◌, [], ◌∷◌, length}
use Rattle.ll_grammars.specs.declared.terminal.Terminal.TheVariants as terminal
use Rattle.ll_grammars.specs.Reading.{read_many, with_front}
use Rattle.query_grammar.specs.Readers.{read_listed_outs, read_next_out}
use Rattle.query_grammar.proofs.outputs.listed_outputs.Given as goal

abbrev pub decreases-others : goal.decreases-others
decreases-others l = length l.reader

abbrev pub invariant-others : goal.invariant-others
invariant-others l = with_front l.outs (read_many (terminal.Comma ∷ []) read_next_out l.reader) ≡ read_listed_outs l.fn.reader
