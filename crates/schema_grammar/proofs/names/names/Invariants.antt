use Rattle.std.proofs.Common.{◌≡◌, [], ◌∷◌, length}
use Rattle.ll_grammars.specs.declared.terminal.Terminal.TheVariants as terminal
use Rattle.ll_grammars.specs.Reading.{read_many, with_front}
use Rattle.schema_grammar.specs.Readers.{read_names, read_next_name}
use Rattle.schema_grammar.proofs.names.names.Given as goal

abbrev pub decreases-others : goal.decreases-others
decreases-others l = length l.reader

abbrev pub invariant-others : goal.invariant-others
invariant-others l = with_front l.names (read_many (terminal.Comma ∷ []) read_next_name l.reader) ≡ read_names l.fn.reader
