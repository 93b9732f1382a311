use Rattle.std.proofs.Common.{◌≡◌, [], ◌∷◌, length}
use Rattle.ll_grammars.specs.declared.terminal.Terminal.TheVariants as terminal
use Rattle.ll_grammars.specs.Reading.{read_many, with_front}
use Rattle.schema_grammar.specs.Readers.{read_elements, read_next_element}
use Rattle.schema_grammar.proofs.tables.elements.Given as goal

abbrev pub decreases-others : goal.decreases-others
decreases-others l = length l.reader

abbrev pub invariant-others : goal.invariant-others
invariant-others l = with_front l.elements (read_many (terminal.Comma ∷ []) read_next_element l.reader) ≡ read_elements l.fn.reader
