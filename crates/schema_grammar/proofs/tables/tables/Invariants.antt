use Rattle.std.proofs.Common.{◌≡◌, length}
use Rattle.ll_grammars.specs.Reading.{with_front}
use Rattle.schema_grammar.specs.Readers.{read_all_tables, read_other_tables}
use Rattle.schema_grammar.proofs.tables.tables.Given as goal

abbrev pub decreases-others : goal.decreases-others
decreases-others l = length l.reader

abbrev pub invariant-others : goal.invariant-others
invariant-others l = with_front l.tables (read_other_tables l.reader) ≡ read_all_tables l.fn.reader
