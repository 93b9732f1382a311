use Rattle.std.proofs.Common.{◌≡◌, length}
use Rattle.ll_grammars.specs.Reading.{read_many, with_front}
use Rattle.query_grammar.specs.Readers.{join_first, read_within, read_joins, read_join}
use Rattle.query_grammar.proofs.clauses.joins.Given as goal

abbrev pub decreases-others : goal.decreases-others
decreases-others l = length l.reader

abbrev pub invariant-others : goal.invariant-others
invariant-others l = with_front l.joins (read_many join_first (read_join (read_within 64)) l.reader) ≡ read_joins (read_within 64) l.fn.reader
