use Rattle.std.proofs.Common.{◌≡◌, length}
use Rattle.ll_grammars.specs.Reading.{read_many, with_front}
use Rattle.schema_grammar.specs.Readers.{read_column_rules, read_column_rule, column_rule_first}
use Rattle.schema_grammar.proofs.columns.column_rules.Given as goal

abbrev pub decreases-others : goal.decreases-others
decreases-others l = length l.reader

abbrev pub invariant-others : goal.invariant-others
invariant-others l = with_front l.rules (read_many column_rule_first read_column_rule l.reader) ≡ read_column_rules l.fn.reader
