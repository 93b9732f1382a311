use Rattle.std.proofs.Common.{◌≡◌, length}
use Rattle.schema_grammar.specs.Readers.{read_triggered_actions}
use Rattle.schema_grammar.proofs.references.triggered_actions.Given as goal

abbrev pub decreases-actions : goal.decreases-actions
decreases-actions l = length l.reader

abbrev pub invariant-actions : goal.invariant-actions
invariant-actions l = read_triggered_actions l.reader ≡ read_triggered_actions l.fn.reader
