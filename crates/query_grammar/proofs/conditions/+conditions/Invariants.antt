use Rattle.std.proofs.Common.{◌≡◌, [], ◌∷◌, ◌+◌, ◌*◌, length}
use Rattle.ll_grammars.specs.declared.terminal.Terminal.TheVariants as terminal
use Rattle.ll_grammars.specs.Reading.{read_many, with_front}
use Rattle.query_grammar.specs.Readers.{read_test, read_next_factor, read_factors, read_next_term, read_terms}
use Rattle.query_grammar.proofs.conditions.+conditions.Given as goal

abbrev pub decreases-inside : goal.decreases-inside
decreases-inside l = 10 * l.depth + 8

abbrev pub decreases-condition_at : goal.decreases-condition_at
decreases-condition_at l = 10 * l.depth + 7

abbrev pub decreases-terms : goal.decreases-terms
decreases-terms l = 10 * l.depth + 6

abbrev pub decreases-next_term : goal.decreases-next_term
decreases-next_term l = 10 * l.depth + 5

abbrev pub decreases-term : goal.decreases-term
decreases-term l = 10 * l.depth + 4

abbrev pub decreases-factors : goal.decreases-factors
decreases-factors l = 10 * l.depth + 3

abbrev pub decreases-next_factor : goal.decreases-next_factor
decreases-next_factor l = 10 * l.depth + 2

abbrev pub decreases-factor : goal.decreases-factor
decreases-factor l = 10 * l.depth + 1

abbrev pub decreases-test : goal.decreases-test
decreases-test l = 10 * l.depth

abbrev pub invariant-factors-others : goal.invariant-factors-others
invariant-factors-others l = with_front l.factors (read_many (terminal.And ∷ []) (read_next_factor (read_test l.depth)) l.reader) ≡ read_factors (read_test l.depth) l.fn.reader

abbrev pub decreases-factors-others : goal.decreases-factors-others
decreases-factors-others l = length l.reader

abbrev pub invariant-terms-others : goal.invariant-terms-others
invariant-terms-others l = with_front l.terms (read_many (terminal.Or ∷ []) (read_next_term (read_test l.depth)) l.reader) ≡ read_terms (read_test l.depth) l.fn.reader

abbrev pub decreases-terms-others : goal.decreases-terms-others
decreases-terms-others l = length l.reader
