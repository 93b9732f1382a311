use Rattle.std.proofs.Common.{◌≡◌, ℕ, List, drop}
use Rattle.std.specs.Prelude.{find}
use Rattle.predicate_bounds.specs.Steps.{value_of}
use Rattle.stats_file.specs.declared.types.Datum.{Datum}
use Rattle.stats_file_of_query.specs.Standing.{is_value}
use Rattle.stats_file_bounds.proofs.answers.list_of_literal.Given as goal

abbrev pub invariant-loop-frequent : goal.invariant-loop-frequent
invariant-loop-frequent l = find (λ (found : Datum × List ℕ). is_value (value_of l.literal) found.0) l.pair.frequent
    ≡ find (λ (found : Datum × List ℕ). is_value (value_of l.literal) found.0) (drop l.frequent-index l.frequent-items)
