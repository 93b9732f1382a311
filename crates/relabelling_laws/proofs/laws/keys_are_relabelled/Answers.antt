use Rattle.relabelling_laws.proofs.Dominated.{keys_dominated, passing_dominated, rows_dominated, same_degrees}
use Rattle.relabelling_laws.proofs.laws.keys_are_relabelled.Goals as goal

pub returns-clause-column : goal.returns-clause-column
returns-clause-column c = keys_dominated

pub returns-clause-rows : goal.returns-clause-rows
returns-clause-rows c = rows_dominated

pub returns-clause-passing : goal.returns-clause-passing
returns-clause-passing c = passing_dominated

pub returns-clause-degrees : goal.returns-clause-degrees
returns-clause-degrees c = same_degrees
