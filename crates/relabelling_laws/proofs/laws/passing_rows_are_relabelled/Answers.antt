use Rattle.relabelling_laws.proofs.Rows.{zip_of_columns, passing_of_rows, passing_are}
use Rattle.relabelling_laws.proofs.laws.passing_rows_are_relabelled.Goals as goal

pub returns-clause-passing : goal.returns-clause-passing
returns-clause-passing c = passing_are

pub returns-clause-rows : goal.returns-clause-rows
returns-clause-rows c = passing_of_rows

pub returns-clause-values : goal.returns-clause-values
returns-clause-values c = λ column joined lengths. (zip_of_columns column joined lengths).0

pub returns-clause-keys : goal.returns-clause-keys
returns-clause-keys c = λ column joined lengths. (zip_of_columns column joined lengths).1
