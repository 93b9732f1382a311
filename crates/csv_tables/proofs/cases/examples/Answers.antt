use Rattle.std.proofs.Common.{refl}
use Rattle.csv.proofs.OnLiterals.{csv_on_literals}
use Rattle.csv_tables.proofs.cases.examples.Goals as goal

pub returns-clause-records : goal.returns-clause-records
unfolding csv_on_literals
returns-clause-records c = refl
