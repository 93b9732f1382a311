use Rattle.sql_meaning.proofs.AskFacts.{depend_on_named}
use Rattle.sql_meaning.proofs.laws.asking_law.Goals as goal

pub returns : goal.returns
returns c query tables = depend_on_named tables query.conjuncts
