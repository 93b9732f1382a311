use Rattle.sql_meaning.proofs.LevelFacts.{first_level, first_level_over}
use Rattle.sql_meaning.proofs.laws.first_level_law.Goals as goal

pub returns : goal.returns
returns c = record { over = first_level_over; whole = λ conjuncts rows entry order asks. first_level conjuncts rows entry asks }
