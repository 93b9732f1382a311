use Rattle.sql_meaning.proofs.LevelFacts.{next_level, next_level_over}
use Rattle.sql_meaning.proofs.laws.level_law.Goals as goal

pub returns : goal.returns
returns c = record { over = next_level_over; whole = next_level }
