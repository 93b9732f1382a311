use Rattle.sql_meaning.specs.Tables.{tables_of}
use Rattle.sql_meaning.proofs.AnswerFacts.{names_its_entries}
use Rattle.level_bounds.proofs.LastLevel.{last_level_is_answer}
use Rattle.level_bounds.proofs.laws.last_levels_are_the_answer.Goals as goal

pub returns-clause-tables : goal.returns-clause-tables
returns-clause-tables c = last_level_is_answer

pub returns-clause-database : goal.returns-clause-database
returns-clause-database c = λ query db order of o. last_level_is_answer query (tables_of db) order (names_its_entries query db of) o
