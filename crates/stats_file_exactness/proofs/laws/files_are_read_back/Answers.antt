use Rattle.sql_meaning.specs.Tables.{tables_of}
use Rattle.stats_file_of_query.specs.Files.{file_of_query}
use Rattle.stats_file_of_query.proofs.Rules.{file_keeps}
use Rattle.stats_answers.proofs.StatsAnswers.{written_file_is_read}
use Rattle.stats_file_exactness.proofs.laws.files_are_read_back.Goals as goal

pub returns : goal.returns
returns c = λ schema query db accuracy over columns least most.
    written_file_is_read schema (file_of_query schema query (tables_of db) accuracy) over.of.schema_is columns (file_keeps schema query db over accuracy least most)
