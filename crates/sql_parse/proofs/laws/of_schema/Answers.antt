use Rattle.sql_parse.proofs.AnswerOfSchema.{answer_of_schema}
use Rattle.sql_parse.proofs.laws.of_schema.Goals as goal

pub returns : goal.returns
returns c = answer_of_schema
