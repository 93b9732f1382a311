use Rattle.sql_parse.proofs.AnswerOfSchema.{answers_of_schema}
use Rattle.sql_parse.proofs.read.read_query.Goals as goal

pub returns-clause-of_schema : goal.returns-clause-of_schema
returns-clause-of_schema c = answers_of_schema c.args.schema.now c.args.text.now c.answer.result c.answer.ensures
