use Rattle.sql_parse.proofs.OneAnswer.{one_answer}
use Rattle.sql_parse.proofs.laws.one_answer.Goals as goal

pub returns : goal.returns
returns c = one_answer
