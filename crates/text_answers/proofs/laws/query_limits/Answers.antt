use Rattle.text_answers.proofs.QueryLimits.{answer_keeps, text_keeps}
use Rattle.text_answers.proofs.laws.query_limits.Goals as goal

pub returns-clause-few_conjuncts : goal.returns-clause-few_conjuncts
returns-clause-few_conjuncts c schema text query is = (text_keeps schema text query is).conjuncts

pub returns-clause-few_outputs : goal.returns-clause-few_outputs
returns-clause-few_outputs c schema text query is = (text_keeps schema text query is).outputs

pub returns-clause-read_conjuncts : goal.returns-clause-read_conjuncts
returns-clause-read_conjuncts c schema text query is = (answer_keeps schema text query is).conjuncts

pub returns-clause-read_outputs : goal.returns-clause-read_outputs
returns-clause-read_outputs c schema text query is = (answer_keeps schema text query is).outputs
