use Rattle.text_answers.proofs.QueryAnswers.{result_is_allowed, only_result, never_out_of_memory, of_schema}
use Rattle.text_answers.proofs.laws.query_texts.Goals as goal

pub returns : goal.returns
returns c = record { allowed = result_is_allowed; only = only_result; never_out_of_memory = never_out_of_memory; of_schema = of_schema }
