use Rattle.text_answers.proofs.SchemaAnswers.{result_is_allowed, only_result, never_out_of_memory, valid}
use Rattle.text_answers.proofs.laws.schema_texts.Goals as goal

pub returns : goal.returns
returns c = record { allowed = result_is_allowed; only = only_result; never_out_of_memory = never_out_of_memory; valid = valid }
