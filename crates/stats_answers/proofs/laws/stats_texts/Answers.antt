use Rattle.stats_answers.proofs.StatsAnswers.{allowed, result_keeps_rules, never_out_of_memory, no_other_result, written_file_is_read}
use Rattle.stats_answers.proofs.laws.stats_texts.Goals as goal

pub returns : goal.returns
returns c = record { allowed = allowed; no_other_result = no_other_result; never_out_of_memory = never_out_of_memory; result_keeps_rules = result_keeps_rules; written_file_is_read = written_file_is_read }
