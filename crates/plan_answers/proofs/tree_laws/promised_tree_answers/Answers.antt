use Rattle.plan_answers.proofs.OneTreeAnswer.{is_promised, no_other_result, never_out_of_memory, chosen, refused}
use Rattle.plan_answers.proofs.tree_laws.promised_tree_answers.Goals as goal

pub returns : goal.returns
returns c = record { is_promised = is_promised; no_other_result = no_other_result; never_out_of_memory = never_out_of_memory; chosen = chosen; refused = refused }
