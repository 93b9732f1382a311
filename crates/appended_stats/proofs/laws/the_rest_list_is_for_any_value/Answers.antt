use Rattle.cond_stats.proofs.Dominating.{rest-is}
use Rattle.appended_stats.proofs.laws.the_rest_list_is_for_any_value.Goals as goal

pub returns : goal.returns
returns c accuracy rows = rest-is accuracy rows
