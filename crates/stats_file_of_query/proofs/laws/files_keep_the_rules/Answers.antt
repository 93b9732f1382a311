use Rattle.stats_file_of_query.proofs.Rules.{file_keeps}
use Rattle.stats_file_of_query.proofs.laws.files_keep_the_rules.Goals as goal

pub returns : goal.returns
returns c = λ schema query db accuracy over some within_limit. file_keeps schema query db over accuracy some within_limit
