use Rattle.sql_tokens.proofs.WholeTexts.{one_token_list}
use Rattle.sql_tokens.proofs.laws.one_reading.Goals as goal

pub returns : goal.returns
returns c = one_token_list
