use Rattle.sql_tokens.proofs.WholeTexts.{lexed_in_order}
use Rattle.sql_tokens.proofs.laws.tokens_are_in_order.Goals as goal

pub returns : goal.returns
returns c = lexed_in_order
