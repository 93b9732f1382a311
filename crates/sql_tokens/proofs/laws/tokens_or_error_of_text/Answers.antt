use Rattle.sql_tokens.proofs.WholeTexts.{tokens_or_error}
use Rattle.sql_tokens.proofs.laws.tokens_or_error_of_text.Goals as goal

pub returns : goal.returns
returns c = tokens_or_error
