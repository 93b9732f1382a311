use Rattle.sql_tokens.proofs.WholeTexts.{never_both}
use Rattle.sql_tokens.proofs.laws.no_error_with_tokens.Goals as goal

pub returns : goal.returns
returns c = never_both
