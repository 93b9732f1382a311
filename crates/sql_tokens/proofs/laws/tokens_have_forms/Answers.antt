use Rattle.sql_tokens.proofs.WholeTexts.{lexed_forms}
use Rattle.sql_tokens.proofs.laws.tokens_have_forms.Goals as goal

pub returns : goal.returns
returns c = lexed_forms
