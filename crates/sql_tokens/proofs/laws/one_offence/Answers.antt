use Rattle.sql_tokens.proofs.WholeTexts.{one_error_offset}
use Rattle.sql_tokens.proofs.laws.one_offence.Goals as goal

pub returns : goal.returns
returns c = one_error_offset
