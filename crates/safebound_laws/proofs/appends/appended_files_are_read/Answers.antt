use Rattle.safebound_laws.proofs.AppendFacts.{append_grows}
use Rattle.safebound_laws.proofs.appends.appended_files_are_read.Goals as goal

pub returns : goal.returns
returns c = append_grows
