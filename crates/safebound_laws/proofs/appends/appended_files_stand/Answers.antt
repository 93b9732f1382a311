use Rattle.safebound_laws.proofs.AppendFacts.{append_stands}
use Rattle.safebound_laws.proofs.appends.appended_files_stand.Goals as goal

pub returns : goal.returns
returns c = append_stands
