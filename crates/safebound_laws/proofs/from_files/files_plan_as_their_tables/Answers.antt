use Rattle.safebound_laws.proofs.Alike.{files_alike}
use Rattle.safebound_laws.proofs.from_files.files_plan_as_their_tables.Goals as goal

pub returns : goal.returns
returns c = files_alike
