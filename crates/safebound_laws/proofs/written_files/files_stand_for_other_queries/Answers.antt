use Rattle.safebound_laws.proofs.OtherQueries.{stands_for_other}
use Rattle.safebound_laws.proofs.written_files.files_stand_for_other_queries.Goals as goal

pub returns : goal.returns
returns c = stands_for_other
