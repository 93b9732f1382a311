use Rattle.prepared_runs.proofs.KeyFacts.{needs_read}
use Rattle.prepared_runs.proofs.SourceFacts.{file_is_source, stand}
use Rattle.safebound_laws.proofs.laws.sources_are_sound.Goals as goal

pub returns-clause-stand : goal.returns-clause-stand
returns-clause-stand c = λ source schema query tables needs. stand query tables schema source needs

pub returns-clause-read : goal.returns-clause-read
returns-clause-read c = needs_read

pub returns-clause-files : goal.returns-clause-files
returns-clause-files c = file_is_source
