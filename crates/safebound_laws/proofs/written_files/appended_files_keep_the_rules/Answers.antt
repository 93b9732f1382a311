use Rattle.safebound_laws.proofs.Appended.{after_keeps}
use Rattle.safebound_laws.proofs.written_files.appended_files_keep_the_rules.Goals as goal

pub returns : goal.returns
returns c = after_keeps
