use Rattle.safebound_laws.proofs.Appended.{after_read}
use Rattle.safebound_laws.proofs.written_files.appended_texts_are_read_back.Goals as goal

pub returns : goal.returns
returns c = after_read
