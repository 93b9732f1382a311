use Rattle.stats_reading.proofs.OneFile.{one_file}
use Rattle.stats_reading.proofs.laws.a_text_spells_one_file.Goals as goal

pub returns : goal.returns
returns c = one_file
