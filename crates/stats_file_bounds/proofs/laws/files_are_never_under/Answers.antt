use Rattle.stats_file_bounds.proofs.NeverUnder.{known_stands}
use Rattle.stats_file_bounds.proofs.laws.files_are_never_under.Goals as goal

pub returns : goal.returns
returns c = λ query file tables key own is stands none tells. known_stands query file is tables key stands none own tells
