use Rattle.appended_stats.proofs.StillStands.{file_still_stands}
use Rattle.appended_stats.proofs.laws.files_still_stand.Goals as goal

pub returns : goal.returns
returns c schema query file tables after table rows keeps stands has = file_still_stands file table rows schema query tables after keeps stands has
