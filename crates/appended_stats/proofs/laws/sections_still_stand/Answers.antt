use Rattle.std.proofs.Common.{refl}
use Rattle.appended_stats.proofs.StillStands.{section_still_stands}
use Rattle.appended_stats.proofs.laws.sections_still_stand.Goals as goal

pub returns : goal.returns
returns c schema section accuracy tables after entry rows is stands are = section_still_stands tables after entry rows are accuracy is.table schema section is refl stands
