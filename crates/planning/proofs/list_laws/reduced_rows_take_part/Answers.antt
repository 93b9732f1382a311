use Rattle.reduced_scans.specs.Rounds.{reduced_of}
use Rattle.reduced_scans.proofs.ByRounds.{reduced_scans_by_rounds}
use Rattle.planning.proofs.TakingPart.{each_takes_part}
use Rattle.planning.proofs.list_laws.reduced_rows_take_part.Goals as goal

pub returns-clause-consistent : goal.returns-clause-consistent
returns-clause-consistent c = λ query tables lists entry row are none alone listed. each_takes_part query tables lists are none alone entry row listed

pub returns-clause-reduced : goal.returns-clause-reduced
returns-clause-reduced c = λ query tables entry row none alone listed.
    each_takes_part query tables (reduced_of query tables) (reduced_scans_by_rounds query tables).consistent none alone entry row listed
