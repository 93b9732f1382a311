use Rattle.degree_sequences.proofs.Ranks.{rank_reaches, rank_least}
use Rattle.degree_sequences.proofs.laws.ranks.Goals as goal

pub returns-clause-reaches : goal.returns-clause-reaches
returns-clause-reaches c = rank_reaches

pub returns-clause-least : goal.returns-clause-least
returns-clause-least c = rank_least
