use Rattle.degree_sequences.proofs.CompositionDominates.{composed_dominates, root_at_least}
use Rattle.piece_math.proofs.laws.compose_dominates.Goals as goal

pub returns-clause-keys : goal.returns-clause-keys
returns-clause-keys c = composed_dominates

pub returns-clause-rows : goal.returns-clause-rows
returns-clause-rows c = λ total rows lists children within all. root_at_least total rows within lists children all
