use Rattle.degree_sequences.proofs.ProductDominates.{rank_product_dominates}
use Rattle.piece_math.proofs.laws.product_dominates.Goals as goal

pub returns : goal.returns
returns c = rank_product_dominates
