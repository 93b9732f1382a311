use Rattle.degree_sequences.proofs.SaturationLaws.{saturated-rank_product, saturated-block_sums, saturated-trimmed}
use Rattle.degree_sequences.proofs.laws.saturations.Goals as goal

pub returns-clause-rank_products : goal.returns-clause-rank_products
returns-clause-rank_products c = saturated-rank_product

pub returns-clause-blocks : goal.returns-clause-blocks
returns-clause-blocks c = saturated-block_sums

pub returns-clause-zeros : goal.returns-clause-zeros
returns-clause-zeros c = saturated-trimmed
