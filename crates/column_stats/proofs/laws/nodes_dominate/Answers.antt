use Rattle.degree_sequences.proofs.CompressedLists.{compressed_dominates}
use Rattle.cond_stats.specs.Leaves.{in_node, leaf_of}
use Rattle.cond_stats.specs.Lists.{list_of_node}
use Rattle.cond_stats.specs.Rows.{filter_values, keys_where}
use Rattle.column_stats.proofs.laws.nodes_dominate.Goals as goal

pub returns : goal.returns
unfolding list_of_node
returns c = λ at_most k rows size leaf. compressed_dominates k (keys_where (λ v. in_node size leaf (leaf_of at_most (filter_values rows) v)) rows)
