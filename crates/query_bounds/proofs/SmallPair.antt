-- The bounds of the example of two tables, by computation.
use Rattle.std.proofs.Common.{◌≡◌, [], ◌∷◌, refl, arith}
use Rattle.entry_sets.specs.Sets.{entries_of_set}
use Rattle.query_grammar.specs.declared.tree.Op.TheVariants as op
use Rattle.join_graph.specs.Conjuncts.{column_operand}
use Rattle.join_graph.proofs.Comparing.{equality_two}
use Rattle.query_bounds.specs.Bounds.{scan_bounds, set_bounds}
use Rattle.query_bounds.specs.Examples.{two_table_query, pair_known}
use Rattle.query_types.proofs.CondFacts.{entries_compare}

pub pair_scans : scan_bounds two_table_query pair_known ≡ 6 ∷ 5 ∷ []
pair_scans = rw (entries_compare op.Eq (column_operand 0 0) (column_operand 1 0)) refl

pub pair_sets : set_bounds two_table_query pair_known ≡ 1 ∷ 6 ∷ 5 ∷ 12 ∷ []
unfolding entries_of_set
pair_sets = rw (entries_compare op.Eq (column_operand 0 0) (column_operand 1 0), equality_two 0 0 1 0 (λ e. absurd (omega (arith, e)))) refl
