use Rattle.std.proofs.Common.{[], ◌∷◌, cond, not, None, Some, pos, refl, ap, arith}
use Rattle.entry_sets.specs.Sets.{entries_of_set}
use Rattle.filtered_lists.proofs.Parts.{conjunction_of_compare}
use Rattle.join_graph.specs.Conjuncts.{column_operand}
use Rattle.join_graph.proofs.Comparing.{equality_literal, equality_two}
use Rattle.query_grammar.specs.declared.tree.Op.TheVariants as op
use Rattle.query_types.specs.declared.types.Operand.TheVariants as operand
use Rattle.query_types.proofs.CondFacts.{entries_compare}
use Rattle.stats_file_of_query.proofs.SmallNeeds.{needs_of_one as of_one_value, needs_of_pair}
use Rattle.stats_file_of_query.specs.Standing.{section_of}
use Rattle.stats_file_bounds.specs.Examples.{infrequent_99, pair_with_itself, file_of_one, section}
use Rattle.stats_file_bounds.specs.Found.{has_each_pair}
use Rattle.stats_file_bounds.proofs.examples.small_files.Goals as goal

pub returns-clause-scans : goal.returns-clause-scans
returns-clause-scans c = rw (entries_compare op.Eq (column_operand 0 0) (column_operand 1 0), equality_two 0 0 1 0 (λ e. absurd (omega (arith, e)))) refl

pub returns-clause-sets : goal.returns-clause-sets
unfolding entries_of_set
returns-clause-sets c = rw (entries_compare op.Eq (column_operand 0 0) (column_operand 1 0), equality_two 0 0 1 0 (λ e. absurd (omega (arith, e)))) refl

pub returns-clause-absent : goal.returns-clause-absent
returns-clause-absent c = rw (
  entries_compare op.Eq (column_operand 0 0) (operand.Int (pos 99)),
  equality_literal (column_operand 0 0) (operand.Int (pos 99)) refl,
  conjunction_of_compare,
  conjunction_of_compare,
) refl

pub returns-clause-all : goal.returns-clause-all
returns-clause-all c = ap (λ pairs. cond (not (has_each_pair pairs (section_of (file_of_one (section 0 4 infrequent_99)) 0))) (Some 0) None) of_one_value

pub returns-clause-second : goal.returns-clause-second
returns-clause-second c = ap (λ pairs. cond (not (has_each_pair pairs (section_of (file_of_one (section 0 6 (pair_with_itself (3 ∷ 3 ∷ [])))) 0))) (Some 0) (Some 1)) needs_of_pair
