-- The pairs that small queries need, by computation.
use Rattle.std.proofs.Common.{◌≡◌, [], ◌∷◌, pos, true, refl, ap, sym, ◌∙◌, arith}
use Rattle.query_grammar.specs.declared.tree.Op.{Op}
use Rattle.query_grammar.specs.declared.tree.Op.TheVariants as op
use Rattle.query_types.specs.declared.types.Operand.{Operand}
use Rattle.query_types.specs.declared.types.Operand.TheVariants as operand
use Rattle.query_types.specs.declared.types.Cond.{Compare, out-roll-Cond}
use Rattle.query_types.specs.declared.types.Cond.TheOpen as layer
use Rattle.query_types.specs.declared.types.Cond.TheVariants.{rolls-Compare}
use Rattle.query_types.proofs.CondFacts.{entries_compare}
use Rattle.filtered_lists.proofs.Parts.{conjunction_of_compare}
use Rattle.join_graph.specs.Conjuncts.{column_of, column_operand, compared, equality_in, equality_of}
use Rattle.join_graph.proofs.Comparing.{equality_two}
use Rattle.predicate_bounds.specs.Steps.{step_answers}
use Rattle.query_bounds.specs.Examples.{two_table_query}
use Rattle.stats_file_of_query.specs.Examples.{filtered_join, one_value}
use Rattle.stats_file_of_query.specs.Needs.{needed, needed_of_table}
use Rattle.stats_file_of_query.specs.ColumnPairs.{column_pair}

equality_compare : (o : Op) (left right : Operand) → equality_of (Compare o left right) ≡ compared o (column_of left) (column_of right)
equality_compare o left right = ap equality_of (sym (rolls-Compare o left right)) ∙ ap equality_in (out-roll-Cond (layer.Compare o left right))

pub needs_of_pair : needed two_table_query 0 ≡ column_pair 0 0 ∷ []
needs_of_pair = rw (entries_compare op.Eq (column_operand 0 0) (column_operand 1 0), equality_two 0 0 1 0 (λ e. absurd (omega (arith, e)))) refl

pub needs_of_filtered : needed filtered_join 1 ≡ column_pair 1 0 ∷ []
needs_of_filtered = rw (
  entries_compare op.Eq (column_operand 0 0) (column_operand 1 0),
  entries_compare op.Gt (column_operand 1 1) (operand.Int (pos 3)),
  entries_compare op.Lt (column_operand 1 1) (operand.Int (pos 9)),
  conjunction_of_compare step_answers op.Gt (column_operand 1 1) (operand.Int (pos 3)) true,
  conjunction_of_compare step_answers op.Lt (column_operand 1 1) (operand.Int (pos 9)) true,
  equality_two 0 0 1 0 (λ e. absurd (omega (arith, e))),
  equality_compare op.Gt (column_operand 1 1) (operand.Int (pos 3)),
  equality_compare op.Lt (column_operand 1 1) (operand.Int (pos 9)),
) refl

pub needs_beside_filtered : needed filtered_join 0 ≡ column_pair 0 0 ∷ []
needs_beside_filtered = rw (
  entries_compare op.Eq (column_operand 0 0) (column_operand 1 0),
  entries_compare op.Gt (column_operand 1 1) (operand.Int (pos 3)),
  entries_compare op.Lt (column_operand 1 1) (operand.Int (pos 9)),
  equality_two 0 0 1 0 (λ e. absurd (omega (arith, e))),
  equality_compare op.Gt (column_operand 1 1) (operand.Int (pos 3)),
  equality_compare op.Lt (column_operand 1 1) (operand.Int (pos 9)),
) refl

pub of_table : needed_of_table filtered_join 1 ≡ column_pair 1 0 ∷ []
of_table = rw (needs_of_filtered) refl

pub needs_of_one : needed one_value 0 ≡ column_pair 0 0 ∷ []
needs_of_one = rw (
  entries_compare op.Eq (column_operand 0 0) (operand.Int (pos 99)),
  conjunction_of_compare step_answers op.Eq (column_operand 0 0) (operand.Int (pos 99)) true,
  equality_compare op.Eq (column_operand 0 0) (operand.Int (pos 99)),
) refl
