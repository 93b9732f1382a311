-- The carriers in small queries, by computation.
use Rattle.std.proofs.Common.{◌≡◌, [], ◌∷◌, refl, arith}
use Rattle.std.specs.Prelude.{pos}
use Rattle.berge_tree.specs.Testing.{edge_of}
use Rattle.query_grammar.specs.declared.tree.Op.TheVariants as op
use Rattle.query_types.specs.declared.types.Operand.TheVariants as operand
use Rattle.query_types.proofs.CondFacts.{entries_compare}
use Rattle.join_graph.specs.Conjuncts.{column_operand}
use Rattle.join_graph.proofs.Comparing.{equality_literal, equality_two}
use Rattle.planning.specs.ReducedExamples.{region_query}
use Rattle.key_carriers.specs.Carriers.{carrying_equalities}
use Rattle.key_carriers.specs.Examples.{keyless_schema, orders_and_customers, undeclared_schema}
use Rattle.key_bounds.specs.Examples.{two_references_query, manager_query, trade_schema, worker_schema}

pub shop_carriers : carrying_equalities orders_and_customers region_query ≡ edge_of 0 1 1 0 ∷ []
shop_carriers = rw (
  equality_two 0 1 1 0 (λ e. absurd (omega (arith, e))),
  equality_literal (column_operand 1 1) (operand.Int (pos 3)) refl,
  entries_compare op.Eq (column_operand 0 1) (column_operand 1 0),
  entries_compare op.Eq (column_operand 1 1) (operand.Int (pos 3)),
) refl

pub undeclared_carriers : carrying_equalities undeclared_schema region_query ≡ []
undeclared_carriers = rw (equality_two 0 1 1 0 (λ e. absurd (omega (arith, e))), equality_literal (column_operand 1 1) (operand.Int (pos 3)) refl) refl

pub keyless_carriers : carrying_equalities keyless_schema region_query ≡ []
keyless_carriers = rw (equality_two 0 1 1 0 (λ e. absurd (omega (arith, e))), equality_literal (column_operand 1 1) (operand.Int (pos 3)) refl) refl

pub worker_carriers : carrying_equalities worker_schema manager_query ≡ edge_of 0 1 1 0 ∷ []
worker_carriers = rw (
  equality_two 0 1 1 0 (λ e. absurd (omega (arith, e))),
  equality_literal (column_operand 1 2) (operand.Int (pos 3)) refl,
  entries_compare op.Eq (column_operand 0 1) (column_operand 1 0),
  entries_compare op.Eq (column_operand 1 2) (operand.Int (pos 3)),
) refl

pub trade_carriers : carrying_equalities trade_schema two_references_query ≡ edge_of 0 1 1 0 ∷ edge_of 0 2 2 0 ∷ []
trade_carriers = rw (
  equality_two 0 1 1 0 (λ e. absurd (omega (arith, e))),
  equality_two 0 2 2 0 (λ e. absurd (omega (arith, e))),
  equality_literal (column_operand 1 1) (operand.Int (pos 3)) refl,
  equality_literal (column_operand 2 1) (operand.Int (pos 3)) refl,
  entries_compare op.Eq (column_operand 0 1) (column_operand 1 0),
  entries_compare op.Eq (column_operand 0 2) (column_operand 2 0),
  entries_compare op.Eq (column_operand 1 1) (operand.Int (pos 3)),
  entries_compare op.Eq (column_operand 2 1) (operand.Int (pos 3)),
) refl
