-- Two tables that are joined by one column, for examples.
use Rattle.std.specs.Prelude.{ℕ, ◌==◌, if◌then◌else◌, List, [], ◌∷◌}
use Rattle.query_grammar.specs.declared.tree.Op.TheVariants as op
use Rattle.query_types.specs.declared.types.Cond.{Compare}
use Rattle.query_types.specs.declared.types.Query.{Query}
use Rattle.join_graph.specs.Conjuncts.{column_operand}
use Rattle.query_bounds.specs.Statistics.{Statistics}

-- SELECT R.X FROM R, S WHERE R.X = S.X
abbrev pub two_table_query : Query
two_table_query = record {
  from = record { table = 0; alias = 82 ∷ [] } ∷ record { table = 1; alias = 83 ∷ [] } ∷ [];
  conjuncts = Compare op.Eq (column_operand 0 0) (column_operand 1 0) ∷ [];
  select = record { column = record { from = 0; column = 0 }; name = 88 ∷ [] } ∷ [];
}

-- R(X) has the 6 rows [1, 1, 1, 2, 2, 3], and S(X) has the 5 rows [1, 1, 4, 5, 6]
abbrev pub pair_rows : ℕ → ℕ
pair_rows entry = if entry == 0 then 6 else 5

-- the degree list of R(X) is [3, 2, 1], and the degree list of S(X) is [2, 1, 1, 1]. `pair_list` has both lists, compressed at accuracy 1
abbrev pub pair_list : ℕ → List ℕ
pair_list entry = if entry == 0 then 3 ∷ 3 ∷ [] else 2 ∷ 2 ∷ 1 ∷ []

abbrev pub pair_known : Statistics
pair_known = record {
  counts = λ entry. record { whole = pair_rows entry; equal = λ column value. pair_rows entry; range = λ range. pair_rows entry };
  lists = λ entry column. record { whole = pair_list entry; equal = λ filter value. pair_list entry; range = λ range. pair_list entry };
}
