-- Queries over small tables, for examples.
use Rattle.std.specs.Prelude.{ℕ, ◌==◌, if◌then◌else◌, List, [], ◌∷◌, ◌++◌, map, pos}
use Rattle.csv_tables.specs.Rows.{Row}
use Rattle.csv_tables.specs.Values.{Int}
use Rattle.query_grammar.specs.declared.tree.Op.TheVariants as op
use Rattle.query_types.specs.declared.types.Cond.{Cond, Compare}
use Rattle.query_types.specs.declared.types.Operand.TheVariants as operand
use Rattle.query_types.specs.declared.types.Query.{Query}
use Rattle.query_types.specs.declared.types.Source.{Source}
use Rattle.join_graph.specs.Conjuncts.{column_operand}
use Rattle.query_bounds.specs.Examples.{two_table_query}
use Rattle.sql_meaning.specs.Tables.{Tables}

-- a row of numbers
abbrev pub number_row : List ℕ → Row
number_row row = map (λ n. Int (pos n)) row

-- a table, given by its number, with an alias of one letter
abbrev pub source : ℕ → ℕ → Source
source table letter = record { table = table; alias = letter ∷ [] }

-- the condition that two columns are equal. Each column is given by its entry and its number
abbrev pub columns_equal : ℕ → ℕ → ℕ → ℕ → Cond
columns_equal left a right b = Compare op.Eq (column_operand left a) (column_operand right b)

-- SELECT O.N FROM O, C WHERE O.CID = C.ID AND C.REG = 3
abbrev pub region_query : Query
region_query = record {
  from = source 0 79 ∷ source 1 67 ∷ [];
  conjuncts = columns_equal 0 1 1 0 ∷ Compare op.Eq (column_operand 1 1) (operand.Int (pos 3)) ∷ [];
  select = record { column = record { from = 0; column = 0 }; name = 78 ∷ [] } ∷ [];
}

-- the tables O(N, CID) of (1, 1), (2, 2), (3, 2), (4, 2), (5, 2) and C(ID, REG) of (1, 3), (2, 4), (3, 4), (4, 4)
abbrev pub region_tables : Tables
region_tables entry =
    map number_row (if entry == 0 then (1 ∷ 1 ∷ []) ∷ (2 ∷ 2 ∷ []) ∷ (3 ∷ 2 ∷ []) ∷ (4 ∷ 2 ∷ []) ∷ (5 ∷ 2 ∷ []) ∷ []
    else (1 ∷ 3 ∷ []) ∷ (2 ∷ 4 ∷ []) ∷ (3 ∷ 4 ∷ []) ∷ (4 ∷ 4 ∷ []) ∷ [])

-- SELECT A.X FROM A, B, D WHERE A.X = B.X AND B.Y = D.Y
abbrev pub chain_query : Query
chain_query = record {
  from = source 0 65 ∷ source 1 66 ∷ source 2 68 ∷ [];
  conjuncts = columns_equal 0 0 1 0 ∷ columns_equal 1 1 2 0 ∷ [];
  select = record { column = record { from = 0; column = 0 }; name = 88 ∷ [] } ∷ [];
}

-- the tables A(X) of 1, 2, 3, B(X, Y) of (1, 1), (2, 2), (3, 9) and D(Y) of 1
abbrev pub chain_tables : Tables
chain_tables entry =
    map number_row (if entry == 0 then (1 ∷ []) ∷ (2 ∷ []) ∷ (3 ∷ []) ∷ []
    else if entry == 1 then (1 ∷ 1 ∷ []) ∷ (2 ∷ 2 ∷ []) ∷ (3 ∷ 9 ∷ []) ∷ []
    else (1 ∷ []) ∷ [])

-- SELECT R.X FROM R, S, U WHERE R.X = S.X. R has no row, and U isn't joined with another entry
abbrev pub unjoined_entry_query : Query
unjoined_entry_query = record { from = two_table_query.from ++ source 2 85 ∷ []; conjuncts = two_table_query.conjuncts; select = two_table_query.select }

abbrev pub empty_first_tables : Tables
empty_first_tables entry = map number_row (if entry == 0 then [] else (1 ∷ []) ∷ (2 ∷ []) ∷ [])

-- the tables R(A, C) and S(A, B) of (1, 1) and (2, 2), and T(B, C) of (1, 2) and (2, 1). They are joined in a triangle
abbrev pub crossed_tables : Tables
crossed_tables entry =
    map number_row (if entry == 2 then (1 ∷ 2 ∷ []) ∷ (2 ∷ 1 ∷ []) ∷ [] else (1 ∷ 1 ∷ []) ∷ (2 ∷ 2 ∷ []) ∷ [])

-- SELECT R.X FROM R, S WHERE R.X = S.X AND 1 = 2
abbrev pub never_true_query : Query
never_true_query = record {
  from = two_table_query.from;
  conjuncts = two_table_query.conjuncts ++ Compare op.Eq (operand.Int (pos 1)) (operand.Int (pos 2)) ∷ [];
  select = two_table_query.select;
}
