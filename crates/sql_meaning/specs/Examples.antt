-- Small tables and conditions, for worked examples.
use Rattle.std.specs.Prelude.{ℕ, List, [], ◌∷◌, pos}
use Rattle.std.specs.List.{filter, range_with_len}
use Rattle.schema_types.specs.declared.types.Kind.TheVariants as kind
use Rattle.csv_tables.specs.Values.{Int}
use Rattle.csv_tables.specs.declared.types.Cells.{Cells}
use Rattle.csv_tables.specs.declared.types.Database.{Database}
use Rattle.query_grammar.specs.declared.tree.Op.{Op}
use Rattle.query_grammar.specs.declared.tree.Op.TheVariants as op
use Rattle.query_types.specs.declared.types.Operand.{Operand}
use Rattle.query_types.specs.declared.types.Operand.TheVariants as operand
use Rattle.query_types.specs.declared.types.Cond.{Cond, And, Or, Not, Compare}
use Rattle.query_types.specs.declared.types.Query.{Query}
use Rattle.sql_meaning.specs.Conditions.{cond_holds}
use Rattle.sql_meaning.specs.Tables.{Tables, row_counts}

-- one table with one column X and the rows 1, 2, 3
abbrev pub one_two_three : Tables
one_two_three entry = (Int (pos 1) ∷ []) ∷ (Int (pos 2) ∷ []) ∷ (Int (pos 3) ∷ []) ∷ []

-- X compared with a number
abbrev pub x_is : Op → ℕ → Cond
x_is op number = Compare op (operand.Column (record { from = 0; column = 0 })) (operand.Int (pos number))

-- the rows of the first entry for which a condition holds, by their numbers
abbrev pub rows_where : Tables → Cond → List ℕ
rows_where tables cond = filter (λ row. cond_holds tables (λ entry. row) cond) (range_with_len 0 (row_counts tables 0))

-- NOT (X IN (1, 3))
abbrev pub not_in_one_three : Cond
not_in_one_three = Not (Or (x_is op.Eq 1 ∷ x_is op.Eq 3 ∷ []))

-- X BETWEEN 3 AND 1
abbrev pub from_three_to_one : Cond
from_three_to_one = And (x_is op.Ge 3 ∷ x_is op.Le 1 ∷ [])

-- a column of an entry, both given by their numbers
abbrev pub column_at : ℕ → ℕ → Operand
column_at from column = operand.Column (record { from = from; column = column })

-- a table with three rows, and two columns of numbers that aren't negative
abbrev pub three_rows : List ℕ → List ℕ → Cells
three_rows first second = record { kinds = kind.Int ∷ kind.Int ∷ []; columns = first ∷ second ∷ []; rows = 3 }

-- SELECT R.A, S.B, T.C FROM R, S, T WHERE R.A = S.A AND S.B = T.B AND T.C = R.C, over R(A, C), S(A, B) and T(B, C)
abbrev pub triangle : Query
triangle = record {
  from = record { table = 0; alias = 82 ∷ [] } ∷ record { table = 1; alias = 83 ∷ [] } ∷ record { table = 2; alias = 84 ∷ [] } ∷ [];
  conjuncts = Compare op.Eq (column_at 0 0) (column_at 1 0) ∷ Compare op.Eq (column_at 1 1) (column_at 2 0)
      ∷ Compare op.Eq (column_at 2 1) (column_at 0 1) ∷ [];
  select = record { column = record { from = 0; column = 0 }; name = 65 ∷ [] }
      ∷ record { column = record { from = 1; column = 1 }; name = 66 ∷ [] }
      ∷ record { column = record { from = 2; column = 1 }; name = 67 ∷ [] } ∷ [];
}

-- the rows (1, 1), (1, 2), (2, 1) of R and of S, and (1, 1), (2, 1), (1, 2) of T
abbrev pub triangle_tables : Database
triangle_tables = record {
  pool = [];
  cells = three_rows (1 ∷ 1 ∷ 2 ∷ []) (1 ∷ 2 ∷ 1 ∷ []) ∷ three_rows (1 ∷ 1 ∷ 2 ∷ []) (1 ∷ 2 ∷ 1 ∷ [])
      ∷ three_rows (1 ∷ 2 ∷ 1 ∷ []) (1 ∷ 1 ∷ 2 ∷ []) ∷ [];
  slots = 0 ∷ 1 ∷ 2 ∷ [];
}
