-- Small queries over small tables, for worked examples.
use Rattle.std.specs.Prelude.{ℕ, List, [], ◌∷◌, ◌++◌, codes, map, pos}
use Rattle.csv_tables.specs.Values.{Int}
use Rattle.query_grammar.specs.declared.tree.Op.TheVariants as op
use Rattle.query_types.specs.declared.types.Cond.{Compare}
use Rattle.query_types.specs.declared.types.Operand.TheVariants as operand
use Rattle.query_types.specs.declared.types.Query.{Query}
use Rattle.join_graph.specs.Conjuncts.{column_operand}
use Rattle.query_bounds.specs.Examples.{two_table_query}
use Rattle.schema_types.specs.declared.types.Kind.TheVariants as kind
use Rattle.schema_types.specs.declared.types.Schema.{Schema}
use Rattle.schema_types.specs.declared.types.Table.{Table}
use Rattle.sql_meaning.specs.Tables.{Tables}

-- a table with this name and one column, X, of numbers
abbrev pub numbers_table : List ℕ → Table
numbers_table name = record { name = name; columns = record { name = codes "X"; kind = kind.Int } ∷ []; keys = []; references = [] }

-- the schema R(X), S(X)
abbrev pub schema_of_pair : Schema
schema_of_pair = record { tables = numbers_table (codes "R") ∷ numbers_table (codes "S") ∷ [] }

-- the schema K(X)
abbrev pub schema_of_one : Schema
schema_of_one = record { tables = numbers_table (codes "K") ∷ [] }

-- tables in which every entry has the same rows, each with one number
abbrev pub rows_of : List ℕ → Tables
rows_of column entry = map (λ n. Int (pos n) ∷ []) column

-- ---- queries

-- the query with R.X = S.X, S.Y > 3 and S.Y < 9
abbrev pub filtered_join : Query
filtered_join = record {
  from = two_table_query.from;
  conjuncts = two_table_query.conjuncts ++ Compare op.Gt (column_operand 1 1) (operand.Int (pos 3)) ∷ Compare op.Lt (column_operand 1 1) (operand.Int (pos 9)) ∷ [];
  select = two_table_query.select;
}

-- SELECT X FROM K WHERE X = 99
abbrev pub one_value : Query
one_value = record {
  from = record { table = 0; alias = 75 ∷ [] } ∷ [];
  conjuncts = Compare op.Eq (column_operand 0 0) (operand.Int (pos 99)) ∷ [];
  select = record { column = record { from = 0; column = 0 }; name = 88 ∷ [] } ∷ [];
}
