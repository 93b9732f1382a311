-- Queries over small tables, for examples of carried conjuncts.
use Rattle.std.specs.Prelude.{ℕ, if◌then◌else◌, ◌==◌, [], ◌∷◌, ◌++◌, map, pos}
use Rattle.schema_types.specs.declared.types.Reference.{Reference}
use Rattle.schema_types.specs.declared.types.Schema.{Schema}
use Rattle.schema_types.specs.declared.types.Table.{Table}
use Rattle.query_grammar.specs.declared.tree.Op.TheVariants as op
use Rattle.query_types.specs.declared.types.Cond.{Cond, Compare}
use Rattle.query_types.specs.declared.types.Operand.TheVariants as operand
use Rattle.query_types.specs.declared.types.Query.{Query}
use Rattle.join_graph.specs.Conjuncts.{column_operand}
use Rattle.sql_meaning.specs.Tables.{Tables}
use Rattle.key_carriers.specs.Examples.{id_key, customers_with, number_column}
use Rattle.planning.specs.ReducedExamples.{columns_equal, number_row, region_tables, source}

-- the condition that column `column` of entry `entry` is equal to n
abbrev pub column_equals : ℕ → ℕ → ℕ → Cond
column_equals entry column n = Compare op.Eq (column_operand entry column) (operand.Int (pos n))

-- `region_tables` with one more row of O(N, CID): (6, 9), which refers to no row
abbrev pub stray_order_tables : Tables
stray_order_tables entry = region_tables entry ++ (if entry == 0 then number_row (6 ∷ 9 ∷ []) ∷ [] else [])

-- SELECT E.N FROM W AS E, W AS M WHERE E.BOSS = M.N AND M.REG = 3, over W(N, BOSS, REG)
abbrev pub manager_query : Query
manager_query = record {
  from = source 0 69 ∷ source 0 77 ∷ [];
  conjuncts = columns_equal 0 1 1 0 ∷ column_equals 1 2 3 ∷ [];
  select = record { column = record { from = 0; column = 0 }; name = 78 ∷ [] } ∷ [];
}

-- the table W(N PRIMARY KEY, BOSS REFERENCES W (N), REG)
abbrev pub workers : Table
workers = record {
  name = 87 ∷ [];
  columns = number_column (78 ∷ []) ∷ number_column (66 ∷ []) ∷ number_column (82 ∷ []) ∷ [];
  keys = (0 ∷ []) ∷ [];
  references = (let up : Reference = record { columns = 1 ∷ []; table = 0; targets = 0 ∷ [] } in up) ∷ [];
}

abbrev pub worker_schema : Schema
worker_schema = record { tables = workers ∷ [] }

-- worker 1 is the boss of 1 and 2, and worker 2 is the boss of 3, 4 and 5. Only worker 1 is in region 3
abbrev pub worker_tables : Tables
worker_tables entry =
    map number_row ((1 ∷ 1 ∷ 3 ∷ []) ∷ (2 ∷ 1 ∷ 4 ∷ []) ∷ (3 ∷ 2 ∷ 4 ∷ []) ∷ (4 ∷ 2 ∷ 4 ∷ []) ∷ (5 ∷ 2 ∷ 4 ∷ []) ∷ [])

-- ---- two references to one table

-- the table O(N, BUYER REFERENCES C (ID), PAYER REFERENCES C (ID))
abbrev pub trades : Table
trades = record {
  name = 79 ∷ [];
  columns = number_column (78 ∷ []) ∷ number_column (66 ∷ []) ∷ number_column (80 ∷ []) ∷ [];
  keys = [];
  references = (let buyer : Reference = record { columns = 1 ∷ []; table = 1; targets = 0 ∷ [] } in buyer)
      ∷ record { columns = 2 ∷ []; table = 1; targets = 0 ∷ [] } ∷ [];
}

abbrev pub trade_schema : Schema
trade_schema = record { tables = trades ∷ customers_with id_key ∷ [] }

-- SELECT O.N FROM O, C AS B, C AS P WHERE O.BUYER = B.ID AND O.PAYER = P.ID AND B.REG = 3 AND P.REG = 3
abbrev pub two_references_query : Query
two_references_query = record {
  from = source 0 79 ∷ source 1 66 ∷ source 1 80 ∷ [];
  conjuncts = columns_equal 0 1 1 0 ∷ columns_equal 0 2 2 0 ∷ column_equals 1 1 3 ∷ column_equals 2 1 3 ∷ [];
  select = record { column = record { from = 0; column = 0 }; name = 78 ∷ [] } ∷ [];
}

-- five trades of two customers: customer 1 is in region 3, and customer 2 is in region 4
abbrev pub trade_tables : Tables
trade_tables entry =
    map number_row (if entry == 0 then (1 ∷ 1 ∷ 2 ∷ []) ∷ (2 ∷ 2 ∷ 1 ∷ []) ∷ (3 ∷ 2 ∷ 2 ∷ []) ∷ (4 ∷ 1 ∷ 1 ∷ []) ∷ (5 ∷ 2 ∷ 2 ∷ []) ∷ []
    else (1 ∷ 3 ∷ []) ∷ (2 ∷ 4 ∷ []) ∷ [])
