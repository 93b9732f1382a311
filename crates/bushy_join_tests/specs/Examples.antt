-- Queries, a database and plans over join trees, for the worked examples of joins.
use Rattle.std.specs.Prelude.{ℕ, List, [], ◌∷◌, map}
use Rattle.csv_tables.specs.declared.types.Database.{Database}
use Rattle.query_types.specs.declared.types.Query.{Query}
use Rattle.plans.specs.declared.bushy.BushyPlan.{BushyPlan}
use Rattle.plans.specs.TreeExamples.{join, plan_of}
use Rattle.bushy_join_tests.specs.SmallQueries.{cond_of, number_table, one_is_two, database_of_tables}

-- a query that has no answer rows: FROM these tables, which are given by their numbers, WHERE 1 = 2. It selects no column
abbrev pub query_with_false_condition : List ℕ → Query
query_with_false_condition tables = record {
  from = map (λ table. record { table = table; alias = [] }) tables;
  conjuncts = cond_of one_is_two ∷ [];
  select = [];
}

-- a table T(X) with the rows 1, 2 and 3
abbrev pub three_rows : Database
three_rows = database_of_tables (number_table 3 ((1 ∷ 2 ∷ 3 ∷ []) ∷ []) ∷ [])

-- a plan that joins two entries, of at most 6 and 5 rows, into at most 12 rows
abbrev pub pair_plan : BushyPlan
pair_plan = plan_of (join 0 1 12 ∷ []) (6 ∷ 5 ∷ []) 12

-- a plan for three entries by the tree (0, (1, 2)). Node 3 joins entries 1 and 2, and the root joins entry 0 and node 3
abbrev pub triangle_plan : BushyPlan
triangle_plan = plan_of (join 1 2 5 ∷ join 0 3 9 ∷ []) (3 ∷ 3 ∷ 3 ∷ []) 9

-- a plan for one entry of at most three rows, which joins nothing
abbrev pub one_entry_plan : BushyPlan
one_entry_plan = plan_of [] (3 ∷ []) 3

-- a plan that joins two entries of at most three rows each
abbrev pub two_entries_plan : BushyPlan
two_entries_plan = plan_of (join 0 1 9 ∷ []) (3 ∷ 3 ∷ []) 9
