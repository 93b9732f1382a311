-- The printed rows and numbers of rows of an executed query.
use Rattle.std.specs.Prelude.{ℕ, ◌+◌, Bool, not, ◌&&◌, ◌==◌, if◌then◌else◌, List, [], drop, length, map}
use Rattle.std.specs.List.{range_with_len}
use Rattle.csv_tables.specs.Rows.{Row}
use Rattle.csv_tables.specs.declared.types.Database.{Database}
use Rattle.query_types.specs.declared.types.Query.{Query}
use Rattle.sql_meaning.specs.Answers.{conjuncts_of, selected}
use Rattle.sql_meaning.specs.Levels.{all_hold, row_in}
use Rattle.sql_meaning.specs.Tables.{Tables, tables_of}
use Rattle.join_steps.specs.Levels.{query_level}
use Rattle.plans.specs.Orders.{level_node}
use Rattle.tree_rows.specs.Nodes.{Node, node_at}

-- the values of the query's outputs for a choice of rows for the entries of this order
abbrev pub selected_in : Query → Database → List ℕ → List ℕ → Row
selected_in query db order choice = selected query (tables_of db) (row_in order choice)

-- the values of the outputs for each of these choices, one after another
abbrev pub selected_rows : Query → Database → List ℕ → List (List ℕ) → List Row
selected_rows query db entries choices = map (λ choice. selected_in query db entries choice) choices

-- the rows that are printed for an order: the values of the outputs for the choices of its last level
abbrev pub printed_rows : Query → Database → List ℕ → List Row
printed_rows query db order = selected_rows query db order (query_level query db order (length order))

-- every conjunct that names no entry (such as 1 = 1) holds
abbrev pub constants_of : Query → Tables → Bool
constants_of query tables = all_hold (conjuncts_of query tables) [] (row_in [] [])

-- the rows of level k of an order, by the nodes of its tree. The leaf of level 1 has all rows of its list. The level has them only if every conjunct
-- that names no entry holds (`constants`)
abbrev pub rows_of_level : Bool → List ℕ → List Node → ℕ → List (List ℕ)
rows_of_level constants order nodes k =
    if (k == 1) && not constants then [] else (node_at nodes (level_node (length order) order k)).rows

-- how many rows each level has
abbrev pub level_counts : Bool → List ℕ → List Node → List ℕ
level_counts constants order nodes = map (λ k. length (rows_of_level constants order nodes (k + 1))) (range_with_len 0 (length order))

-- how many rows each inner node of a tree over n entries has
abbrev pub node_counts : ℕ → List Node → List ℕ
node_counts n nodes = map (λ node. length node.rows) (drop n nodes)
