-- Two tables that are joined, the query that joins them, and its plan.
use Rattle.std.specs.Prelude.{◌≡◌, ℕ, ◌*◌, ◌/◌, ◌^◌, ◌<◌, ◌≤◌, List, [], ◌∷◌, All, Option, Some, None, length, map}
use Rattle.std.specs.List.{range_with_len}
use Rattle.schema_types.specs.declared.types.Kind.TheVariants as kind
use Rattle.csv_tables.specs.declared.types.Cells.{Cells}
use Rattle.csv_tables.specs.declared.types.Database.{Database}
use Rattle.query_grammar.specs.declared.tree.Op.{Op}
use Rattle.query_grammar.specs.declared.tree.Op.TheVariants as op
use Rattle.query_types.specs.declared.types.Operand.TheVariants as operand
use Rattle.query_types.specs.declared.types.Cond.{Cond, Compare}
use Rattle.query_types.specs.declared.types.Query.{Query}
use Rattle.plans.specs.declared.bushy.BushyPlan.{BushyPlan}

abbrev pub compared : Op → ℕ → Cond
compared op number = Compare op (operand.Column (record { from = 0; column = number }))
    (operand.Column (record { from = 1; column = number }))

-- the comparison of the values, if there is one
abbrev pub values_compared : Option Op → List Cond
values_compared None = []
values_compared (Some operator) = compared operator 1 ∷ []

-- the query FROM L, R WHERE L.K = R.K. With an operator it goes on with AND and the comparison of L.V with R.V
abbrev pub join_of : Option Op → Query
join_of comparison = record {
  from = record { table = 0; alias = [] } ∷ record { table = 1; alias = [] } ∷ [];
  conjuncts = compared op.Eq 0 ∷ values_compared comparison;
  select = [];
}

-- a table of the columns K and V
abbrev pub table_of : ℕ → List ℕ → List ℕ → Cells
table_of rows keys values = record { kinds = kind.Int ∷ kind.Int ∷ []; columns = keys ∷ values ∷ []; rows = rows }

-- `rows` numbers: the first `repeats` numbers are 0, the next `repeats` numbers are 1, and so on
abbrev pub each_repeated : ℕ → ℕ → List ℕ
each_repeated rows repeats = map (λ row. row / repeats) (range_with_len 0 rows)

abbrev pub tables_of_two : Cells → Cells → Database
tables_of_two left right = record { pool = []; cells = left ∷ right ∷ []; slots = 0 ∷ 1 ∷ [] }

-- `rows` numbers of 64 bits
pub record AreNumbers (rows : ℕ) (cells : List ℕ) : Type 0 where
  pub lengths : length cells ≡ rows
  pub small : All (λ cell. cell < 2 ^ 64) cells

-- two columns of numbers
pub record IsTableOfNumbers (rows : ℕ) (cells : Cells) : Type 0 where
  pub keys : List ℕ
  pub values : List ℕ
  pub is : cells ≡ table_of rows keys values
  pub are_keys : AreNumbers rows keys
  pub are_values : AreNumbers rows values

-- a table whose keys are `each_repeated rows times`
pub record HasRepeatedKeys (rows repeats : ℕ) (cells : Cells) : Type 0 where
  pub values : List ℕ
  pub is : cells ≡ table_of rows (each_repeated rows repeats) values
  pub are_values : AreNumbers rows values

-- two tables of these sizes; the right table has each key at most `repeats` times
pub record AreTwoTables (left right repeats : ℕ) (db : Database) : Type 0 where
  pub first : Cells
  pub second : Cells
  pub is : db ≡ tables_of_two first second
  pub is_first : IsTableOfNumbers left first
  pub is_second : HasRepeatedKeys right repeats second

-- the plan of the query. The join has at most `repeats` rows for each row of the left table
abbrev pub plan_of : ℕ → ℕ → ℕ → BushyPlan
plan_of left right repeats = record {
  joins = record { left = 0; right = 1; bound = repeats * left } ∷ [];
  scans = left ∷ right ∷ [];
  cost = repeats * left;
}

-- two tables, the query that joins them, and its plan. The sizes of the tables and of the join are within the limits of tables and plans
pub record IsJoinOfTwo (plan : BushyPlan) (query : Query) (db : Database) : Type 0 where
  pub left : ℕ
  pub right : ℕ
  pub repeats : ℕ
  pub comparison : Option Op
  pub is_plan : plan ≡ plan_of left right repeats
  pub is_query : query ≡ join_of comparison
  pub are_two : AreTwoTables left right repeats db
  pub some : 0 < repeats
  pub few_left : left ≤ 4000000
  pub few_right : right ≤ 4000000
  pub few_joined : repeats * left ≤ 20000000
