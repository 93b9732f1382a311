-- Joined tables as SQL-92 defines them (7.5), as lists of rows. A semi-join and an anti-join have only rows of the left table. SQL writes
-- them with EXISTS and NOT EXISTS.
use Rattle.std.specs.Prelude.{ℕ, Bool, not, List, ◌++◌, map, replicate, Option, None}
use Rattle.std.specs.List.{filter, flat_map, list_any}
use Rattle.joined_tables.specs.declared.joins.Join.{Join}
use Rattle.joined_tables.specs.declared.joins.Join.TheVariants.{Anti, Full, Left, Right, Semi}

-- a row has for each column a number that stands for its value, or None for the null value
abbrev pub RowWithNulls : Type 0
RowWithNulls = List (Option ℕ)

-- a table: how many columns it has, and its rows. Rows may be equal
pub record Table : Type 0 where
  pub columns : ℕ
  pub rows : List RowWithNulls

-- a join condition: whether it is true for a pair of rows. A condition that is false or unknown isn't true
abbrev pub Condition : Type 0
Condition = RowWithNulls → RowWithNulls → Bool

-- a row of null values
abbrev pub nulls : ℕ → RowWithNulls
nulls columns = replicate columns None

-- the inner join: the pairs of rows for which the condition is true
abbrev pub inner_join : Condition → Table → Table → List RowWithNulls
inner_join is_true left right = flat_map (λ row. map (λ other. row ++ other) (filter (is_true row) right.rows)) left.rows

-- the rows of the left table that are in a pair of the inner join
abbrev pub left_paired : Condition → Table → Table → List RowWithNulls
left_paired is_true left right = filter (λ row. list_any (is_true row) right.rows) left.rows

-- the rows of the left table that are in no pair
abbrev pub left_unpaired : Condition → Table → Table → List RowWithNulls
left_unpaired is_true left right = filter (λ row. not (list_any (is_true row) right.rows)) left.rows

-- the rows of the right table that are in no pair
abbrev pub right_unpaired : Condition → Table → Table → List RowWithNulls
right_unpaired is_true left right = filter (λ other. not (list_any (λ row. is_true row other) left.rows)) right.rows

-- the rows of a table that are in no pair, with null values for the columns of the other table
abbrev pub left_with_nulls : Condition → Table → Table → List RowWithNulls
left_with_nulls is_true left right = map (λ row. row ++ nulls right.columns) (left_unpaired is_true left right)

abbrev pub right_with_nulls : Condition → Table → Table → List RowWithNulls
right_with_nulls is_true left right = map (λ other. nulls left.columns ++ other) (right_unpaired is_true left right)

-- the rows of a joined table. Equal rows are all kept
abbrev pub joined : Join → Condition → Table → Table → List RowWithNulls
joined Left is_true left right = inner_join is_true left right ++ left_with_nulls is_true left right
joined Right is_true left right = inner_join is_true left right ++ right_with_nulls is_true left right
joined Full is_true left right = inner_join is_true left right ++ (left_with_nulls is_true left right ++ right_with_nulls is_true left right)
joined Semi is_true left right = left_paired is_true left right
joined Anti is_true left right = left_unpaired is_true left right
