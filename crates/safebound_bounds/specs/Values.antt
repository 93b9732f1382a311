-- Tables in which rows may have no value in a column, and when row bounds and lists fit such tables.
use Rattle.std.specs.Prelude.{◌≡◌, ℕ, ◌<◌, ◌≤◌, List, [], ◌∷◌, length, slice_index, slice_index_or, unwrap_or, Option, Some, None}
use Rattle.std.specs.List.{AllByRecursion}
use Rattle.degree_sequences.specs.Domination.{DominatesKeys}
use Rattle.berge_tree.specs.declared.edges.Edge.{Edge}
use Rattle.entry_sets.specs.Sets.{entries_of_set}
use Rattle.join_graph.specs.Kept.{equalities_within}
use Rattle.tree_bounds.specs.Columns.{EachNamedColumn}

-- how many rows the table of each entry has, and for each of its columns the values of these rows
pub record ValuedTables : Type 0 where
  pub rows : ℕ → ℕ
  pub values : ℕ → ℕ → List (Option ℕ)

-- the values of a column, without missing values
abbrev pub values_that_exist : List (Option ℕ) → List ℕ
values_that_exist [] = []
values_that_exist (None ∷ values) = values_that_exist values
values_that_exist (Some value ∷ values) = value ∷ values_that_exist values

-- the value of the chosen row in a column
abbrev pub value_of : ValuedTables → (ℕ → ℕ) → ℕ → ℕ → Option ℕ
value_of tables choice entry column = slice_index_or (tables.values entry column) (choice entry) None

-- both values are there, and they are equal
abbrev pub AreEqualValues : Option ℕ → Option ℕ → Type 0
AreEqualValues None right = ⊥
AreEqualValues (Some left) None = ⊥
AreEqualValues (Some left) (Some right) = left ≡ right

-- the choice takes a row for each entry of a list, and in each equality the values match
pub record SatisfiesValues (tables : ValuedTables) (entries : List ℕ) (es : List Edge) (choice : ℕ → ℕ) : Type 0 where
  pub rows : AllByRecursion (λ entry. choice entry < tables.rows entry) entries
  pub equal : AllByRecursion (λ e. AreEqualValues (value_of tables choice e.left.entry e.left.column) (value_of tables choice e.right.entry e.right.column)) es

-- the list that was handed in for a column dominates the column's values (missing values aside). The column has a value, or a missing value, for
-- each row
pub record FitsColumn (given : ℕ → ℕ → Option (List ℕ)) (tables : ValuedTables) (entry column : ℕ) : Type 0 where
  pub values : DominatesKeys (unwrap_or (given entry column) []) (values_that_exist (tables.values entry column))
  pub one_each : length (tables.values entry column) ≡ tables.rows entry

-- Each entry of a set has at most as many rows as its row bound. Each column that an equality of the set names fits its list
pub record ValuesFit (rows : List ℕ) (given : ℕ → ℕ → Option (List ℕ)) (tables : ValuedTables) (es : List Edge) (subset : ℕ) : Type 0 where
  pub entries : AllByRecursion (λ entry. tables.rows entry ≤ slice_index rows entry) (entries_of_set subset)
  pub columns : EachNamedColumn (FitsColumn given tables) (equalities_within subset es)
