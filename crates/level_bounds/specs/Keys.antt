-- Keys: a number for each row in each column. Rows that an equality joins have the same key.
use Rattle.std.specs.Prelude.{◌≡◌, ◌≢◌, ℕ, ◌<◌, Bool, true, List, [], AllPairs, slice_index, slice_index_or}
use Rattle.std.specs.List.{AllByRecursion}
use Rattle.std.specs.Ordering.{is_eq}
use Rattle.std.specs.Str.{chars}
use Rattle.berge_tree.specs.declared.edges.Edge.{Edge}
use Rattle.csv_tables.specs.Values.{Value, value_cmp}
use Rattle.csv_tables.specs.declared.types.Database.{Database}
use Rattle.sql_meaning.specs.Conditions.{column_value}
use Rattle.sql_meaning.specs.Tables.{Tables, cells_of, row_counts}

-- for an entry, a column and a row: the key of this row
abbrev pub Keys : Type 0
Keys = ℕ → ℕ → ℕ → ℕ

-- for an entry, a column and a row: the value of this row
abbrev pub value_at : Tables → ℕ → ℕ → ℕ → Value
value_at tables entry column row = column_value tables (λ e. row) (record { from = entry; column = column })

-- the values of the two rows in the columns of an equality are equal
abbrev pub are_equal_at : Tables → Edge → ℕ → ℕ → Bool
are_equal_at tables e left right =
    is_eq (value_cmp (value_at tables e.left.entry e.left.column left) (value_at tables e.right.entry e.right.column right))

-- two rows that the equality joins have the same key in its columns
abbrev pub JoinsEqualKeys : Tables → Keys → Edge → Type 0
JoinsEqualKeys tables key e = (left right : ℕ) → left < row_counts tables e.left.entry → right < row_counts tables e.right.entry
    → are_equal_at tables e left right ≡ true → key e.left.entry e.left.column left ≡ key e.right.entry e.right.column right

-- rows that one of these equalities joins have the same key in its columns
abbrev pub AreKeys : Tables → Keys → List Edge → Type 0
AreKeys tables key es = AllByRecursion (JoinsEqualKeys tables key) es

-- the cells of a database as keys
abbrev pub cell_at : Database → Keys
cell_at db entry column row = slice_index (slice_index_or (cells_of db entry).columns column []) row

-- no two texts have the same characters
abbrev pub HaveDifferentCharacters : List (List ℕ) → Type 0
HaveDifferentCharacters texts = AllPairs (λ a b. chars a ≢ chars b) texts
