-- Small trees, bounds and tables for examples. An entry's number is its FROM position, and a column's number is its position in the table.
use Rattle.std.specs.Prelude.{ℕ, zero, suc, List, [], ◌∷◌}
use Rattle.berge_tree.specs.Trees.{no_class, and_class, Members, one_member, and_member, BergeTree}
use Rattle.tree_bounds.specs.TreeBounds.{EntryBounds}
use Rattle.tree_bounds.specs.Tables.{KeyedTables}

-- ---- R(X), S(X, Y) and T(Y), where R.X = S.X and S.Y = T.Y

abbrev pub path : BergeTree
path = record { root = 0; below = and_class 0 (one_member 1 0 (and_class 1 (one_member 2 0 no_class) no_class)) no_class }

abbrev pub path_list : ℕ → ℕ → List ℕ
path_list zero column = 2 ∷ 1 ∷ []
path_list (suc zero) zero = 3 ∷ 3 ∷ []
path_list (suc zero) (suc column) = 2 ∷ 2 ∷ 2 ∷ []
path_list (suc (suc entry)) column = 4 ∷ 1 ∷ []

abbrev pub path_rows : ℕ → ℕ
path_rows zero = 3
path_rows (suc zero) = 6
path_rows (suc (suc entry)) = 5

abbrev pub path_bounds : EntryBounds
path_bounds = record { rows = path_rows; list = path_list }

-- ---- R(X) and S(X), where R.X = S.X

abbrev pub r_and_s : BergeTree
r_and_s = record { root = 0; below = and_class 0 (one_member 1 0 no_class) no_class }

abbrev pub two_rows : ℕ → ℕ
two_rows zero = 6
two_rows (suc entry) = 5

abbrev pub two_keys : ℕ → ℕ → List ℕ
two_keys zero column = 1 ∷ 1 ∷ 1 ∷ 2 ∷ 2 ∷ 3 ∷ []
two_keys (suc entry) column = 1 ∷ 1 ∷ 4 ∷ 5 ∷ 6 ∷ []

abbrev pub two_tables : KeyedTables
two_tables = record { rows = two_rows; keys = two_keys }

-- two choices: row 0 of R with row 0 of S, and row 0 of R with row 1 of S
abbrev pub two_choices : List (ℕ → ℕ)
two_choices = (λ entry. 0) ∷ (λ entry. entry) ∷ []

-- the degree lists of the keys in R and in S
abbrev pub exact_list : ℕ → ℕ → List ℕ
exact_list zero column = 3 ∷ 2 ∷ 1 ∷ []
exact_list (suc entry) column = 2 ∷ 1 ∷ 1 ∷ 1 ∷ []

abbrev pub exact_bounds : EntryBounds
exact_bounds = record { rows = two_rows; list = exact_list }

-- the compressed degree lists of the keys in R and in S
abbrev pub compressed_list : ℕ → ℕ → List ℕ
compressed_list zero column = 3 ∷ 3 ∷ []
compressed_list (suc entry) column = 2 ∷ 2 ∷ 1 ∷ []

abbrev pub compressed_bounds : EntryBounds
compressed_bounds = record { rows = two_rows; list = compressed_list }

-- ---- bounds for sets

-- three rows for each entry, and the list [2, 1] for each column
abbrev pub triangle_bounds : EntryBounds
triangle_bounds = record { rows = λ entry. 3; list = λ entry column. 2 ∷ 1 ∷ [] }

-- lists of columns with three rows. In column 0 all rows have the same key. In every other column the rows have three different keys
abbrev pub alike_or_different : ℕ → List ℕ
alike_or_different zero = 3 ∷ []
alike_or_different (suc column) = 1 ∷ 1 ∷ 1 ∷ []

abbrev pub pair_bounds : EntryBounds
pair_bounds = record { rows = λ entry. 3; list = λ entry column. alike_or_different column }

-- ---- entries in one class, each with 1700 rows that all have the same key

-- n + 1 entries, numbered from `first`
abbrev pub members_from : ℕ → ℕ → Members
members_from first zero = one_member first 0 no_class
members_from first (suc n) = and_member first 0 no_class (members_from (suc first) n)

-- n + 2 entries in one class: the root, and n + 1 below it
abbrev pub one_class : ℕ → BergeTree
one_class n = record { root = 0; below = and_class 0 (members_from 1 n) no_class }

abbrev pub bounds_of_1700_rows : EntryBounds
bounds_of_1700_rows = record { rows = λ entry. 1700; list = λ entry column. 1700 ∷ [] }
