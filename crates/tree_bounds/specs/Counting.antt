-- The choices of rows that agree in each class of a tree. Their number is a sum of products, and each is listed by its row numbers.
use Rattle.std.specs.Prelude.{ℕ, ◌*◌, ◌==◌, if◌then◌else◌, List, [], ◌∷◌, ◌++◌, map, length, slice_index}
use Rattle.std.specs.List.{flat_map, sum_by, range_with_len}
use Rattle.degree_sequences.specs.KeyedRows.{ChildKeys, weight_of_row, weight_of_key}
use Rattle.berge_tree.specs.Trees.{Classes, no_class, and_class, Members, one_member, and_member, BergeTree}
use Rattle.tree_bounds.specs.Tables.{KeyedTables}

-- for each class below an entry: the keys of the entry's rows in the class, and for each key the number of choices below the class
abbrev mutual
  pub child_keys : KeyedTables → ℕ → Classes → List ChildKeys
  child_keys tables entry no_class = []
  child_keys tables entry
      (and_class column members rest) = record { keys = tables.keys entry column; weight = choices_for tables members }
      ∷ child_keys tables entry rest

  -- the number of choices below a class in which the chosen rows have this key in the class
  pub choices_for : KeyedTables → Members → ℕ → ℕ
  choices_for tables (one_member entry column below) = weight_of_key (tables.keys entry column) (child_keys tables entry below)
  choices_for tables (and_member entry column below rest) = λ key. weight_of_key (tables.keys entry column)
      (child_keys tables entry below) key * choices_for tables rest key

abbrev pub number_of_choices : KeyedTables → BergeTree → ℕ
number_of_choices tables t = sum_by (weight_of_row (child_keys tables t.root t.below)) (range_with_len 0 (tables.rows t.root))

-- ---- the choices, each as the row numbers of its entries, from the root down

-- each list of row numbers with `row` in front
abbrev pub with_row : ℕ → List (List ℕ) → List (List ℕ)
with_row row below = map (λ (rows : List ℕ). row ∷ rows) below

-- each list of `xs` followed by each list of `ys`
abbrev pub each_followed_by_each : List (List ℕ) → List (List ℕ) → List (List ℕ)
each_followed_by_each xs ys = flat_map (λ x. map (λ y. x ++ y) ys) xs

-- for each row that has this key, and each choice below the row: a list of the row and the rows of this choice
abbrev pub rows_with_key : List ℕ → (ℕ → List (List ℕ)) → ℕ → List (List ℕ)
rows_with_key keys below key = flat_map (λ row. if slice_index keys row == key then with_row row (below row)
    else []) (range_with_len 0 (length keys))

abbrev mutual
  pub chosen_below : KeyedTables → ℕ → Classes → ℕ → List (List ℕ)
  chosen_below tables entry no_class = λ row. [] ∷ []
  chosen_below tables entry (and_class column members rest) = λ row. each_followed_by_each
      (chosen_within tables members (slice_index (tables.keys entry column) row)) (chosen_below tables entry rest row)

  pub chosen_within : KeyedTables → Members → ℕ → List (List ℕ)
  chosen_within tables (one_member entry column below) = rows_with_key (tables.keys entry column) (chosen_below tables entry below)
  chosen_within tables (and_member entry column below rest) = λ key. each_followed_by_each
      (rows_with_key (tables.keys entry column) (chosen_below tables entry below) key) (chosen_within tables rest key)

abbrev pub tree_choices : KeyedTables → BergeTree → List (List ℕ)
tree_choices tables t = flat_map (λ row. with_row row (chosen_below tables t.root t.below row)) (range_with_len 0 (tables.rows t.root))

abbrev pub chosen_rows_of_all : KeyedTables → List BergeTree → List (List ℕ)
chosen_rows_of_all tables [] = [] ∷ []
chosen_rows_of_all tables (t ∷ ts) = each_followed_by_each (tree_choices tables t) (chosen_rows_of_all tables ts)
