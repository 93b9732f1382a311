-- Tables, given by the keys of their rows. Choices of one row of each entry, and lists that dominate tables.
use Rattle.std.specs.Prelude.{◌≡◌, ◌≢◌, ℕ, ◌<◌, ◌≤◌, ⊤, List, map, length, slice_index}
use Rattle.std.specs.List.{AllByRecursion, AllPairs}
use Rattle.degree_sequences.specs.Domination.{DominatesKeys}
use Rattle.berge_tree.specs.declared.edges.Edge.{Edge}
use Rattle.entry_sets.specs.Sets.{entries_of_set}
use Rattle.berge_tree.specs.Trees.{Classes, no_class, and_class, Members, one_member, and_member, BergeTree}
use Rattle.join_graph.specs.Kept.{equalities_within}
use Rattle.tree_bounds.specs.Columns.{EachColumn, EachNamedColumn}
use Rattle.tree_bounds.specs.TreeBounds.{EntryBounds}

-- the number of rows of each entry's table, and for each column of the table the keys of these rows
pub record KeyedTables : Type 0 where
  pub rows : ℕ → ℕ
  pub keys : ℕ → ℕ → List ℕ

-- ---- choices: a row number for each entry, counted from 0

-- the key of the chosen row in a column
abbrev pub key_of : KeyedTables → (ℕ → ℕ) → ℕ → ℕ → ℕ
key_of tables choice entry column = slice_index (tables.keys entry column) (choice entry)

-- in each class below an entry, the chosen rows have the same key as the entry's chosen row. The same is true further down the tree
abbrev mutual
  pub AgreesBelow : KeyedTables → (ℕ → ℕ) → ℕ → Classes → Type 0
  AgreesBelow tables choice entry no_class = ⊤
  AgreesBelow tables choice entry (and_class column members rest) =
      AgreesWithin tables choice (key_of tables choice entry column) members × AgreesBelow tables choice entry rest

  -- the chosen rows of a class's entries have this key, and the choice agrees below these entries
  pub AgreesWithin : KeyedTables → (ℕ → ℕ) → ℕ → Members → Type 0
  AgreesWithin tables choice key (one_member entry column below) =
      (choice entry < tables.rows entry) × (key_of tables choice entry column ≡ key) × AgreesBelow tables choice entry below
  AgreesWithin tables choice key (and_member entry column below rest) =
      (choice entry < tables.rows entry) × (key_of tables choice entry column ≡ key) × AgreesBelow tables choice entry below
      × AgreesWithin tables choice key rest

-- the choice takes a row of each entry of a tree, and the keys of the rows agree in each class
abbrev pub Agrees : KeyedTables → BergeTree → (ℕ → ℕ) → Type 0
Agrees tables t choice = (choice t.root < tables.rows t.root) × AgreesBelow tables choice t.root t.below

-- the choice takes a row of each entry of a list, and satisfies each equality
pub record Satisfies (tables : KeyedTables) (entries : List ℕ) (es : List Edge) (choice : ℕ → ℕ) : Type 0 where
  pub rows : AllByRecursion (λ entry. choice entry < tables.rows entry) entries
  pub equal : AllByRecursion (λ e. key_of tables choice e.left.entry e.left.column ≡ key_of tables choice e.right.entry e.right.column) es

-- any two of the choices take different rows for some of these entries
abbrev pub ChoicesAreDifferent : List ℕ → List (ℕ → ℕ) → Type 0
ChoicesAreDifferent entries choices = AllPairs (λ x y. map x entries ≢ map y entries) choices

-- ---- domination of tables by lists

-- an entry has at most as many rows as its row bound
abbrev pub RowsFit : EntryBounds → KeyedTables → ℕ → Type 0
RowsFit b tables entry = tables.rows entry ≤ b.rows entry

-- each row has a key in the column, and the column's list dominates these keys
pub record Dominates (b : EntryBounds) (tables : KeyedTables) (entry column : ℕ) : Type 0 where
  pub keys : DominatesKeys (b.list entry column) (tables.keys entry column)
  pub key_per_row : length (tables.keys entry column) ≡ tables.rows entry

-- the root's table has at most as many rows as the root's row bound. The list of each column of the tree dominates the column's keys
pub record TreeDominates (b : EntryBounds) (tables : KeyedTables) (t : BergeTree) : Type 0 where
  pub root : RowsFit b tables t.root
  pub columns : EachColumn (Dominates b tables) t

-- each entry of the set has at most as many rows as its row bound. For each column that an equality of the set names, the list dominates the column's
-- keys
pub record SetDominates (b : EntryBounds) (tables : KeyedTables) (es : List Edge) (subset : ℕ) : Type 0 where
  pub rows : AllByRecursion (RowsFit b tables) (entries_of_set subset)
  pub columns : EachNamedColumn (Dominates b tables) (equalities_within subset es)
