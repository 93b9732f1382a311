-- Choices among scanned rows. The scanned rows of each entry are treated as a table of their own.
use Rattle.std.specs.Prelude.{◌≡◌, ℕ, List, map, length}
use Rattle.std.specs.List.{AllByRecursion, Contains}
use Rattle.berge_tree.specs.declared.edges.Edge.{Edge}
use Rattle.tree_bounds.specs.Tables.{KeyedTables}

-- the table of each entry's scanned rows, in the order of the entry's list. `key entry column row` is the key of a row in a column
abbrev pub scanned : (ℕ → List ℕ) → (ℕ → ℕ → ℕ → ℕ) → KeyedTables
scanned scans key = record { rows = λ entry. length (scans entry); keys = λ entry column. map (key entry column) (scans entry) }

-- the choice takes a scanned row of each entry of the list, and satisfies each equality
pub record SatisfiesScanned (scans : ℕ → List ℕ) (key : ℕ → ℕ → ℕ → ℕ) (entries : List ℕ) (es : List Edge) (choice : ℕ → ℕ) : Type 0 where
  pub rows : AllByRecursion (λ entry. Contains (scans entry) (choice entry)) entries
  pub equal : AllByRecursion (λ e. key e.left.entry e.left.column (choice e.left.entry)
      ≡ key e.right.entry e.right.column (choice e.right.entry)) es
