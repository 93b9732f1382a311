-- Bounds of entries from their whole tables.
use Rattle.std.specs.Prelude.{◌≡◌, ℕ, List, map}
use Rattle.std.specs.List.{AllByRecursion, range_with_len}
use Rattle.degree_sequences.specs.Compression.{compressed}
use Rattle.degree_sequences.specs.Degrees.{degree_list}
use Rattle.entry_sets.specs.Sets.{entries_of_set}
use Rattle.berge_tree.specs.declared.edges.Edge.{Edge}
use Rattle.join_graph.specs.Kept.{equalities_within}
use Rattle.tree_bounds.specs.Columns.{EachNamedColumn}
use Rattle.tree_bounds.specs.TreeBounds.{EntryBounds}
use Rattle.sql_meaning.specs.Tables.{Tables, row_counts}
use Rattle.level_bounds.specs.Keys.{Keys}

-- the keys of a column, row by row
abbrev pub keys_of : Tables → Keys → ℕ → ℕ → List ℕ
keys_of tables key entry column = map (key entry column) (range_with_len 0 (row_counts tables entry))

-- bounds that are the number of rows of each table, and the degree list of each column
abbrev pub uncompressed : Tables → Keys → EntryBounds
uncompressed tables key = record { rows = row_counts tables; list = λ entry column. degree_list (keys_of tables key entry column) }

-- `b` has the number of rows of each entry of the set, and the compressed degree list of each column that the set's equalities name
pub record AreCompressed (accuracy : ℕ) (b : EntryBounds) (tables : Tables) (key : Keys) (es : List Edge) (subset : ℕ) : Type 0 where
  pub rows : AllByRecursion (λ entry. b.rows entry ≡ row_counts tables entry) (entries_of_set subset)
  pub columns : EachNamedColumn (λ entry column. b.list entry column ≡ compressed accuracy (degree_list (keys_of tables key entry column)))
      (equalities_within subset es)
