-- The scans and the levels of a query, and bounds of its entries that hold for the scans.
use Rattle.std.specs.Prelude.{ℕ, ◌≤◌, List, length, map}
use Rattle.std.specs.List.{AllByRecursion, filter}
use Rattle.degree_sequences.specs.Domination.{DominatesKeys}
use Rattle.berge_tree.specs.declared.edges.Edge.{Edge}
use Rattle.entry_sets.specs.Sets.{entries_of_set}
use Rattle.query_types.specs.declared.types.Cond.{Cond}
use Rattle.query_types.specs.declared.types.Query.{Query}
use Rattle.join_graph.specs.Conjuncts.{equalities_of, is_own_conjunct}
use Rattle.join_graph.specs.Kept.{equalities_within}
use Rattle.tree_bounds.specs.Columns.{EachNamedColumn}
use Rattle.tree_bounds.specs.SetBounds.{SetHasLists}
use Rattle.tree_bounds.specs.TreeBounds.{EntryBounds, HasList}
use Rattle.sql_meaning.specs.Answers.{conjuncts_of, entries_of}
use Rattle.sql_meaning.specs.Levels.{level_of, scan}
use Rattle.sql_meaning.specs.Tables.{Tables, row_counts}
use Rattle.level_bounds.specs.Keys.{Keys}

-- the rows of an entry's scan
abbrev pub query_scan : Query → Tables → ℕ → List ℕ
query_scan query tables entry = scan (conjuncts_of query tables) (row_counts tables) entry

-- the choices of the level over these entries, in this order
abbrev pub level_over_entries : Query → Tables → List ℕ → List (List ℕ)
level_over_entries query tables order = level_of (conjuncts_of query tables) (row_counts tables) order

-- the conjuncts that name the entry and no other entry
abbrev pub own_conjuncts_of : Query → ℕ → List Cond
own_conjuncts_of query entry = filter (is_own_conjunct entry) query.conjuncts

-- the equalities of the query that join two entries of a set
abbrev pub equalities_in : Query → ℕ → List Edge
equalities_in query subset = equalities_within subset (equalities_of query)

-- ---- bounds of entries that hold for the scans

-- the scan of an entry has at most as many rows as its row bound
abbrev pub ScanFits : EntryBounds → Query → Tables → ℕ → Type 0
ScanFits b query tables entry = length (query_scan query tables entry) ≤ b.rows entry

-- the list of a column dominates the keys that the column has in the scan
abbrev pub DominatesScan : EntryBounds → Query → Tables → Keys → ℕ → ℕ → Type 0
DominatesScan b query tables key entry column = DominatesKeys (b.list entry column) (map (key entry column) (query_scan query tables entry))

-- every scan of the query is within its row bound. Each column that an equality joins has a list, which dominates its keys in the scan
pub record BoundsEachScan (b : EntryBounds) (query : Query) (tables : Tables) (key : Keys) : Type 0 where
  pub rows : AllByRecursion (ScanFits b query tables) (entries_of query)
  pub lists : EachNamedColumn (HasList b) (equalities_of query)
  pub columns : EachNamedColumn (DominatesScan b query tables key) (equalities_of query)

-- the scan of each entry of the set is within its row bound. Each column by which an equality joins two of these entries has a list, which dominates
-- the column's keys in the scan
pub record BoundsScans (b : EntryBounds) (query : Query) (tables : Tables) (key : Keys) (subset : ℕ) : Type 0 where
  pub rows : AllByRecursion (ScanFits b query tables) (entries_of_set subset)
  pub lists : SetHasLists b (equalities_of query) subset
  pub columns : EachNamedColumn (DominatesScan b query tables key) (equalities_in query subset)
