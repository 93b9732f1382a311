-- Bounds that hold for each scan hold for the scans of every set of entries, and give bounds of each level of an order.
use Rattle.std.proofs.Common.{ℕ, ◌<◌, ◌≤◌, Bool, List, [], ◌∷◌, length, map, take, arith, inl, inr}
use Rattle.std.specs.List.{AllByRecursion, Contains, filter}
use Rattle.std.proofs.lemmas.Bool.{cases_Bool}
use Rattle.degree_sequences.specs.Domination.{DominatesKeys}
use Rattle.berge_tree.specs.declared.edges.Edge.{Edge}
use Rattle.entry_sets.specs.Sets.{entries_of_set, set_of}
use Rattle.csv_tables.specs.declared.types.Database.{Database}
use Rattle.query_types.specs.declared.types.Query.{Query}
use Rattle.join_graph.specs.Conjuncts.{equalities_of}
use Rattle.join_graph.specs.Kept.{joins_within}
use Rattle.tree_bounds.specs.Columns.{EachNamedColumn}
use Rattle.tree_bounds.specs.SetBounds.{bound_of_set}
use Rattle.tree_bounds.specs.TreeBounds.{EntryBounds, HasList}
use Rattle.sql_meaning.specs.Answers.{conjuncts_of, entries_of}
use Rattle.sql_meaning.specs.Databases.{IsDatabaseOf}
use Rattle.sql_meaning.specs.Levels.{level}
use Rattle.sql_meaning.specs.Tables.{Tables, row_counts, tables_of}
use Rattle.degree_sequences.proofs.ProductDominates.{All-first}
use Rattle.level_bounds.specs.Keys.{HaveDifferentCharacters, JoinsEqualKeys, Keys, cell_at}
use Rattle.level_bounds.specs.Orders.{IsOrderOfSet}
use Rattle.level_bounds.specs.Scans.{BoundsEachScan, BoundsScans, level_over_entries, query_scan}
use Rattle.level_bounds.proofs.CellKeys.{cells_join}
use Rattle.level_bounds.proofs.Lists.{all_filtered, from_members, at_member, in_range, range_within}
use Rattle.level_bounds.proofs.NeverUnder.{within}
use Rattle.level_bounds.proofs.SetNumbers.{prefix_of_order}

named_filtered : (Q : ℕ → ℕ → Type 0) (p : Edge → Bool) (es : List Edge) → EachNamedColumn Q es → EachNamedColumn Q (filter p es)
named_filtered Q p [] h = tt
named_filtered Q p (e ∷ es) h = elim (cases_Bool (p e)) [
  | inl t ↦ rw t (h.0, (h.1.0, named_filtered Q p es h.1.1))
  | inr n ↦ rw n (named_filtered Q p es h.1.1)
]

pub scans_bounded_if_each : (query : Query) (tables : Tables) (key : Keys) (b : EntryBounds) (subset : ℕ) → BoundsEachScan b query tables key
    → AllByRecursion (λ entry. entry < length query.from) (entries_of_set subset) → BoundsScans b query tables key subset
scans_bounded_if_each query tables key b subset known low = record {
  lists = named_filtered (HasList b) (joins_within subset) (equalities_of query) known.lists;
  rows = from_members (λ entry. length (query_scan query tables entry) ≤ b.rows entry) (entries_of_set subset) (λ entry k.
      at_member (λ entry. length (query_scan query tables entry) ≤ b.rows entry) (entries_of query) known.rows entry
      (in_range 0 (length query.from) entry (omega arith) (omega (arith, at_member (λ entry. entry < length query.from) (entries_of_set subset) low entry k))));
  columns = named_filtered (λ entry column. DominatesKeys (b.list entry column) (map (key entry column) (query_scan query tables entry))) (joins_within subset) (equalities_of query) known.columns;
}

pub database_within : (query : Query) (db : Database) (b : EntryBounds) (subset : ℕ) (order : List ℕ) → IsDatabaseOf query db → HaveDifferentCharacters db.pool
    → BoundsScans b query (tables_of db) (cell_at db) subset → IsOrderOfSet (entries_of_set subset) order → length (level_over_entries query (tables_of db) order) ≤ bound_of_set b (equalities_of query) subset
database_within query db b subset order of differ known o =
    within query (tables_of db) (cell_at db) b subset order
    (all_filtered (joins_within subset) (JoinsEqualKeys (tables_of db) (cell_at db)) (equalities_of query) (cells_join query db of differ)) known o

pub levels_within : (query : Query) (db : Database) (b : EntryBounds) (order : List ℕ) (k : ℕ) → IsDatabaseOf query db → HaveDifferentCharacters db.pool
    → BoundsEachScan b query (tables_of db) (cell_at db) → IsOrderOfSet (entries_of query) order
    → length (level (conjuncts_of query (tables_of db)) (row_counts (tables_of db)) order k) ≤ bound_of_set b (equalities_of query) (set_of (take k order))
levels_within query db b order k of differ known o =
    database_within query db b (set_of (take k order)) (take k order) of differ
    (scans_bounded_if_each query (tables_of db) (cell_at db) b (set_of (take k order)) known
    (from_members (λ entry. entry < length query.from) (entries_of_set (set_of (take k order)))
    (λ entry here. at_member (λ entry. entry < length query.from) (take k order) (All-first (λ entry. entry < length query.from) k order low) entry
    (at_member (Contains (take k order)) (entries_of_set (set_of (take k order))) prefix.covers entry here))))
    prefix
  where
    low : AllByRecursion (λ entry. entry < length query.from) order
    low = from_members (λ entry. entry < length query.from) order
        (λ entry here. omega (arith, (range_within 0 (length query.from) entry (at_member (Contains (entries_of query)) order o.within entry here)).1))

    prefix : IsOrderOfSet (entries_of_set (set_of (take k order))) (take k order)
    prefix = prefix_of_order order k
        (from_members (λ entry. entry < 16) order (λ entry here. omega (arith, at_member (λ entry. entry < length query.from) order low entry here, of.few))) o.once
