-- The bounds of a query's entries in a set of entries, with conjuncts carried along references to keys.
use Rattle.std.specs.Prelude.{ℕ, min, nat_lt, if◌then◌else◌, List, [], ◌∷◌, length, map}
use Rattle.degree_sequences.specs.RunningSums.{lesser}
use Rattle.berge_tree.specs.declared.edges.Edge.{Edge}
use Rattle.schema_types.specs.declared.types.Schema.{Schema}
use Rattle.query_types.specs.declared.types.Query.{Query}
use Rattle.join_graph.specs.Conjuncts.{equalities_of}
use Rattle.tree_bounds.specs.TreeBounds.{EntryBounds}
use Rattle.set_bounds.specs.AllSets.{bounds_in_sets}
use Rattle.sql_meaning.specs.Tables.{Tables}
use Rattle.query_bounds.specs.Bounds.{is_among, joined_columns, scan_list, scan_row_bound}
use Rattle.gathered_stats.specs.Statistics.{statistics_of}
use Rattle.key_carriers.specs.Carriers.{carrying_equalities, carriers_to}
use Rattle.key_stats.specs.Lists.{carried_list, carried_rows}

-- the list whose running sum at each rank is the least of the running sums of `list` and all `lists`
abbrev pub least_list : List ℕ → List (List ℕ) → List ℕ
least_list list [] = list
least_list list (other ∷ lists) = least_list (lesser list other) lists

-- the least of `rows` and the further numbers
abbrev pub least_rows : ℕ → List ℕ → ℕ
least_rows rows [] = rows
least_rows rows (other ∷ others) = least_rows (min rows other) others

-- ---- the bounds of an entry to which conjuncts are carried along these equalities

abbrev pub rows_by_keys : Query → Tables → ℕ → ℕ → List Edge → ℕ
rows_by_keys query tables accuracy entry es =
    least_rows (scan_row_bound query (statistics_of tables accuracy) entry) (map (carried_rows query tables) es)

abbrev pub list_by_keys : Query → Tables → ℕ → ℕ → ℕ → List Edge → List ℕ
list_by_keys query tables accuracy entry column es =
    least_list (scan_list query (statistics_of tables accuracy) entry column) (map (λ e. carried_list query tables accuracy e column) es)

-- ---- the bounds of entries in a set

-- the row bound of each FROM entry, and the list of each joined column. Other entries have the row bound 0, and other columns the empty list
abbrev pub bounds_by_keys : Schema → Query → Tables → ℕ → ℕ → EntryBounds
bounds_by_keys schema query tables accuracy subset = record {
  rows = λ entry. if nat_lt entry (length query.from)
      then rows_by_keys query tables accuracy entry (carriers_to (carrying_equalities schema query) subset entry) else 0;
  list = λ entry column. if is_among (joined_columns query) entry column
      then list_by_keys query tables accuracy entry column (carriers_to (carrying_equalities schema query) subset entry) else [];
}

-- the bound of each set of entries. A set's index is the number whose bits are the set's entries
abbrev pub set_bounds_by_keys : Schema → Query → Tables → ℕ → List ℕ
set_bounds_by_keys schema query tables accuracy =
    bounds_in_sets (bounds_by_keys schema query tables accuracy) (equalities_of query) (length query.from)
