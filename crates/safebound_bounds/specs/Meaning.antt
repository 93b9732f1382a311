-- What the arguments of a call mean: equalities, and row bounds and lists of entries.
use Rattle.std.specs.Prelude.{ℕ, ◌-◌, ◌^◌, ◌==◌, if◌then◌else◌, min, List, [], ◌∷◌, ◌++◌, length, map, find, replicate, slice_index, Option, Some, None, unwrap_or}
use Rattle.std.specs.List.{range_with_len, sum}
use Rattle.degree_sequences.specs.RunningSums.{capped_at}
use Rattle.berge_tree.specs.declared.edges.Edge.{Edge}
use Rattle.berge_tree.specs.declared.edges.Place.{Place}
use Rattle.join_graph.specs.Kept.{equalities_within}
use Rattle.tree_bounds.specs.SetBounds.{bound_of_set}
use Rattle.tree_bounds.specs.TreeBounds.{EntryBounds}
use Rattle.safebound_lists.specs.declared.runs.Run.{Run}
use Rattle.safebound_lists.specs.Runs.{list_of}
use Rattle.safebound_bounds.specs.declared.arguments.ColumnList.{ColumnList}
use Rattle.safebound_bounds.specs.declared.arguments.Equality.{Equality}
use Rattle.safebound_bounds.specs.Arguments.{is_list_of_column, runs_of}

abbrev pub edge_of : Equality → Edge
edge_of e = record {
  left = record { entry = e.left_entry; column = e.left_column };
  right = record { entry = e.right_entry; column = e.right_column };
}

abbrev pub edges_of : List Equality → List Edge
edges_of equalities = map edge_of equalities

-- a list fitted to `rows` rows. If the list's sum is above `rows`, it is cut. If its sum is below, the other rows have no value, and each of
-- them counts as a key of its own. (A column that the set's equalities name gets no such keys: `known_in` doesn't count rows without a value
-- there.)
abbrev pub fitted : ℕ → List ℕ → List ℕ
fitted rows list = capped_at list rows ++ replicate (rows - sum (capped_at list rows)) 1

abbrev pub decoded_list : List Run → Option ColumnList → Option (List ℕ)
decoded_list runs None = None
decoded_list runs (Some list) = Some (list_of (runs_of runs list))

-- the list that was handed in for a column: the first list of that column
abbrev pub given_list : List ColumnList → List Run → ℕ → ℕ → Option (List ℕ)
given_list lists runs entry column = decoded_list runs (find (is_list_of_column entry column) lists)

abbrev pub fitted_or_empty : ℕ → Option (List ℕ) → List ℕ
fitted_or_empty rows None = []
fitted_or_empty rows (Some list) = fitted rows list

-- the row bounds `rows`, and the lists that were handed in, each fitted to its entry's row bound
abbrev pub known : List ℕ → List ColumnList → List Run → EntryBounds
known rows lists runs = record {
  rows = λ entry. slice_index rows entry;
  list = λ entry column. fitted_or_empty (slice_index rows entry) (given_list lists runs entry column);
}

-- ---- row bounds and lists in a set

-- the most rows of an entry that may have a value in a column: the sum of the column's list
abbrev pub rows_with_value : List ColumnList → List Run → Place → ℕ
rows_with_value lists runs p = sum (unwrap_or (given_list lists runs p.entry p.column) [])

-- the lesser of `rows` and the number of rows with a value in the column at `p`, if this is a column of the entry. Otherwise `rows`
abbrev pub at_most_with_value : List ColumnList → List Run → ℕ → Place → ℕ → ℕ
at_most_with_value lists runs entry p rows = if p.entry == entry then min rows (rows_with_value lists runs p) else rows

-- the least of these numbers: `rows`, and for each column of the entry that an equality names, the number of rows with a value in this column
abbrev pub joinable_rows : List ColumnList → List Run → ℕ → List Edge → ℕ → ℕ
joinable_rows lists runs entry [] rows = rows
joinable_rows lists runs entry (e ∷ es) rows = joinable_rows lists runs entry es (at_most_with_value lists runs entry e.right (at_most_with_value lists runs entry e.left rows))

-- for each entry, the most rows that the equalities of a set can join. A row without a value matches no row
abbrev pub rows_in_set : List ℕ → List ColumnList → List Run → List Edge → ℕ → List ℕ
rows_in_set rows lists runs es subset =
    map (λ entry. joinable_rows lists runs entry (equalities_within subset es) (slice_index rows entry)) (range_with_len 0 (length rows))

-- The row bounds and lists of the entries in a set. A row bound is the most rows that the set's equalities can join, and the entry's lists are fitted
-- to it
abbrev pub known_in : List ℕ → List ColumnList → List Run → List Edge → ℕ → EntryBounds
known_in rows lists runs es subset = known (rows_in_set rows lists runs es subset) lists runs

-- the greatest bound of 64 bits. It means 2^64 - 1 or more
abbrev pub no_bound : ℕ
no_bound = 2 ^ 64 - 1

abbrev pub in_64_bits : ℕ → ℕ
in_64_bits bound = min bound no_bound

-- the bound of a set, by the row bounds and lists in the set
abbrev pub bound_in : (ℕ → EntryBounds) → List Edge → ℕ → ℕ
bound_in b es subset = in_64_bits (bound_of_set (b subset) es subset)

-- the bounds of all sets of n entries. The bound of a set is at the index whose bits are the set's entries
abbrev pub all_bounds : (ℕ → EntryBounds) → List Edge → ℕ → List ℕ
all_bounds b es n = map (bound_in b es) (range_with_len 0 (2 ^ n))
