-- The bounds that statistics give: a row bound and lists for each entry, a bound for each scan, and a bound for each set of entries.
use Rattle.std.specs.Prelude.{◌≡◌, ℕ, Bool, ◌&&◌, ◌==◌, nat_lt, if◌then◌else◌, List, [], length, map, None, Some}
use Rattle.std.specs.List.{list_any, range_with_len}
use Rattle.berge_tree.specs.declared.edges.Place.{Place}
use Rattle.berge_tree.specs.Equalities.{places_of}
use Rattle.query_types.specs.declared.types.Query.{Query}
use Rattle.join_graph.specs.Conjuncts.{equalities_of}
use Rattle.tree_bounds.specs.TreeBounds.{EntryBounds}
use Rattle.bound_fold.specs.declared.lists.EntryLists.{EntryLists}
use Rattle.bound_fold.specs.Lists.{list_of, row_bound_of}
use Rattle.set_bounds.specs.AllSets.{bounds_of_sets}
use Rattle.filtered_lists.specs.Lists.{filtered_list, row_bound}
use Rattle.query_bounds.specs.Statistics.{Statistics}

-- the row bound of an entry's scan, and the list of one of the entry's columns, filtered by the entry's own conjuncts
abbrev pub scan_row_bound : Query → Statistics → ℕ → ℕ
scan_row_bound query known entry = row_bound (known.counts entry) entry query.conjuncts

abbrev pub scan_list : Query → Statistics → ℕ → ℕ → List ℕ
scan_list query known entry column = filtered_list (known.lists entry column) entry query.conjuncts

-- whether a `Place` is this column of this entry, and whether one of several places is this column
abbrev pub is_at : ℕ → ℕ → Place → Bool
is_at entry column place = place.entry == entry && place.column == column

abbrev pub is_among : List Place → ℕ → ℕ → Bool
is_among places entry column = list_any (is_at entry column) places

-- the columns that the equalities of a query join
abbrev pub joined_columns : Query → List Place
joined_columns query = places_of (equalities_of query)

-- the row bound of each FROM entry, and the list of each joined column. Other entries have the row bound 0, and other columns the empty list
abbrev pub entry_bounds : Query → Statistics → EntryBounds
entry_bounds query known = record {
  rows = λ entry. if nat_lt entry (length query.from) then scan_row_bound query known entry else 0;
  list = λ entry column. if is_among (joined_columns query) entry column then scan_list query known entry column else [];
}

-- `lists` has exactly the row bounds of the first n entries and the lists of the columns `places`
pub record HoldsKnown (query : Query) (known : Statistics) (n : ℕ) (places : List Place) (lists : EntryLists) : Type 0 where
  pub rows : (entry : ℕ) → row_bound_of lists entry ≡ (if nat_lt entry n then Some (scan_row_bound query known entry) else None)
  pub columns : (entry column : ℕ) → list_of lists entry column
      ≡ (if is_among places entry column then Some (scan_list query known entry column) else None)

-- ---- the bounds of scans and of sets

-- the bound of each entry's scan, in FROM order
abbrev pub scan_bounds : Query → Statistics → List ℕ
scan_bounds query known = map (scan_row_bound query known) (range_with_len 0 (length query.from))

-- the bound of each set of entries. The index of a set is the number whose bits are the set's entries
abbrev pub set_bounds : Query → Statistics → List ℕ
set_bounds query known = bounds_of_sets (entry_bounds query known) (equalities_of query) (length query.from)
