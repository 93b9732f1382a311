-- The bounds of entries in a set, from their own bounds and from the bounds that are carried to them.
use Rattle.std.specs.Prelude.{◌≡◌, ℕ, Bool, ◌&&◌, ◌==◌, min, ◌<◌, ◌≤◌, ◌^◌, nat_lt, if◌then◌else◌, List, [], filter, map, All, None, Some, option_map, unwrap_or, IsSome}
use Rattle.std.specs.List.{AllByRecursion}
use Rattle.limits.specs.Profile.{most_entries}
use Rattle.degree_sequences.specs.RunningSums.{lesser}
use Rattle.berge_tree.specs.declared.edges.Edge.{Edge}
use Rattle.berge_tree.specs.declared.edges.Place.{Place}
use Rattle.berge_tree.specs.Equalities.{places_of}
use Rattle.join_graph.specs.Kept.{joins_within}
use Rattle.tree_bounds.specs.Columns.{EachNamedColumn}
use Rattle.tree_bounds.specs.TreeBounds.{EntryBounds}
use Rattle.bound_fold.specs.declared.lists.EntryLists.{EntryLists}
use Rattle.bound_fold.specs.Lists.{list_of, row_bound_of}
use Rattle.bound_fold.specs.Sets.{HaveLists}
use Rattle.key_stats.specs.declared.carried.CarriedBounds.{CarriedBounds}
use Rattle.key_bounds.specs.declared.key_lists.KeyLists.{KeyLists}
use Rattle.key_bounds.specs.Bounds.{least_list, least_rows}

-- ---- the bounds that are carried to an entry within a set

abbrev pub carried_to : List CarriedBounds → ℕ → ℕ → List CarriedBounds
carried_to carried subset entry = filter (λ c. c.edge.left.entry == entry) (filter (λ c. joins_within subset c.edge) carried)

abbrev pub rows_carried : ℕ → CarriedBounds → ℕ
rows_carried entry c = unwrap_or (row_bound_of c.lists entry) 0

abbrev pub list_carried : ℕ → ℕ → CarriedBounds → List ℕ
list_carried entry column c = unwrap_or (list_of c.lists entry column) []

-- the least of an entry's row bound and the row bounds that are carried to it within the set. `list_within` does the same for a list
abbrev pub rows_within : List CarriedBounds → ℕ → ℕ → ℕ → ℕ
rows_within carried subset entry rows = least_rows rows (map (rows_carried entry) (carried_to carried subset entry))

abbrev pub list_within : List CarriedBounds → ℕ → ℕ → ℕ → List ℕ → List ℕ
list_within carried subset entry column list = least_list list (map (list_carried entry column) (carried_to carried subset entry))

-- ---- `rows_within` and `list_within` in steps, one for each carried bound

abbrev pub is_carried : ℕ → ℕ → CarriedBounds → Bool
is_carried subset entry c = joins_within subset c.edge && c.edge.left.entry == entry

abbrev pub lowered_rows : ℕ → ℕ → CarriedBounds → ℕ → ℕ
lowered_rows subset entry c rows = if is_carried subset entry c then min rows (rows_carried entry c) else rows

abbrev pub lowered_list : ℕ → ℕ → ℕ → CarriedBounds → List ℕ → List ℕ
lowered_list subset entry column c list = if is_carried subset entry c then lesser list (list_carried entry column c) else list

-- ---- the bounds of all entries in a set

abbrev pub bounds_with_carried : KeyLists → ℕ → EntryBounds
bounds_with_carried keys subset = record {
  rows = λ entry. if nat_lt entry keys.count then rows_within keys.carried subset entry (unwrap_or (row_bound_of keys.own entry) 0) else 0;
  list = λ entry column. unwrap_or (option_map (list_within keys.carried subset entry column) (list_of keys.own entry column)) [];
}

-- ---- the row bounds and lists that are needed for a set

-- if `c` is carried to the entry of `place` (an entry and one of its columns), `c` has a list of this column
abbrev pub CarriesTo : Place → CarriedBounds → Type 0
CarriesTo place c = c.edge.left.entry ≡ place.entry → IsSome (list_of c.lists place.entry place.column)

-- `c` has a list of each column of its left entry that these equalities name
abbrev pub CarriesLists : List Edge → CarriedBounds → Type 0
CarriesLists es c = AllByRecursion (λ place. CarriesTo place c) (places_of es)

-- the set has only entries below `keys.count`, which is at most `most_entries`. Each of these entries has a row bound, and each column that the
-- equalities name has a list. Each carried bound has a list of each column of its left entry that the equalities name
pub record HaveKeyLists (keys : KeyLists) (es : List Edge) (subset : ℕ) : Type 0 where
  pub few : keys.count ≤ most_entries
  pub fits : subset < 2 ^ keys.count
  pub rows : (entry : ℕ) → entry < keys.count → IsSome (row_bound_of keys.own entry)
  pub lists : All (HaveLists keys.own) es
  pub entries : EachNamedColumn (λ entry column. entry < keys.count) es
  pub carried : All (CarriesLists es) keys.carried

-- ---- bounds while they are collected

-- exactly the first `count` entries have row bounds in `lists`. All row bounds and lists in `lists` are those of `bounds`
pub record IsPartOf (bounds : EntryBounds) (count : ℕ) (lists : EntryLists) : Type 0 where
  pub rows : (entry : ℕ) → entry < count → row_bound_of lists entry ≡ Some (bounds.rows entry)
  pub past : (entry : ℕ) → count ≤ entry → row_bound_of lists entry ≡ None
  pub columns : (entry column : ℕ) (list : List ℕ) → list_of lists entry column ≡ Some list → list ≡ bounds.list entry column
