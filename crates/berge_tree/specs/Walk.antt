-- The algorithm that finds the trees. Trees.antt defines trees, and Rooted.antt the trees that equalities have.
use Rattle.std.specs.Prelude.{◌≡◌, ◌≢◌, ℕ, zero, suc, ◌+◌, ◌<◌, ◌≤◌, Bool, true, false, not, ◌&&◌, ◌||◌, ◌==◌, nat_lt, if◌then◌else◌, ⊤, List, [], ◌∷◌, ◌++◌, length, map, filter, drop, slice_index_or, Option, Some, None}
use Rattle.std.specs.List.{AllByRecursion, Contains}
use Rattle.limits.specs.Profile.{greatest_entries}
use Rattle.berge_tree.specs.declared.edges.Place.{Place}
use Rattle.berge_tree.specs.declared.edges.Edge.{Edge}
use Rattle.berge_tree.specs.declared.columns.Column.{Column}
use Rattle.berge_tree.specs.Equalities.{same_place, places_of, class_of}
use Rattle.berge_tree.specs.Trees.{Classes, no_class, and_class, Members, one_member, and_member, BergeTree, entries}
use Rattle.berge_tree.specs.declared.tree.Tree.{Tree}
use Rattle.berge_tree.specs.Boxed.{tree_of}

-- ---- the columns that equalities name, sorted, each with the name of its class

-- the order of columns: by entry, and in one entry by column number
abbrev pub is_before : Place → Place → Bool
is_before p q = nat_lt p.entry q.entry || ((p.entry == q.entry) && nat_lt p.column q.column)

-- the sorted list with one more column, as a class of its own. If the list has the column already, the list stays as it is
abbrev pub with_inserted : Place → List Column → List Column
with_inserted p [] = record { place = p; class = p } ∷ []
with_inserted p (c ∷ cs) =
    if same_place c.place p then c ∷ cs
    else if is_before c.place p then c ∷ with_inserted p cs else record { place = p; class = p } ∷ (c ∷ cs)

abbrev pub with_places : List Column → List Edge → List Column
with_places cs [] = cs
with_places cs (e ∷ es) = with_places (with_inserted e.right (with_inserted e.left cs)) es

-- the name of a column's class
abbrev pub class_in : List Column → Place → Place
class_in [] p = p
class_in (c ∷ cs) p = if same_place c.place p then c.class else class_in cs p

-- a column of the class `old` goes over to the class `new`, and every other column stays
abbrev pub renamed : Place → Place → Column → Column
renamed old new c = record { place = c.place; class = if same_place c.class old then new else c.class }

abbrev pub with_classes : List Column → List Edge → List Column
with_classes cs [] = cs
with_classes cs (e ∷ es) = with_classes (map (renamed (class_in cs e.right) (class_in cs e.left)) cs) es

abbrev pub columns_of : List Edge → List Column
columns_of es = with_classes (with_places [] es) es

-- the columns are sorted, and no column is listed twice
abbrev pub Ascend : List Column → Type 0
Ascend [] = ⊤
Ascend (c ∷ cs) = AllByRecursion (λ d. is_before c.place d.place ≡ true) cs × Ascend cs

-- these are the columns that equalities name, sorted, each once and with its class
pub record AreSortedColumnsOf (es : List Edge) (columns : List Column) : Type 0 where
  pub ascend : Ascend columns
  pub named : (c : Column) → Contains columns c → Contains (places_of es) c.place × (c.class ≡ class_of es c.place)
  pub all : (p : Place) → Contains (places_of es) p → (c : Column) × Contains columns c × (c.place ≡ p)

-- ---- the walk

abbrev pub is_column_above : Option ℕ → ℕ → Bool
is_column_above None column = false
is_column_above (Some above) column = above == column

-- whether a column is a column of the entry, but not the entry's column in the class above
abbrev pub is_column_below : ℕ → Option ℕ → Column → Bool
is_column_below entry above c = (c.place.entry == entry) && not (is_column_above above c.place.column)

-- whether a column is another column in the class of `column_above`
abbrev pub is_other_of_class : Column → Column → Bool
is_other_of_class column_above c = same_place column_above.class c.class && not (same_place column_above.place c.place)

-- the members with one more member at the front
abbrev pub joined_members : ℕ → ℕ → Classes → Option Members → Option Members
joined_members entry column below None = Some (one_member entry column below)
joined_members entry column below (Some rest) = Some (and_member entry column below rest)

abbrev pub members_with : (Column → Classes) → List Column → Option Members
members_with below [] = None
members_with below (c ∷ cs) = joined_members c.place.entry c.place.column (below c) (members_with below cs)

abbrev pub joined_classes : ℕ → Option Members → Classes → Classes
joined_classes column None rest = rest
joined_classes column (Some members) rest = and_class column members rest

abbrev pub classes_with : (Column → Option Members) → List Column → Classes
classes_with members [] = no_class
classes_with members (c ∷ cs) = joined_classes c.place.column (members c) (classes_with members cs)

-- the classes below an entry, down to at most `depth` levels of entries
abbrev pub classes_below : ℕ → List Column → ℕ → Option ℕ → Classes
classes_below zero columns entry above = no_class
classes_below (suc depth) columns entry above =
    classes_with (λ c. members_with (λ d. classes_below depth columns d.place.entry (Some d.place.column)) (filter (is_other_of_class c) columns))
    (filter (is_column_below entry above) columns)

-- the classes below an entry. Only columns that `columns` has at index `from` or later are considered
abbrev pub classes_at : ℕ → List Column → ℕ → ℕ → Option ℕ → Classes
classes_at depth columns from entry above =
    classes_with (λ c. members_with (λ d. classes_below depth columns d.place.entry (Some d.place.column)) (filter (is_other_of_class c) columns))
    (filter (is_column_below entry above) (drop from columns))

-- the members of the class of `column_above`. Only columns that `columns` has at index `from` or later are considered
abbrev pub members_at : ℕ → List Column → ℕ → Column → Option Members
members_at depth columns from column_above =
    members_with (λ d. classes_below depth columns d.place.entry (Some d.place.column)) (filter (is_other_of_class column_above) (drop from columns))

-- each column has another column in its class
abbrev pub HaveOthers : List Column → Type 0
HaveOthers columns = (c : Column) → Contains columns c → filter (is_other_of_class c) columns ≢ []

-- the index of the first column at `from` or later that passes the test, if there is one
abbrev pub IsNext : (Column → Bool) → List Column → ℕ → Option ℕ → Type 0
IsNext test columns from None = filter test (drop from columns) ≡ []
IsNext test columns from (Some i) =
    (from ≤ i) × (i < length columns)
    × ((d : Column) → filter test (drop from columns) ≡ slice_index_or columns i d ∷ filter test (drop (i + 1) columns))
    × ((d : Column) → test (slice_index_or columns i d) ≡ true)

-- ---- a tree for each component

abbrev pub tree_at : ℕ → List Column → ℕ → BergeTree
tree_at depth columns entry = record { root = entry; below = classes_below depth columns entry None }

abbrev pub is_among : List ℕ → ℕ → Bool
is_among [] x = false
is_among (y ∷ ys) x = if y == x then true else is_among ys x

-- a tree for each entry that isn't in an earlier tree
abbrev pub forest : ℕ → List Column → List ℕ → List ℕ → List BergeTree
forest depth columns done [] = []
forest depth columns done (x ∷ xs) =
    if is_among done x then forest depth columns done xs
    else tree_at depth columns x ∷ forest depth columns (entries (tree_at depth columns x) ++ done) xs

-- the entry is in one of the trees
abbrev pub is_in_a_tree : List Tree → ℕ → Bool
is_in_a_tree [] x = false
is_in_a_tree (t ∷ ts) x = is_among (entries (tree_of t)) x || is_in_a_tree ts x

-- a tree for the entry, if none of the trees has it yet
abbrev pub tree_of_new_entry : List Column → List Tree → ℕ → List BergeTree
tree_of_new_entry columns trees x = if is_in_a_tree trees x then [] else tree_at greatest_entries columns x ∷ []
