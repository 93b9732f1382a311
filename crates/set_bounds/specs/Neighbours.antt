-- Entries that equalities join.
use Rattle.std.specs.Prelude.{◌≡◌, ℕ, ◌<◌, Bool, ◌&&◌, ◌||◌, ◌==◌, List, slice_index}
use Rattle.std.specs.List.{list_any}
use Rattle.limits.specs.Profile.{greatest_entries}
use Rattle.entry_sets.specs.Sets.{has_entry}
use Rattle.berge_tree.specs.declared.edges.Edge.{Edge}
use Rattle.join_graph.specs.Kept.{equalities_within}

-- the equality joins the entries a and b, in either order
abbrev pub joins : ℕ → ℕ → Edge → Bool
joins a b e = (a == e.left.entry && b == e.right.entry) || (a == e.right.entry && b == e.left.entry)

-- one of the equalities joins the entries a and b
abbrev pub are_joined : List Edge → ℕ → ℕ → Bool
are_joined es a b = list_any (joins a b) es

-- `neighbours` has a set for each entry: exactly the entries with which an equality of the set `whole` joins it
abbrev pub AreNeighbours : List Edge → ℕ → List ℕ → Type 0
AreNeighbours es whole neighbours = (a b : ℕ) → a < greatest_entries
    → has_entry (slice_index neighbours a) b ≡ are_joined (equalities_within whole es) a b
