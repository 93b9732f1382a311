-- Tests by computation. If `joins_parts` and `has_entries` give true for equalities, `rooted` may be called with them.
use Rattle.std.specs.Prelude.{ℕ, Bool, true, not, ◌&&◌, ◌==◌, if◌then◌else◌, List, [], ◌∷◌}
use Rattle.entry_sets.specs.Sets.{has_entry}
use Rattle.berge_tree.specs.declared.edges.Edge.{Edge}
use Rattle.berge_tree.specs.Equalities.{place}

-- `name` gives each entry the name of its component. After an equality of the entries a and b, the component of b takes the name of the component of
-- a
abbrev pub merged_components : (ℕ → ℕ) → ℕ → ℕ → ℕ → ℕ
merged_components name a b x = if name x == name b then name a else name x

-- each equality joins two components that the earlier equalities leave apart
abbrev pub joins_parts : (ℕ → ℕ) → List Edge → Bool
joins_parts name [] = true
joins_parts name (e ∷ es) = not (name e.left.entry == name e.right.entry) && joins_parts (merged_components name e.left.entry e.right.entry) es

-- each equality joins entries of the set
abbrev pub has_entries : ℕ → List Edge → Bool
has_entries subset [] = true
has_entries subset (e ∷ es) = has_entry subset e.left.entry && (has_entry subset e.right.entry && has_entries subset es)

abbrev pub edge_of : ℕ → ℕ → ℕ → ℕ → Edge
edge_of a b c d = record { left = place a b; right = place c d }
