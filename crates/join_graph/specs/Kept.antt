-- The kept equalities of a set of entries, in each of its turns.
use Rattle.std.specs.Prelude.{◌≡◌, ℕ, Bool, ◌&&◌, ◌==◌, if◌then◌else◌, List, [], ◌∷◌, ◌++◌, filter, length, take, drop, min, max}
use Rattle.std.specs.List.{AllByRecursion}
use Rattle.limits.specs.Profile.{most_turns}
use Rattle.berge_tree.specs.declared.edges.Edge.{Edge}
use Rattle.berge_tree.specs.Equalities.{AreApart}
use Rattle.berge_tree.specs.Testing.{merged_components}
use Rattle.entry_sets.specs.Sets.{has_entry}

-- ---- the equalities of a set

-- both entries of the equality are in the set
abbrev pub joins_within : ℕ → Edge → Bool
joins_within subset e = has_entry subset e.left.entry && has_entry subset e.right.entry

-- the equalities that join two entries of the set, in text order
abbrev pub equalities_within : ℕ → List Edge → List Edge
equalities_within subset es = filter (joins_within subset) es

-- ---- turns

-- the number of the set's turns: one for each of its equalities, but at least 1 and at most `most_turns`
abbrev pub turn_count : ℕ → List Edge → ℕ
turn_count subset es = max (min (length (equalities_within subset es)) most_turns) 1

-- the elements from index `turn` on, followed by the elements before it
abbrev pub rotated : ℕ → List Edge → List Edge
rotated turn es = drop turn es ++ take turn es

-- the set's equalities in the order of a turn
abbrev pub order_of_turn : ℕ → ℕ → List Edge → List Edge
order_of_turn subset turn es = rotated turn (equalities_within subset es)

-- ---- kept equalities

-- a and b are connected. That is: if the entries are divided into two sides so that each equality is within one side, a and b are on the same side
abbrev pub AreConnected : List Edge → ℕ → ℕ → Type 0
AreConnected es a b = (side : ℕ → Bool) → AllByRecursion (λ e. side e.left.entry ≡ side e.right.entry) es → side a ≡ side b

-- `kept` has some equalities of `es`, in the order of `es`: those whose two entries aren't connected by `earlier` and the equalities kept before
pub data KeepsAfter : List Edge → List Edge → List Edge → Type 0 where
  at_end : (earlier : List Edge) → KeepsAfter earlier [] []
  keeps : (earlier : List Edge) (e : Edge) (es kept : List Edge) → AreApart earlier e.left.entry e.right.entry
      → KeepsAfter (e ∷ earlier) es kept
      → KeepsAfter earlier (e ∷ es) (e ∷ kept)
  leaves_out : (earlier : List Edge) (e : Edge) (es kept : List Edge) → AreConnected earlier e.left.entry e.right.entry
      → KeepsAfter earlier es kept
      → KeepsAfter earlier (e ∷ es) kept

abbrev pub Keeps : List Edge → List Edge → Type 0
Keeps es kept = KeepsAfter [] es kept

-- ---- kept equalities, computed

-- `name` gives each entry the name of its component. An equality is kept if its entries are in two components. These then become one component
abbrev pub kept_by_names : (ℕ → ℕ) → List Edge → List Edge
kept_by_names name [] = []
kept_by_names name (e ∷ es) =
    if name e.left.entry == name e.right.entry then kept_by_names name es
    else (e ∷ kept_by_names (merged_components name e.left.entry e.right.entry) es)

-- the equalities of `es` that are kept, in the order of `es`. At first each entry is a component of its own
abbrev pub kept_in_order : List Edge → List Edge
kept_in_order es = kept_by_names (λ entry. entry) es

-- the kept equalities of a set in a turn
abbrev pub kept_of : ℕ → ℕ → List Edge → List Edge
kept_of subset turn es = kept_in_order (order_of_turn subset turn es)
