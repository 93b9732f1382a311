-- Entries without which the equalities of a query close no cycle.
use Rattle.std.specs.Prelude.{◌≡◌, ◌↔◌, ℕ, ◌<◌, true, false, List}
use Rattle.entry_sets.specs.Sets.{IsSubset, has_entry}
use Rattle.berge_tree.specs.declared.edges.Edge.{Edge}
use Rattle.berge_tree.specs.Equalities.{ClosesNoCycle}
use Rattle.join_graph.specs.Kept.{equalities_within}

-- the entry is on every cycle of `whole`: the equalities of a set within `whole` without the entry close no cycle. If the equalities of `whole`
-- close no cycle, every entry is on every cycle
abbrev pub IsOnEveryCycle : List Edge → ℕ → ℕ → Type 0
IsOnEveryCycle es whole entry = (subset : ℕ) → IsSubset subset whole → has_entry subset entry ≡ false → ClosesNoCycle (equalities_within subset es)

-- each of these entries is on every cycle of the set `whole`
abbrev pub AreOnEveryCycle : List Edge → ℕ → ℕ → Type 0
AreOnEveryCycle es whole entries = (entry : ℕ) → has_entry entries entry ≡ true → IsOnEveryCycle es whole entry

-- these are exactly the entries below `limit` that are on every cycle of the set `whole`
abbrev pub AreAllOnEveryCycle : List Edge → ℕ → ℕ → ℕ → Type 0
AreAllOnEveryCycle es whole limit entries = (entry : ℕ) → (has_entry entries entry ≡ true) ↔ ((entry < limit) × IsOnEveryCycle es whole entry)
