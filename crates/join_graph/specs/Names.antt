-- Equalities whose entries have numbers below `greatest_entries`. So each of these entries is an index in a list of `greatest_entries` component
-- names.
use Rattle.std.specs.Prelude.{◌<◌, List}
use Rattle.std.specs.List.{AllByRecursion}
use Rattle.limits.specs.Profile.{greatest_entries}
use Rattle.berge_tree.specs.declared.edges.Edge.{Edge}

abbrev pub HasEntriesBelow16 : Edge → Type 0
HasEntriesBelow16 e = (e.left.entry < greatest_entries) × (e.right.entry < greatest_entries)

abbrev pub HaveEntriesBelow16 : List Edge → Type 0
HaveEntriesBelow16 es = AllByRecursion HasEntriesBelow16 es
