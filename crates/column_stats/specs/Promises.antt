-- What statistics of rows promise. A list that they give is equal to the list that cond_stats makes of the rows. Each list dominates the joined keys
-- of the rows that it is for. A row is a filter value and a joined key. `at_most` says how values compare.
use Rattle.std.specs.Prelude.{ℕ, ◌≡◌, ◌<◌, ◌&&◌, nat_le, Bool, List, Option, Some, IfSome}
use Rattle.degree_sequences.specs.Domination.{DominatesKeys}
use Rattle.cond_stats.specs.Leaves.{IsNodeSize, in_node, leaf_of}
use Rattle.cond_stats.specs.Lists.{keys_with, list_of_range, list_of_value}
use Rattle.cond_stats.specs.Rows.{filter_values, joined_keys, keys_where}
use Rattle.column_stats.specs.declared.stats.ColumnStats.{ColumnStats}
use Rattle.column_stats.specs.Stats.{list_for_node, list_for_range, list_for_value}

-- for each value the statistics give the list that cond_stats makes of the rows. None stands for a value in no row
abbrev pub GivesValueLists : ℕ → List (ℕ × ℕ) → ColumnStats → Type 0
GivesValueLists accuracy rows stats = (value : Option ℕ) → list_for_value stats value ≡ list_of_value accuracy rows value

-- for each range of leaves the statistics give the list that cond_stats makes of the rows
abbrev pub GivesRangeLists : (ℕ → ℕ → Bool) → ℕ → List (ℕ × ℕ) → ColumnStats → Type 0
GivesRangeLists at_most accuracy rows stats =
    (low high : Option ℕ) → IfSome low (λ leaf. leaf < 32) → IfSome high (λ leaf. leaf < 32)
    → list_for_range stats low high ≡ list_of_range at_most accuracy rows low high

-- the list of all rows dominates the joined keys
abbrev pub WholeDominates : List (ℕ × ℕ) → ColumnStats → Type 0
WholeDominates rows stats = DominatesKeys stats.whole (joined_keys rows)

-- the list of each value, frequent or not, dominates the keys of the rows that have the value
abbrev pub ValuesDominate : List (ℕ × ℕ) → ColumnStats → Type 0
ValuesDominate rows stats = (value : ℕ) → DominatesKeys (list_for_value stats (Some value)) (keys_with value rows)

-- the list of each node dominates the keys of the rows whose leaf lies in the node
abbrev pub NodesDominate : (ℕ → ℕ → Bool) → List (ℕ × ℕ) → ColumnStats → Type 0
NodesDominate at_most rows stats =
    (size leaf : ℕ) → IsNodeSize size → leaf < 32
    → DominatesKeys (list_for_node stats size leaf)
    (keys_where (λ value. in_node size leaf (leaf_of at_most (filter_values rows) value)) rows)

-- the list of each range dominates the keys of the rows whose leaf is at least the low leaf and at most the high one
abbrev pub RangesDominate : (ℕ → ℕ → Bool) → List (ℕ × ℕ) → ColumnStats → Type 0
RangesDominate at_most rows stats =
    (low high : ℕ) → low < 32 → high < 32
    → let leaf = leaf_of at_most (filter_values rows) in
    DominatesKeys (list_for_range stats (Some low) (Some high))
    (keys_where (λ value. nat_le low (leaf value) && nat_le (leaf value) high) rows)
