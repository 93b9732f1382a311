-- How many bytes a plan takes, given its levels or its joins, and why a call for this number refuses.
use Rattle.std.specs.Prelude.{◌≡◌, ℕ, ◌+◌, ◌^◌, ◌<◌, ◌≤◌, List, [], ◌∷◌, length, map, slice_index_or}
use Rattle.limits.specs.Profile.{most_entries}
use Rattle.plans.specs.declared.bushy.Join.{Join}
use Rattle.plans.specs.Orders.{joins_of_order}
use Rattle.tree_rows.specs.Memory.{joins_bytes}
use Rattle.safebound_lists.specs.declared.refusal.Refusal.{Refusal}
use Rattle.safebound_lists.specs.declared.refusal.Refusal.TheVariants as refusal
use Rattle.safebound_lists.specs.First.{IsFirstWrong}
use Rattle.safebound_plans.specs.declared.ordering.Level.{Level}
use Rattle.safebound_plans.specs.declared.shaping.JoinNode.{JoinNode}
use Rattle.safebound_plans.specs.Orders.{bounds_in, entries_in}

-- what a lookup past the end of a list gives
abbrev pub default_level : Level
default_level = record { entry = 0; bound = 0 }

abbrev pub default_node : JoinNode
default_node = record { left = 0; right = 0; bound = 0 }

-- the level at this index is of an entry that exists
abbrev pub IsLevelValidAt : ℕ → List Level → ℕ → Type 0
IsLevelValidAt entries levels place = (slice_index_or levels place default_level).entry < entries

-- the join at this index joins two nodes that are before it. First come the nodes of the entries, and then one node for each join
abbrev pub IsJoinValidAt : ℕ → List JoinNode → ℕ → Type 0
IsJoinValidAt entries joins place =
    let join = slice_index_or joins place default_node in (join.left < entries + place) × (join.right < entries + place)

-- there is a number of rows for each of 1 to `most_entries` entries. The engine joins no more entries, though the library bounds and plans more
abbrev pub HaveOneForEachEntry : List ℕ → Type 0
HaveOneForEachEntry rows = (1 ≤ length rows) × (length rows ≤ most_entries)

-- the bytes of the order's tree
abbrev pub order_bytes : List ℕ → List Level → ℕ
order_bytes rows levels = joins_bytes rows (joins_of_order (length rows) (entries_in levels) (bounds_in levels))

abbrev pub join_of : JoinNode → Join
join_of node = record { left = node.left; right = node.right; bound = node.bound }

abbrev pub nodes_bytes : List ℕ → List JoinNode → ℕ
nodes_bytes rows joins = joins_bytes rows (map join_of joins)

-- There is a level for each entry, and each level is of an entry that exists. `bytes` are the bytes of the order
pub record IsOrderMemory (rows : List ℕ) (levels : List Level) (bytes : ℕ) : Type 0 where
  pub entries : HaveOneForEachEntry rows
  pub as_many : length levels ≡ length rows
  pub valid : (place : ℕ) → place < length levels → IsLevelValidAt (length rows) levels place
  pub are : bytes ≡ order_bytes rows levels

-- There is one join fewer than entries, and each join joins two nodes that are before it. `bytes` are the bytes of the tree
pub record IsTreeMemory (rows : List ℕ) (joins : List JoinNode) (bytes : ℕ) : Type 0 where
  pub entries : HaveOneForEachEntry rows
  pub as_many : length joins + 1 ≡ length rows
  pub valid : (place : ℕ) → place < length joins → IsJoinValidAt (length rows) joins place
  pub are : bytes ≡ nodes_bytes rows joins

-- Why a call for an order's bytes refuses. There are no entries or too many, or there isn't a level for each entry. Or the entry of a level doesn't
-- exist, or the order takes 2^64 bytes or more
abbrev pub IsOrderMemoryCause : List ℕ → List Level → Refusal → Type 0
IsOrderMemoryCause rows levels (refusal.Entries count) = (count ≡ length rows) × ¬ HaveOneForEachEntry rows
IsOrderMemoryCause rows levels (refusal.Levels count) = (count ≡ length levels) × HaveOneForEachEntry rows × ¬ (length levels ≡ length rows)
IsOrderMemoryCause rows levels (refusal.Level place) =
    HaveOneForEachEntry rows × (length levels ≡ length rows) × IsFirstWrong (IsLevelValidAt (length rows) levels) (length levels) place
IsOrderMemoryCause rows levels refusal.PastBits =
    HaveOneForEachEntry rows × (length levels ≡ length rows) × ((place : ℕ) → place < length levels → IsLevelValidAt (length rows) levels place)
    × (2 ^ 64 ≤ order_bytes rows levels)
IsOrderMemoryCause rows levels _ = ⊥

-- Why a call for a tree's bytes refuses. There are no entries or too many, or there isn't one join fewer than entries. Or a join names a node that
-- isn't before it, or the tree takes 2^64 bytes or more
abbrev pub IsTreeMemoryCause : List ℕ → List JoinNode → Refusal → Type 0
IsTreeMemoryCause rows joins (refusal.Entries count) = (count ≡ length rows) × ¬ HaveOneForEachEntry rows
IsTreeMemoryCause rows joins (refusal.Joins count) = (count ≡ length joins) × HaveOneForEachEntry rows × ¬ (length joins + 1 ≡ length rows)
IsTreeMemoryCause rows joins (refusal.Join place) =
    HaveOneForEachEntry rows × (length joins + 1 ≡ length rows) × IsFirstWrong (IsJoinValidAt (length rows) joins) (length joins) place
IsTreeMemoryCause rows joins refusal.PastBits =
    HaveOneForEachEntry rows × (length joins + 1 ≡ length rows) × ((place : ℕ) → place < length joins → IsJoinValidAt (length rows) joins place)
    × (2 ^ 64 ≤ nodes_bytes rows joins)
IsTreeMemoryCause rows joins _ = ⊥

-- the bytes of an order: entry 1 with 5 rows, and then entry 0 with 6 rows. Its levels have 5 and 12 rows
abbrev pub small_order_bytes : ℕ
small_order_bytes = order_bytes (6 ∷ 5 ∷ []) (record { entry = 1; bound = 5 } ∷ record { entry = 0; bound = 12 } ∷ [])

-- the bytes of a tree of the same two entries, whose root has at most 12 rows
abbrev pub small_tree_bytes : ℕ
small_tree_bytes = nodes_bytes (6 ∷ 5 ∷ []) (record { left = 0; right = 1; bound = 12 } ∷ [])
