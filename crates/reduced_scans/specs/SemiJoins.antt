-- Conditions on the rows that semi-joins remove. For the rows that remain, the uses of counted_sets are made afterwards. No public contract uses this
-- file.
use Rattle.std.specs.Prelude.{◌≡◌, ◌≢◌, ℕ, ◌-◌, Bool, true, false, ◌&&◌, nat_le, List, length, slice_index_or}
use Rattle.std.specs.List.{Contains, filter}
use Rattle.berge_tree.specs.declared.edges.Edge.{Edge}
use Rattle.berge_tree.specs.declared.edges.Place.{Place}
use Rattle.level_bounds.specs.Keys.{Keys}
use Rattle.join_steps.specs.Lists.{IsFamily, list_at}
use Rattle.reduced_scans.specs.Families.{IsConsistent}
use Rattle.reduced_scans.specs.Wiring.{HoldsByKey, key_on}

-- the lists have some rows of the scans, and every row of a consistent family is still in its list
pub record IsSifted (scans : List (List ℕ)) (equalities : List Edge) (equal : Edge → ℕ → ℕ → Bool) (lists : List (List ℕ)) : Type 0 where
  pub is_family : IsFamily scans lists
  pub keeps : (family : List (List ℕ)) → IsConsistent scans equalities equal family
      → (entry row : ℕ) → Contains (list_at family entry) row → Contains (list_at lists entry) row

-- `kept` has the rows of a list that pass some test. Each row that has the key of a partner passes the test
pub record IsSemiJoin (key partner_key : ℕ → ℕ) (list partners kept : List ℕ) : Type 0 where
  pub test : ℕ → Bool
  pub filtered : kept ≡ filter test list
  pub passes : (row partner : ℕ) → Contains list row → Contains partners partner → key row ≡ partner_key partner → test row ≡ true

-- the list of one side of an equality became its semi-join with the list of the other side, and no other list changed
pub record IsJoinedAt (key : Keys) (side other : Place) (old new : List (List ℕ)) : Type 0 where
  pub count : length new ≡ length old
  pub joined : IsSemiJoin (key_on key side) (key_on key other) (list_at old side.entry) (list_at old other.entry) (list_at new side.entry)
  pub elsewhere : (entry : ℕ) → entry ≢ side.entry → list_at new entry ≡ list_at old entry

-- if the old lists are sifted (they still have the rows of every consistent family), the new lists are sifted too. The premise is that two rows
-- satisfy an equality exactly if they have the same key
pub record StaySifted (key : Keys) (equalities : List Edge) (old new : List (List ℕ)) : Type 0 where
  pub stay : (scans : List (List ℕ)) (equal : Edge → ℕ → ℕ → Bool) → HoldsByKey scans equalities key equal
      → IsSifted scans equalities equal old → IsSifted scans equalities equal new

-- whether the value is in the range that begins at `least`, and is marked
abbrev pub is_marked : ℕ → List Bool → ℕ → Bool
is_marked least marks value = nat_le least value && slice_index_or marks (value - least) false
