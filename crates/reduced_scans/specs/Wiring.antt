-- The items, slots and uses of counted_sets for scanned rows. An item is a row of a list. A slot is a value on one side of an equality. A use has the
-- slot that a row gives and the slot that it needs. No public contract uses this file.
use Rattle.std.specs.Prelude.{◌≡◌, ◌≢◌, ◌⊎◌, ℕ, zero, suc, ◌+◌, ◌*◌, ◌<◌, ◌≤◌, ◌==◌, Bool, true, false, if◌then◌else◌, List, [], ◌∷◌, ◌++◌, AllPairs, Some, length, slice_get, slice_index, slice_index_or}
use Rattle.std.specs.List.{Contains}
use Rattle.berge_tree.specs.declared.edges.Edge.{Edge}
use Rattle.berge_tree.specs.declared.edges.Place.{Place}
use Rattle.counted_sets.specs.declared.uses.Use.{Use}
use Rattle.level_bounds.specs.Keys.{Keys}
use Rattle.join_steps.specs.Lists.{list_at}

-- ---- items: the rows of all lists, in the order of the lists

-- the item of an entry's first row
abbrev pub first_item : List (List ℕ) → ℕ → ℕ
first_item [] entry = 0
first_item (scan ∷ scans) zero = 0
first_item (scan ∷ scans) (suc entry) = length scan + first_item scans entry

-- the row with index `place` in an entry's list
abbrev pub row_at : List (List ℕ) → ℕ → ℕ → ℕ
row_at scans entry place = slice_index (list_at scans entry) place

-- the rows of a list whose items are marked. The item of the list's first row is `first`
abbrev pub marked_rows : (ℕ → Bool) → ℕ → List ℕ → List ℕ
marked_rows kept first [] = []
marked_rows kept first (row ∷ rows) = if kept first then row ∷ marked_rows kept (first + 1) rows else marked_rows kept (first + 1) rows

-- for each list, the rows whose items are marked
abbrev pub marked_family : (ℕ → Bool) → ℕ → List (List ℕ) → List (List ℕ)
marked_family kept first [] = []
marked_family kept first (scan ∷ scans) = marked_rows kept first scan ∷ marked_family kept (first + length scan) scans

-- ---- slots: two for each value of an equality, one slot for each side

-- the values in the order of their numbers. A value is a pair: the number of its equality, and its cell
abbrev pub NumberedValues : Type 0
NumberedValues = List (ℕ × ℕ)

abbrev pub ValuesAreDifferent : NumberedValues → Type 0
ValuesAreDifferent known_values = AllPairs (λ a b. a ≢ b) known_values

-- the new list of values begins with the old list, so the old values keep their numbers
pub record ValuesBeginWith (old new : NumberedValues) : Type 0 where
  pub more : NumberedValues
  pub grew : new ≡ old ++ more

-- the column on one side of an equality: the left side if the flag is `true`, otherwise the right side. `opposite` gives the flag of the other side
abbrev pub side_of : Edge → Bool → Place
side_of e true = e.left
side_of e false = e.right

abbrev pub opposite : Bool → Bool
opposite true = false
opposite false = true

abbrev pub slot_of : ℕ → Bool → ℕ
slot_of value_number true = 2 * value_number
slot_of value_number false = 2 * value_number + 1

-- `u` is the use of an item whose row has the cell `cell` on the side `is_left` of an equality. The item gives the slot of this value on this side,
-- and needs the slot of this value on the opposite side
pub record IsUseFor (known_values : NumberedValues) (equality : ℕ) (is_left : Bool) (cell item : ℕ) (u : Use) : Type 0 where
  pub value_number : ℕ
  pub is_value : slice_get known_values value_number ≡ Some (equality, cell)
  pub is_item : u.item ≡ item
  pub gives : u.gives ≡ slot_of value_number is_left
  pub needs : u.needs ≡ slot_of value_number (opposite is_left)

-- the uses of the first `count` rows of a list were added, and the values that the uses need were numbered
pub record AddsUses (equality : ℕ) (is_left : Bool) (first : ℕ) (cells list : List ℕ) (count : ℕ)
    (old_values new_values : NumberedValues) (old new : List Use) : Type 0 where
  pub begins : ValuesBeginWith old_values new_values
  pub size : length new ≡ length old + count
  pub few : length new_values ≤ length old_values + count
  pub kept : (u : Use) → Contains old u → Contains new u
  pub sound : (u : Use) → Contains new u
      → Contains old u ⊎ ((place : ℕ) × (place < count)
      × IsUseFor new_values equality is_left (slice_index cells (slice_index list place)) (first + place) u)
  pub complete : (place : ℕ) → place < count
      → (u : Use) × Contains new u × IsUseFor new_values equality is_left (slice_index cells (slice_index list place)) (first + place) u

-- equality `e` has the index m
abbrev pub IsEqualityAt : List Edge → ℕ → Edge → Type 0
IsEqualityAt equalities m e = (m < length equalities) × (slice_index_or equalities m e ≡ e)

-- the key of a row in the column on a side of an equality
abbrev pub key_on : Keys → Place → ℕ → ℕ
key_on key side row = key side.entry side.column row

-- two rows of the lists satisfy an equality exactly if they have the same key
abbrev pub HoldsByKey : List (List ℕ) → List Edge → Keys → (Edge → ℕ → ℕ → Bool) → Type 0
HoldsByKey scans equalities key equal = (e : Edge) → Contains equalities e → (left right : ℕ) → Contains (list_at scans e.left.entry) left
    → Contains (list_at scans e.right.entry) right → equal e left right ≡ (key_on key e.left left == key_on key e.right right)

-- `u` is the use of a row on a side of one of the first `count` equalities
pub record IsUseForRow (scans : List (List ℕ)) (equalities : List Edge) (key : Keys) (known_values : NumberedValues) (count : ℕ) (u : Use) : Type 0 where
  pub number : ℕ
  pub edge : Edge
  pub is_left : Bool
  pub place : ℕ
  pub below : number < count
  pub numbered : IsEqualityAt equalities number edge
  pub within : place < length (list_at scans (side_of edge is_left).entry)
  pub is_use : IsUseFor known_values number is_left (key_on key (side_of edge is_left) (row_at scans (side_of edge is_left).entry place))
      (first_item scans (side_of edge is_left).entry + place) u

-- `uses` are exactly the uses of the rows on both sides of the first `count` equalities
pub record AreUsesOfRows (scans : List (List ℕ)) (equalities : List Edge) (key : Keys) (known_values : NumberedValues) (count : ℕ)
    (uses : List Use) : Type 0 where
  pub sound : (u : Use) → Contains uses u → IsUseForRow scans equalities key known_values count u
  pub complete : (number : ℕ) (edge : Edge) (is_left : Bool) (place : ℕ) → number < count → IsEqualityAt equalities number edge
      → place < length (list_at scans (side_of edge is_left).entry)
      → (u : Use) × Contains uses u
      × IsUseFor known_values number is_left (key_on key (side_of edge is_left) (row_at scans (side_of edge is_left).entry place))
      (first_item scans (side_of edge is_left).entry + place) u
