-- Consistent sets of items: each slot that an item of the set needs is given by an item of the set. A use belongs to an item; it gives one slot and
-- needs another one.
use Rattle.std.specs.Prelude.{◌≡◌, ℕ, ◌<◌, List, slice_index_or, Bool, true, false}
use Rattle.std.specs.List.{Contains}
use Rattle.counted_sets.specs.declared.uses.Use.{Use}

-- whether the item is marked
abbrev pub marked : List Bool → ℕ → Bool
marked marks item = slice_index_or marks item false

-- some use of a kept item gives the slot
abbrev pub IsGiven : List Use → (ℕ → Bool) → ℕ → Type 0
IsGiven uses is_kept slot = (giver : Use) × Contains uses giver × (is_kept giver.item ≡ true) × (giver.gives ≡ slot)

-- the kept items have numbers below `items`, and each slot that a kept item needs is given by a kept item
pub record IsConsistent (items : ℕ) (uses : List Use) (kept : ℕ → Bool) : Type 0 where
  pub within : (item : ℕ) → kept item ≡ true → item < items
  pub given : (need : Use) → Contains uses need → kept need.item ≡ true → IsGiven uses kept need.needs

-- the set is consistent, and every consistent set is contained in it
pub record IsGreatest (items : ℕ) (uses : List Use) (kept : ℕ → Bool) : Type 0 where
  pub consistent : IsConsistent items uses kept
  pub greatest : (other : ℕ → Bool) → IsConsistent items uses other → (item : ℕ) → other item ≡ true → kept item ≡ true

-- the use's item is below `items`, and its two slots are below `slots`
pub record IsUseOf (items slots : ℕ) (u : Use) : Type 0 where
  pub item : u.item < items
  pub gives : u.gives < slots
  pub needs : u.needs < slots
