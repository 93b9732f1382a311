-- What a call leaves in the room, the buffer that its caller gave.
use Rattle.std.specs.Prelude.{◌≡◌, ℕ, ◌<◌, List, ◌++◌, map, length, drop}
use Rattle.piece_math.specs.Expanded.{AreRuns}
use Rattle.safebound_lists.specs.declared.refusal.Refusal.{Refusal}
use Rattle.safebound_lists.specs.declared.refusal.Refusal.TheVariants as refusal
use Rattle.safebound_lists.specs.declared.runs.Run.{Run}
use Rattle.safebound_lists.specs.Runs.{list_of, piece_of}

-- the room now begins with the `count` elements of `front`, and its other elements are as they were
pub record RoomBeginsWith {A : Type 0} (front old new : List A) (count : ℕ) : Type 0 where
  pub counted : length front ≡ count
  pub filled : new ≡ front ++ drop count old

-- the room now begins with `count` runs that stand for the list. Each run has a lower degree than the run before it. The other elements of the
-- room are as they were
pub record IsWritten (list : List ℕ) (old new : List Run) (count : ℕ) : Type 0 where
  pub front : List Run
  pub stands_for : list_of front ≡ list
  pub descends : AreRuns (map piece_of front)
  pub filled : RoomBeginsWith front old new count

-- the refusal says that the room is too small, and how many elements are needed
abbrev pub IsRoomRefusal : ℕ → ℕ → Refusal → Type 0
IsRoomRefusal needed room (refusal.Room n) = (n ≡ needed) × (room < needed)
IsRoomRefusal needed room _ = ⊥
