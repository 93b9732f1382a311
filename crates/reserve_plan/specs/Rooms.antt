-- Empty buffers with room for a number of items.
use Rattle.std.specs.Prelude.{◌≡◌, ℕ, ◌≤◌, max, List, [], ◌∷◌}
use Rattle.row_buf.specs.Rows.{Rows}
use Rattle.link_index.specs.Places.{ChainsView}

abbrev pub greatest : List ℕ → ℕ
greatest [] = 0
greatest (n ∷ ns) = max n (greatest ns)

-- an empty buffer that takes at least `count` items
pub record IsRoomFor {T : Type 0} (count : ℕ) (buffer : Rows T) : Type 0 where
  pub empty : buffer.items ≡ []
  pub room : count ≤ buffer.spare

-- an empty buffer with memory for exactly `size` row numbers
abbrev pub buffer_with_room_for : ℕ → Rows ℕ
buffer_with_room_for size = record { items = []; spare = size }

-- empty chains with room for exactly `rows` rows. They have `rows` buckets, or one bucket for no rows
abbrev pub chains_with_room_for : ℕ → ChainsView
chains_with_room_for rows = record { keys = []; room = rows; buckets = max rows 1 }

-- empty chains with room for at least `count` rows. They have at least `count` buckets, and at least one where `count` is 0
pub record IsRoomForKeys (count : ℕ) (chains : ChainsView) : Type 0 where
  pub empty : chains.keys ≡ []
  pub room : count ≤ chains.room
  pub buckets : max count 1 ≤ chains.buckets
