-- The bytes of small lists of buffers.
use Rattle.std.specs.Prelude.{ℕ, [], ◌∷◌}
use Rattle.reserve_plan.specs.Memory.{chain_list_bytes, lists_bytes}

-- the bytes of two lists of row numbers, with room for 6 and 5 rows
abbrev pub six_and_five_rows : ℕ
six_and_five_rows = lists_bytes (6 ∷ 5 ∷ [])

-- the bytes of two hash chains, with room for 6 rows and for no rows
abbrev pub six_and_no_keys : ℕ
six_and_no_keys = chain_list_bytes (6 ∷ 0 ∷ [])
