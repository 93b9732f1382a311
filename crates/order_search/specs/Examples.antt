-- Bounds of all sets of three or four entries, for examples.
use Rattle.std.specs.Prelude.{ℕ, ◌-◌, ◌^◌, List, [], ◌∷◌}

abbrev pub three_entries : List ℕ
three_entries = 1 ∷ 2 ∷ 2 ∷ 9 ∷ 2 ∷ 5 ∷ 5 ∷ 6 ∷ []

abbrev pub equal_bounds : List ℕ
equal_bounds = 3 ∷ 3 ∷ 3 ∷ 3 ∷ 3 ∷ 3 ∷ 3 ∷ 3 ∷ []

-- for the entries 0, 1 and 2: the order [0, 1, 2] has the lower cost, but the order [2, 1, 0] has the smaller sum
abbrev pub dearer_prefix : List ℕ
dearer_prefix = 1 ∷ 5 ∷ 9 ∷ 5 ∷ 1 ∷ 9 ∷ 6 ∷ 3 ∷ 9 ∷ 9 ∷ 9 ∷ 9 ∷ 9 ∷ 9 ∷ 9 ∷ 10 ∷ []

-- every set of two or more entries has the bound 2^128 - 1, which means that many rows or more
abbrev pub past_bits : List ℕ
past_bits = 1 ∷ 2 ∷ 2 ∷ (2 ^ 128 - 1) ∷ 2 ∷ (2 ^ 128 - 1) ∷ (2 ^ 128 - 1) ∷ (2 ^ 128 - 1) ∷ []

-- only the set of the entries 0 and 1 has the bound 2^128 - 1, which means that many rows or more
abbrev pub one_pair_past_bits : List ℕ
one_pair_past_bits = 1 ∷ 2 ∷ 2 ∷ (2 ^ 128 - 1) ∷ 2 ∷ 5 ∷ 5 ∷ 6 ∷ []
