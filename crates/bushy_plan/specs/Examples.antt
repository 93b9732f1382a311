-- Bounds of the sets of two and three entries, for examples.
use Rattle.std.specs.Prelude.{ℕ, List, [], ◌∷◌}

abbrev pub one_pair : List ℕ
one_pair = 1 ∷ 6 ∷ 5 ∷ 12 ∷ []

-- each set of one entry has the bound 3, each set of two entries 5, and the set of all three entries 9
abbrev pub triangle : List ℕ
triangle = 1 ∷ 3 ∷ 3 ∷ 5 ∷ 3 ∷ 5 ∷ 5 ∷ 9 ∷ []
