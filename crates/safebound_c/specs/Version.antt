-- The library's version as a text of C.
use Rattle.std.specs.Prelude.{ℕ, List, [], ◌∷◌}

-- the characters 0.4.0, and then a byte 0
abbrev pub version_text : List ℕ
version_text = 48 ∷ 46 ∷ 52 ∷ 46 ∷ 48 ∷ 0 ∷ []
