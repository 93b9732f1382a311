-- Natural numbers in descending order; neighbours may be equal. Ranks count from 1. Past the end of a list an element counts as 0.
use Rattle.std.specs.Prelude.{ℕ, zero, suc, ◌≤◌, List, [], ◌∷◌, slice_index}

-- each element is at most the element before it
abbrev pub IsDescending : List ℕ → Type 0
IsDescending s = (r : ℕ) → slice_index s (suc r) ≤ slice_index s r

-- x in front of s; the empty list if x is 0 and s is empty
abbrev pub cons_unless_zero_at_end : ℕ → List ℕ → List ℕ
cons_unless_zero_at_end zero [] = []
cons_unless_zero_at_end zero (y ∷ s) = zero ∷ (y ∷ s)
cons_unless_zero_at_end (suc x) s = suc x ∷ s

-- the list up to its last element that is not 0
abbrev pub trimmed : List ℕ → List ℕ
trimmed [] = []
trimmed (x ∷ s) = cons_unless_zero_at_end x (trimmed s)
