-- The rank of a row. A list's first element says how many rows have rank 1, its second how many have rank 2, and so on.
use Rattle.std.specs.Prelude.{ℕ, suc, ◌-◌, nat_le, if◌then◌else◌, List, [], ◌∷◌}

-- the rank of row t: the first rank at which the running sum reaches t. If t is above the list's sum, it is the length of the list
abbrev pub rank : List ℕ → ℕ → ℕ
rank [] t = 0
rank (x ∷ s) t = if nat_le t x then 1 else suc (rank s (t - x))
