-- How often keys occur in a list of keys.
use Rattle.std.specs.Prelude.{ℕ, ◌==◌, nat_le, not, if◌then◌else◌, List, [], ◌∷◌, map}
use Rattle.std.specs.List.{count_by, filter}

-- the degree of a key: how often it occurs in the list
abbrev pub degree : List ℕ → ℕ → ℕ
degree keys a = count_by (λ key. key == a) keys

-- the different keys, in the order of their first occurrences
abbrev pub different : List ℕ → List ℕ
different [] = []
different (key ∷ keys) = key ∷ filter (λ other. not (other == key)) (different keys)

-- a list in descending order with n inserted, so that it stays in this order
abbrev pub inserted_descending : ℕ → List ℕ → List ℕ
inserted_descending n [] = n ∷ []
inserted_descending n (m ∷ ms) = if nat_le m n then n ∷ (m ∷ ms) else (m ∷ inserted_descending n ms)

-- the numbers in descending order
abbrev pub sorted_descending : List ℕ → List ℕ
sorted_descending [] = []
sorted_descending (n ∷ ns) = inserted_descending n (sorted_descending ns)

-- the degree list of keys: the degrees of the different keys, the greatest first
abbrev pub degree_list : List ℕ → List ℕ
degree_list keys = sorted_descending (map (degree keys) (different keys))
