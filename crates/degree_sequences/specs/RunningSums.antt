-- Running sums of a list, and lists that are given by their running sums.
use Rattle.std.specs.Prelude.{ℕ, zero, suc, ◌+◌, ◌-◌, ◌≤◌, min, max, List, [], ◌∷◌, map, length}
use Rattle.std.specs.List.{range_with_len}
use Rattle.degree_sequences.specs.Descending.{trimmed}

-- the sum of the first r elements
abbrev pub running_sum : List ℕ → ℕ → ℕ
running_sum s zero = 0
running_sum [] (suc r) = 0
running_sum (x ∷ s) (suc r) = x + running_sum s r

-- at every rank the running sum of s is at least the running sum of t
abbrev pub HasHigherSums : List ℕ → List ℕ → Type 0
HasHigherSums s t = (r : ℕ) → running_sum t r ≤ running_sum s r

-- The list of n elements whose running sums are `sums 1`, `sums 2` and so on. This needs that `sums 0` is 0 and `sums` never decreases
abbrev pub with_running_sums : (ℕ → ℕ) → ℕ → List ℕ
with_running_sums sums n = map (λ r. sums (suc r) - sums r) (range_with_len 0 n)

-- the list whose running sum at each rank is the lesser of the running sums of s and t
abbrev pub lesser : List ℕ → List ℕ → List ℕ
lesser s t = trimmed (with_running_sums (λ r. min (running_sum s r) (running_sum t r)) (max (length s) (length t)))

-- the list whose running sums are those of s, but at most n
abbrev pub capped_at : List ℕ → ℕ → List ℕ
capped_at s n = trimmed (with_running_sums (λ r. min (running_sum s r) n) (length s))
