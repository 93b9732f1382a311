-- Counts of faults: when a count has risen, and how a counter adds 1.
use Rattle.std.specs.Prelude.{ℕ, ◌+◌, ◌-◌, ◌^◌, ◌<◌, ◌≡◌, ◌⊎◌, min, max}

-- the count is greater than before, or it is 2^64 - 1. A counter that has reached 2^64 - 1 keeps this value
abbrev pub Rose : ℕ → ℕ → Type 0
Rose before now = (before < now) ⊎ (now ≡ 2 ^ 64 - 1)

-- the count plus 1; a count of 2^64 - 1 or more stays as it is
abbrev pub one_more : ℕ → ℕ
one_more count = max count (min (count + 1) (2 ^ 64 - 1))
