-- Numbers that saturate at 128 bits.
use Rattle.std.specs.Prelude.{ℕ, ◌-◌, ◌^◌, min}

-- n, or the largest number of 128 bits if n is larger
abbrev pub saturated : ℕ → ℕ
saturated n = min n (2 ^ 128 - 1)
