-- Bounds of 64 bits, as bounds of 128 bits.
use Rattle.std.specs.Prelude.{ℕ, ◌-◌, ◌^◌, ◌==◌, if◌then◌else◌, List, map}
use Rattle.limits.specs.Profile.{top_bound}

-- the greatest bound of 64 bits. It means 2^64 - 1 or more
abbrev pub no_bound : ℕ
no_bound = 2 ^ 64 - 1

-- the bound in 128 bits: the greatest of 64 bits becomes the greatest of 128 bits
abbrev pub in_128_bits : ℕ → ℕ
in_128_bits bound = if bound == no_bound then top_bound else bound

abbrev pub all_in_128_bits : List ℕ → List ℕ
all_in_128_bits bounds = map in_128_bits bounds
