-- How many pieces a compressed list can have.
use Rattle.std.specs.Prelude.{ℕ, zero, suc, ◌+◌, ◌*◌, ◌/◌}

-- the number of binary digits of n, but at most `room`
abbrev pub digits_within : ℕ → ℕ → ℕ
digits_within zero n = 0
digits_within (suc room) zero = 0
digits_within (suc room) (suc n) = suc (digits_within room (suc n / 2))

-- the number of binary digits of n, and 0 for zero
abbrev pub binary_digits : ℕ → ℕ
binary_digits n = digits_within n n

-- the greatest number of pieces at accuracy K: K for each binary digit of the first degree, and one more
abbrev pub most_pieces : ℕ → ℕ → ℕ
most_pieces first accuracy = accuracy * binary_digits first + 1
