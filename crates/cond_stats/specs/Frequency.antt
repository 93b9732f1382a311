-- Which values of a column are frequent: the 32 values with the most rows. If two values have equally many rows, the value that occurs first comes
-- first.
use Rattle.std.specs.Prelude.{ℕ, ◌==◌, nat_lt, nat_le, Bool, ◌&&◌, ◌||◌, List, take, drop}
use Rattle.std.specs.List.{position_or_len}
use Rattle.degree_sequences.specs.Degrees.{degree, different}
use Rattle.cond_stats.specs.Leaves.{in_order}

-- the row number of the first row that has a value
abbrev pub first_row : List ℕ → ℕ → ℕ
first_row column value = position_or_len (λ other. other == value) column

-- a is more frequent than b, or as frequent as b and occurs no later
abbrev pub comes_before : List ℕ → ℕ → ℕ → Bool
comes_before column a b =
    nat_lt (degree column b) (degree column a) || degree column a == degree column b && nat_le (first_row column a) (first_row column b)

-- the different values of a column, the most frequent first; of equally frequent values, the value that occurs first comes first
abbrev pub by_frequency : List ℕ → List ℕ
by_frequency column = in_order (comes_before column) (different column)

abbrev pub frequent : List ℕ → List ℕ
frequent column = take 32 (by_frequency column)

-- the other values, which aren't frequent
abbrev pub remaining : List ℕ → List ℕ
remaining column = drop 32 (by_frequency column)
