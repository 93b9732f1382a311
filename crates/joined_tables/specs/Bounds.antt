-- How many rows a joined table has at most, by bounds of the inner join and of both tables.
use Rattle.std.specs.Prelude.{◌≡◌, ◌⊎◌, ℕ, ◌+◌, ◌≤◌, min}
use Rattle.safebound_bounds.specs.Meaning.{no_bound}
use Rattle.joined_tables.specs.declared.joins.Join.{Join}
use Rattle.joined_tables.specs.declared.joins.Join.TheVariants.{Anti, Full, Left, Right, Semi}

-- The most rows of a joined table. `inner` bounds the rows of the inner join, `left` those of the left table, and `right` those of the right table.
-- An outer join adds rows of a table to the inner join. A semi-join has a row of the left table once, however many pairs the row is in
abbrev pub most_joined : Join → ℕ → ℕ → ℕ → ℕ
most_joined Left inner left right = inner + left
most_joined Right inner left right = inner + right
most_joined Full inner left right = inner + left + right
most_joined Semi inner left right = min inner left
most_joined Anti inner left right = left

-- the number of rows is within a bound of 64 bits. The greatest number of 64 bits, as a bound, excludes nothing
abbrev pub IsWithin : ℕ → ℕ → Type 0
IsWithin rows bound = (rows ≤ bound) ⊎ (bound ≡ no_bound)
