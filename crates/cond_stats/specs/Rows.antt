-- Rows of a table, each as its filter value and its joined key. Both are numbers, which are equal where the values are equal.
use Rattle.std.specs.Prelude.{ℕ, Bool, List, map}
use Rattle.std.specs.List.{filter}

-- the filter values, row by row
abbrev pub filter_values : List (ℕ × ℕ) → List ℕ
filter_values rows = map (λ row. row.0) rows

-- the joined keys, row by row
abbrev pub joined_keys : List (ℕ × ℕ) → List ℕ
joined_keys rows = map (λ row. row.1) rows

-- the joined keys of the rows whose filter value passes
abbrev pub keys_where : (ℕ → Bool) → List (ℕ × ℕ) → List ℕ
keys_where passes rows = joined_keys (filter (λ row. passes row.0) rows)
