-- Rows that repeat the values of a key.
use Rattle.std.specs.Prelude.{ℕ, ◌+◌, Bool, List, [], ◌∷◌, ◌++◌, length, map, position, slice_index_or, pos, Option, None, Some, Result, Ok, Err}
use Rattle.std.specs.Cmp.Lexicographic.{pointwise}
use Rattle.csv_tables.specs.declared.types.Repeat.{Repeat}
use Rattle.csv_tables.specs.declared.types.TableError.{TableError}
use Rattle.csv_tables.specs.declared.types.TableError.TheVariants as error
use Rattle.csv_tables.specs.Rows.{Row}
use Rattle.csv_tables.specs.Values.{Value, Int, is_same}

-- a row's values in the columns of a key
abbrev pub key_values : List ℕ → Row → List Value
key_values key row = map (λ column. slice_index_or row column (Int (pos 0))) key

-- the two lists have equal values, place by place
abbrev pub are_same : List Value → List Value → Bool
are_same a b = pointwise is_same a b

abbrev pub repeat_or : Option Repeat → Option ℕ → ℕ → Option Repeat
repeat_or rest None later = rest
repeat_or rest (Some place) later = Some (record { later = later; earlier = place + 1 })

-- the first list after those in `seen` that equals an earlier list, and the first list that it equals. Both are given by number, from 1
abbrev pub repeat_after : List (List Value) → List (List Value) → Option Repeat
repeat_after seen [] = None
repeat_after seen (values ∷ rest) =
    repeat_or (repeat_after (seen ++ values ∷ []) rest) (position (are_same values) seen) (length seen + 1)

-- the first record that repeats an earlier record's values in the key's columns, and the first record with these values
abbrev pub first_repeat : List ℕ → List Row → Option Repeat
first_repeat key rows = repeat_after [] (map (key_values key) rows)

abbrev pub or_rows : List Row → Option Repeat → Result (List Row) TableError → Result (List Row) TableError
or_rows rows None next = next
or_rows rows (Some repeat) next = Err (error.Key repeat.later repeat.earlier)

-- the rows, if no values of a key repeat. Otherwise the refusal of the first key, in declared order, whose values repeat
abbrev pub rows_with_keys : List (List ℕ) → List Row → Result (List Row) TableError
rows_with_keys [] rows = Ok rows
rows_with_keys (key ∷ keys) rows = or_rows rows (first_repeat key rows) (rows_with_keys keys rows)
