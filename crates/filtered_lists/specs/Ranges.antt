-- Ranges of a column's values, and the intersection of all ranges of a column.
use Rattle.std.specs.Prelude.{ℕ, ◌==◌, if◌then◌else◌, List, [], ◌∷◌, map, Option, None, Some}
use Rattle.std.specs.List.{filter, filter_map}
use Rattle.std.specs.Ordering.{is_lt, is_gt}
use Rattle.csv_tables.specs.Values.{Value, value_cmp}
use Rattle.degree_sequences.specs.Degrees.{different}

-- the values of a column from a low end to a high end, both included. Either end may be missing: then there is no limit on that side
pub record Range : Type 0 where
  pub column : ℕ
  pub low : Option Value
  pub high : Option Value

-- the range from this value on
abbrev pub from_value : ℕ → Value → Range
from_value column low = record { column = column; low = Some low; high = None }

-- the range up to this value
abbrev pub up_to_value : ℕ → Value → Range
up_to_value column high = record { column = column; low = None; high = Some high }

abbrev pub greater_of : Value → Option Value → Value
greater_of value None = value
greater_of value (Some other) = if is_lt (value_cmp value other) then other else value

abbrev pub lesser_of : Value → Option Value → Value
lesser_of value None = value
lesser_of value (Some other) = if is_gt (value_cmp value other) then other else value

-- the greatest of the values, if there are any
abbrev pub greatest_value : List Value → Option Value
greatest_value [] = None
greatest_value (value ∷ values) = Some (greater_of value (greatest_value values))

-- the least of the values, if there are any
abbrev pub least_value : List Value → Option Value
least_value [] = None
least_value (value ∷ values) = Some (lesser_of value (least_value values))

-- the ranges of this column among `ranges`
abbrev pub ranges_of : ℕ → List Range → List Range
ranges_of column ranges = filter (λ range. range.column == column) ranges

-- the intersection of a column's ranges: from the greatest of their low ends to the least of their high ends
abbrev pub intersection_of : List Range → ℕ → Range
intersection_of ranges column = record {
  column = column;
  low = greatest_value (filter_map (λ range. range.low) (ranges_of column ranges));
  high = least_value (filter_map (λ range. range.high) (ranges_of column ranges));
}

-- for each column that has a range among `ranges`, the intersection of the column's ranges
abbrev pub intersection_for_each_column : List Range → List Range
intersection_for_each_column ranges = map (intersection_of ranges) (different (map (λ range. range.column) ranges))
