-- The intersection of the ranges of a column, made range by range.
use Rattle.std.specs.Prelude.{Bool, false, Option, None, Some}
use Rattle.std.specs.Ordering.{is_lt, is_gt}
use Rattle.csv_tables.specs.Values.{Value, value_cmp}
use Rattle.filtered_lists.specs.Ranges.{Range, greater_of, lesser_of}

-- whether the end exists and is above the value
abbrev pub is_above : Option Value → Value → Bool
is_above None value = false
is_above (Some end) value = is_lt (value_cmp value end)

-- whether the end exists and is below the value
abbrev pub is_below : Option Value → Value → Bool
is_below None value = false
is_below (Some end) value = is_gt (value_cmp value end)

-- the greater of two low ends. If one end is missing, the other end is taken
abbrev pub greater_low_end : Option Value → Option Value → Option Value
greater_low_end None other = other
greater_low_end (Some value) other = Some (greater_of value other)

-- the lower of two high ends. If one end is missing, the other end is taken
abbrev pub lower_high_end : Option Value → Option Value → Option Value
lower_high_end None other = other
lower_high_end (Some value) other = Some (lesser_of value other)

-- the intersection of two ranges of one column
abbrev pub narrowed : Range → Range → Range
narrowed range one = record { column = one.column; low = greater_low_end range.low one.low; high = lower_high_end range.high one.high }
