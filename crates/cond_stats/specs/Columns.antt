-- Leaves and lists of columns of cells, by the order of the values that the cells stand for.
use Rattle.std.specs.Prelude.{ℕ, Bool, true, ◌&&◌, List, Option, None, Some, option_map}
use Rattle.std.specs.Ordering.{is_le}
use Rattle.schema_types.specs.declared.types.Kind.{Kind}
use Rattle.csv_tables.specs.Cells.{value_of_cell}
use Rattle.csv_tables.specs.Values.{Value, value_cmp}
use Rattle.cond_stats.specs.Leaves.{cuts, last_place}
use Rattle.cond_stats.specs.Lists.{list_of_range}
use Rattle.cond_stats.specs.Rows.{filter_values}

-- one value is at most another
abbrev pub value_le : Value → Value → Bool
value_le a b = is_le (value_cmp a b)

-- the value of one cell is at most the value of another
abbrev pub cell_le : List (List ℕ) → Kind → ℕ → ℕ → Bool
cell_le texts kind cell other = value_le (value_of_cell texts kind cell) (value_of_cell texts kind other)

-- the leaf of a value: the last leaf whose cut is at most the value, or 0 if there is no such cut. A cut is given by a number, such as a cell or
-- a row number, and `value_at` gives its value
abbrev pub leaf_among : (ℕ → Value) → List ℕ → Value → ℕ
leaf_among value_at numbers value = last_place (λ cut. value_le (value_at cut) value) numbers

-- the leaf of a value in a column of cells
abbrev pub leaf_of_value : List (List ℕ) → Kind → List ℕ → Value → ℕ
leaf_of_value texts kind column value = leaf_among (value_of_cell texts kind) (cuts (cell_le texts kind) column) value

-- the list of the range from a low value to a high one; either may be missing
abbrev pub list_between : List (List ℕ) → Kind → ℕ → List (ℕ × ℕ) → Option Value → Option Value → List ℕ
list_between texts kind accuracy rows low high =
    list_of_range (cell_le texts kind) accuracy rows
    (option_map (leaf_of_value texts kind (filter_values rows)) low) (option_map (leaf_of_value texts kind (filter_values rows)) high)

-- a cell's value is at least the low value and at most the high one; either may be missing
abbrev pub is_between : List (List ℕ) → Kind → Option Value → Option Value → ℕ → Bool
is_between texts kind None None cell = true
is_between texts kind None (Some high) cell = value_le (value_of_cell texts kind cell) high
is_between texts kind (Some low) None cell = value_le low (value_of_cell texts kind cell)
is_between texts kind (Some low) (Some high) cell =
    value_le low (value_of_cell texts kind cell) && value_le (value_of_cell texts kind cell) high

-- a filter column: its cells, their kind, and the texts that they may stand for
pub record CellColumn : Type 0 where
  pub texts : List (List ℕ)
  pub kind : Kind
  pub cells : List ℕ
