-- The statistics of a column of numbers that is the joined column and the filter column: lists of its values and ranges, at accuracy 1.
use Rattle.std.specs.Prelude.{ℕ, List, [], Option, None, Some}
use Rattle.std.specs.List.{zip}
use Rattle.schema_types.specs.declared.types.Kind.TheVariants as kind
use Rattle.csv_tables.specs.Numbers.{bits_of}
use Rattle.csv_tables.specs.Values.{Value, Int, Text}
use Rattle.cond_stats.specs.Columns.{list_between}
use Rattle.cond_stats.specs.Lists.{list_of_value, whole}
use Rattle.filtered_lists.specs.Lists.{ColumnLists}

-- the cell of a number; a text has no cell here
abbrev pub cell_with : Value → Option ℕ
cell_with (Int number) = Some (bits_of number)
cell_with (Text text) = None

-- the lists of a column of cells, which is the joined column and the filter column
abbrev pub lists_of : List ℕ → ColumnLists
lists_of column = record {
  whole = whole 1 (zip column column);
  equal = λ filter value. list_of_value 1 (zip column column) (cell_with value);
  range = λ range. list_between [] kind.Int 1 (zip column column) range.low range.high;
}
