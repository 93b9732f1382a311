-- Whether a condition holds for one row of each FROM entry (SQL-92 8.2 and 8.12; there are no nulls, and texts aren't padded).
use Rattle.std.specs.Prelude.{ℕ, Bool, true, false, not, ◌&&◌, ◌||◌, List, [], ◌∷◌, pos, slice_index_or}
use Rattle.std.specs.Ordering.{is_eq, is_ne, is_lt, is_le, is_gt, is_ge}
use Rattle.std.specs.declared.cmp.Ordering.{Ordering}
use Rattle.csv_tables.specs.Values.{Value, Int, Text, value_cmp}
use Rattle.query_grammar.specs.declared.tree.Op.{Op}
use Rattle.query_grammar.specs.declared.tree.Op.TheVariants as op
use Rattle.query_types.specs.declared.types.ColumnRef.{ColumnRef}
use Rattle.query_types.specs.declared.types.Operand.{Operand}
use Rattle.query_types.specs.declared.types.Operand.TheVariants as operand
use Rattle.query_types.specs.declared.types.Cond.{Cond}
use Rattle.query_types.specs.declared.types.Cond.TheFolds.{fold-Cond}
use Rattle.query_types.specs.declared.types.Cond.TheOpen.{Cond-F}
use Rattle.query_types.specs.declared.types.Cond.TheOpen as layer
use Rattle.sql_meaning.specs.Tables.{Tables}

-- the value of a column in its entry's row. Columns of a query and rows of a choice exist; for a column or row that doesn't exist, the value is 0
abbrev pub column_value : Tables → (ℕ → ℕ) → ColumnRef → Value
column_value tables row_of column =
    slice_index_or (slice_index_or (tables column.from) (row_of column.from) []) column.column (Int (pos 0))

-- the value of an operand, which is a literal or a column in its entry's row
abbrev pub operand_value : Tables → (ℕ → ℕ) → Operand → Value
operand_value tables row_of (operand.Column column) = column_value tables row_of column
operand_value tables row_of (operand.Int number) = Int number
operand_value tables row_of (operand.Text text) = Text text

-- whether an operator holds for two values whose comparison gave `order`
abbrev pub compares : Op → Ordering → Bool
compares op.Eq order = is_eq order
compares op.Ne order = is_ne order
compares op.Lt order = is_lt order
compares op.Le order = is_le order
compares op.Gt order = is_gt order
compares op.Ge order = is_ge order

-- whether a comparison of two operands holds in these rows
abbrev pub comparison_holds : Tables → (ℕ → ℕ) → Op → Operand → Operand → Bool
comparison_holds tables row_of op left right =
    compares op (value_cmp (operand_value tables row_of left) (operand_value tables row_of right))

abbrev pub all_of : List Bool → Bool
all_of [] = true
all_of (b ∷ bs) = b && all_of bs

abbrev pub any_of : List Bool → Bool
any_of [] = false
any_of (b ∷ bs) = b || any_of bs

-- whether a condition holds, from whether each condition inside it holds
abbrev pub holds_step : Tables → (ℕ → ℕ) → Cond-F Bool → Bool
holds_step tables row_of (layer.And all) = all_of all
holds_step tables row_of (layer.Or any) = any_of any
holds_step tables row_of (layer.Not inner) = not inner
holds_step tables row_of (layer.Compare op left right) = comparison_holds tables row_of op left right

-- whether a condition holds when each entry has the row that `row_of` picks
abbrev pub cond_holds : Tables → (ℕ → ℕ) → Cond → Bool
cond_holds tables row_of = fold-Cond Bool (holds_step tables row_of)
