-- Conditions of worked examples, over the columns X and Y of one entry.
use Rattle.std.specs.Prelude.{ℕ, List, [], ◌∷◌, pos, Option, None, Some, nat_le, if◌then◌else◌}
use Rattle.std.specs.Ordering.{int_cmp, is_lt}
use Rattle.csv_tables.specs.Values.{Value, Int, Text}
use Rattle.query_grammar.specs.declared.tree.Op.{Op}
use Rattle.query_types.specs.declared.types.Operand.{Operand}
use Rattle.query_types.specs.declared.types.Operand.TheVariants as operand
use Rattle.query_types.specs.declared.types.Cond.{Cond, Compare}
use Rattle.filtered_lists.specs.Lists.{ColumnLists, filtered_list}
use Rattle.filtered_lists.specs.Ranges.{Range}

-- the list of entry 0, if `cond` is the entry's only conjunct
abbrev pub list_where : ColumnLists → Cond → List ℕ
list_where lists cond = filtered_list lists 0 (cond ∷ [])

abbrev pub column_x : Operand
column_x = operand.Column (record { from = 0; column = 0 })

abbrev pub column_y : Operand
column_y = operand.Column (record { from = 0; column = 1 })

abbrev pub number : ℕ → Operand
number n = operand.Int (pos n)

abbrev pub value : ℕ → Value
value n = Int (pos n)

-- a column of another entry
abbrev pub column_of_other : Operand
column_of_other = operand.Column (record { from = 1; column = 0 })

-- `x_is`: X compared with a number. `y_is`: Y compared with a number. `is_x`: a number compared with X
abbrev pub x_is : Op → ℕ → Cond
x_is op n = Compare op column_x (number n)

abbrev pub y_is : Op → ℕ → Cond
y_is op n = Compare op column_y (number n)

abbrev pub is_x : ℕ → Op → Cond
is_x n op = Compare op (number n) column_x

-- a range of X, or of Y
abbrev pub range_x : Option Value → Option Value → Range
range_x low high = record { column = 0; low = low; high = high }

abbrev pub range_y : Option Value → Option Value → Range
range_y low high = record { column = 1; low = low; high = high }

-- ---- R(X) with the rows 1, 1, 1, 2, 2, 3, joined on X

-- the leaf of a number: the leaves of 1, 2 and 3 are 15, 26 and 31
abbrev pub leaf_of_value : Value → ℕ
leaf_of_value (Int n) =
    if is_lt (int_cmp n (pos 2)) then (if is_lt (int_cmp n (pos 1)) then 0 else 15) else (if is_lt (int_cmp n (pos 3)) then 26 else 31)
leaf_of_value (Text t) = 31

abbrev pub low_leaf : Option Value → ℕ
low_leaf None = 0
low_leaf (Some low) = leaf_of_value low

abbrev pub high_leaf : Option Value → ℕ
high_leaf None = 31
high_leaf (Some high) = leaf_of_value high

-- the list of a value
abbrev pub list_of_value : Value → List ℕ
list_of_value (Int n) = if is_lt (int_cmp n (pos 2)) then 3 ∷ [] else (if is_lt (int_cmp n (pos 3)) then 2 ∷ [] else 1 ∷ [])
list_of_value (Text t) = []

-- the list of the smallest node that holds both leaves. This table has three nodes: leaves 0 to 15, the last leaf, and all leaves
abbrev pub list_of_leaves : ℕ → ℕ → List ℕ
list_of_leaves low high = if nat_le high 15 then 3 ∷ [] else (if nat_le 31 low then 1 ∷ [] else 3 ∷ (3 ∷ []))

abbrev pub six_rows : ColumnLists
six_rows = record {
  whole = 3 ∷ 3 ∷ [];
  equal = λ column value. list_of_value value;
  range = λ range. list_of_leaves (low_leaf range.low) (high_leaf range.high);
}
