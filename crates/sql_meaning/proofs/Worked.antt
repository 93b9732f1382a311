-- The examples are worked out by computation.
use Rattle.std.proofs.Common.{◌≡◌, ℕ, zero, suc, ◌<◌, ◌≤◌, ◌^◌, Bool, Some, option_map, lit≤, not, ◌&&◌, ◌||◌, true, false, List, [], ◌∷◌, length, map, slice_index, pos, refl, ap, ◌∙◌, arith}
use Rattle.std.specs.List.{filter, range_with_len, slice_get, All}
use Rattle.std.proofs.lemmas.List.Elements.{All-from_recursion, filter_agree}
use Rattle.csv_tables.specs.Values.{Int}
use Rattle.query_grammar.specs.declared.tree.Op.{Op}
use Rattle.query_grammar.specs.declared.tree.Op.TheVariants as op
use Rattle.query_types.specs.declared.types.Operand.TheVariants as operand
use Rattle.query_types.specs.declared.types.Cond.{Cond, Or, Compare}
use Rattle.query_types.specs.Validity.{is_text}
use Rattle.sql_meaning.specs.Answers.{answer, chosen, query_holds, selected, entries_of}
use Rattle.sql_meaning.specs.Choices.{choices_of}
use Rattle.sql_meaning.specs.Conditions.{comparison_holds, cond_holds}
use Rattle.sql_meaning.specs.Databases.{AreCells, IsWellTyped, IsColumnOf, IsColumnOfKind, IsDatabaseOf}
use Rattle.sql_meaning.specs.Examples.{column_at, from_three_to_one, not_in_one_three, one_two_three, rows_where, three_rows, triangle, triangle_tables, x_is}
use Rattle.sql_meaning.specs.Tables.{cells_of, Tables, row_counts, tables_of}
use Rattle.sql_meaning.proofs.NamedFacts.{same_kinds_are_well_typed}
use Rattle.sql_meaning.proofs.ConditionFacts.{holds_and, holds_or, holds_not, holds_compare}

-- whether the comparison of column X with this number holds in this row
abbrev x_says : Op → ℕ → ℕ → Bool
x_says op number row = comparison_holds one_two_three (λ entry. row) op (column_at 0 0) (operand.Int (pos number))

x_is_holds : (op : Op) (number row : ℕ) → cond_holds one_two_three (λ entry. row) (x_is op number) ≡ x_says op number row
x_is_holds op number row = holds_compare one_two_three (λ entry. row) op (column_at 0 0) (operand.Int (pos number))

rows_by_test : (cond : Cond) (test : ℕ → Bool) → ((row : ℕ) → cond_holds one_two_three (λ entry. row) cond ≡ test row) → rows_where one_two_three cond ≡ filter test (range_with_len 0 3)
rows_by_test cond test same = filter_agree (λ row. cond_holds one_two_three (λ entry. row) cond) test same (range_with_len 0 3)

pub x_is_by_cells : (op : Op) (number : ℕ) → rows_where one_two_three (x_is op number) ≡ filter (x_says op number) (range_with_len 0 3)
x_is_by_cells op number = rows_by_test (x_is op number) (x_says op number) (x_is_holds op number)

pub not_in : rows_where one_two_three not_in_one_three ≡ 1 ∷ []
not_in = rows_by_test not_in_one_three (λ row. not (x_says op.Eq 1 row || (x_says op.Eq 3 row || false)))
    (λ row. holds_not one_two_three (λ entry. row) (Or (x_is op.Eq 1 ∷ x_is op.Eq 3 ∷ []))
    ∙ ap not (holds_or one_two_three (λ entry. row) (x_is op.Eq 1 ∷ x_is op.Eq 3 ∷ []))
    ∙ rw (x_is_holds op.Eq 1 row, x_is_holds op.Eq 3 row) refl)

pub ends_swapped : rows_where one_two_three from_three_to_one ≡ []
ends_swapped = rows_by_test from_three_to_one (λ row. x_says op.Ge 3 row && (x_says op.Le 1 row && true))
    (λ row. holds_and one_two_three (λ entry. row) (x_is op.Ge 3 ∷ x_is op.Le 1 ∷ []) ∙ rw (x_is_holds op.Ge 3 row, x_is_holds op.Le 1 row) refl)

pub thrice : rows_where one_two_three (Or (x_is op.Eq 2 ∷ x_is op.Eq 2 ∷ x_is op.Eq 2 ∷ [])) ≡ 1 ∷ []
thrice = rows_by_test (Or (x_is op.Eq 2 ∷ x_is op.Eq 2 ∷ x_is op.Eq 2 ∷ [])) (λ row. x_says op.Eq 2 row || (x_says op.Eq 2 row || (x_says op.Eq 2 row || false)))
    (λ row. holds_or one_two_three (λ entry. row) (x_is op.Eq 2 ∷ x_is op.Eq 2 ∷ x_is op.Eq 2 ∷ []) ∙ rw (x_is_holds op.Eq 2 row) refl)

-- ---- the triangle

abbrev T : Tables
T = tables_of triangle_tables

abbrev equal : (ℕ → ℕ) → ℕ → ℕ → ℕ → ℕ → Bool
equal row_of a i b j = comparison_holds T row_of op.Eq (column_at a i) (column_at b j)

triangle_says : (row_of : ℕ → ℕ) → query_holds triangle T row_of ≡ (equal row_of 0 0 1 0 && (equal row_of 1 1 2 0 && (equal row_of 2 1 0 1 && true)))
triangle_says row_of =
    rw (holds_compare T row_of op.Eq (column_at 0 0) (column_at 1 0), holds_compare T row_of op.Eq (column_at 1 1) (column_at 2 0), holds_compare T row_of op.Eq (column_at 2 1) (column_at 0 1)) refl

pub triangle_chosen : chosen triangle T ≡ (0 ∷ 0 ∷ 0 ∷ []) ∷ (0 ∷ 1 ∷ 1 ∷ []) ∷ (1 ∷ 0 ∷ 2 ∷ []) ∷ (2 ∷ 2 ∷ 0 ∷ []) ∷ []
triangle_chosen = filter_agree (λ choice. query_holds triangle T (slice_index choice))
    (λ choice. equal (slice_index choice) 0 0 1 0 && (equal (slice_index choice) 1 1 2 0 && (equal (slice_index choice) 2 1 0 1 && true)))
    (λ choice. triangle_says (slice_index choice)) (choices_of (row_counts T) (entries_of triangle))

pub triangle_answer : answer triangle T ≡ (Int (pos 1) ∷ Int (pos 1) ∷ Int (pos 1) ∷ []) ∷ (Int (pos 1) ∷ Int (pos 2) ∷ Int (pos 1) ∷ []) ∷ (Int (pos 1) ∷ Int (pos 1) ∷ Int (pos 2) ∷ []) ∷ (Int (pos 2) ∷ Int (pos 1) ∷ Int (pos 1) ∷ []) ∷ []
triangle_answer = ap (map (λ choice. selected triangle T (slice_index choice))) triangle_chosen

-- ---- the triangle's database

is_column : (from column : ℕ) → from < 3 → column < 2 → IsColumnOf triangle_tables (record { from = from; column = column })
is_column zero column low within = record { entry = omega arith; exists = within }
is_column (suc zero) column low within = record { entry = omega arith; exists = within }
is_column (suc (suc zero)) column low within = record { entry = omega arith; exists = within }
is_column (suc (suc (suc from))) column low within = absurd (omega arith)

is_number : (from column : ℕ) → from < 3 → column < 2 → IsColumnOfKind triangle_tables (record { from = from; column = column }) false
is_number from zero low within = record { exists = is_column from zero low within; kind = first from low }
  where
    first : (from : ℕ) → from < 3 → option_map is_text (slice_get (cells_of triangle_tables from).kinds 0) ≡ Some false
    first zero low = refl
    first (suc zero) low = refl
    first (suc (suc zero)) low = refl
    first (suc (suc (suc from))) low = absurd (omega arith)
is_number from (suc zero) low within = record { exists = is_column from (suc zero) low within; kind = second from low }
  where
    second : (from : ℕ) → from < 3 → option_map is_text (slice_get (cells_of triangle_tables from).kinds 1) ≡ Some false
    second zero low = refl
    second (suc zero) low = refl
    second (suc (suc zero)) low = refl
    second (suc (suc (suc from))) low = absurd (omega arith)
is_number from (suc (suc column)) low within = absurd (omega arith)

equality : (a i b j : ℕ) → a < 3 → i < 2 → b < 3 → j < 2 → IsWellTyped triangle_tables (Compare op.Eq (column_at a i) (column_at b j))
equality a i b j la li lb lj =
    same_kinds_are_well_typed triangle_tables op.Eq (column_at a i) (column_at b j) (record { text = false; left_kind = is_number a i la li; right_kind = is_number b j lb lj })

numbers_fit : (a b c : ℕ) → a < 3 → b < 3 → c < 3 → All (λ n. n < 2 ^ 64) (a ∷ b ∷ c ∷ [])
numbers_fit a b c la lb lc = All-from_recursion (λ n. n < 2 ^ 64) (a ∷ b ∷ c ∷ []) (omega arith, (omega arith, (omega arith, tt)))

three_rows_are_cells : (first second : List ℕ) → length first ≡ 3 → length second ≡ 3 → All (λ n. n < 2 ^ 64) first → All (λ n. n < 2 ^ 64) second
    → AreCells [] (three_rows first second)
three_rows_are_cells first second h k small others = (record { height = h; cells = small }, (record { height = k; cells = others }, tt))

triangle_rows_within_limit : (entry : ℕ) → entry < 3 → row_counts (tables_of triangle_tables) entry ≤ 4000000
triangle_rows_within_limit zero low = omega arith
triangle_rows_within_limit (suc zero) low = omega arith
triangle_rows_within_limit (suc (suc zero)) low = omega arith
triangle_rows_within_limit (suc (suc (suc entry))) low = absurd (omega arith)

pub triangle_fits : IsDatabaseOf triangle triangle_tables
triangle_fits = record {
  some = omega arith;
  few = omega arith;
  conjuncts_within_limit = lit≤ tt;
  entries = refl;
  tables = record {
    cells = All-from_recursion (AreCells []) triangle_tables.cells (three_rows_are_cells (1 ∷ 1 ∷ 2 ∷ []) (1 ∷ 2 ∷ 1 ∷ []) refl refl (numbers_fit 1 1 2 (omega arith) (omega arith) (omega arith)) (numbers_fit 1 2 1 (omega arith) (omega arith) (omega arith)), (three_rows_are_cells (1 ∷ 1 ∷ 2 ∷ []) (1 ∷ 2 ∷ 1 ∷ []) refl refl (numbers_fit 1 1 2 (omega arith) (omega arith) (omega arith)) (numbers_fit 1 2 1 (omega arith) (omega arith) (omega arith)), (three_rows_are_cells (1 ∷ 2 ∷ 1 ∷ []) (1 ∷ 1 ∷ 2 ∷ []) refl refl (numbers_fit 1 2 1 (omega arith) (omega arith) (omega arith)) (numbers_fit 1 1 2 (omega arith) (omega arith) (omega arith)), tt)));
    slots = All-from_recursion (λ slot. slot < 3) (0 ∷ 1 ∷ 2 ∷ []) (omega arith, (omega arith, (omega arith, tt)));
  };
  rows_within_limit = triangle_rows_within_limit;
  same_slot = λ i j low high same. same;
  conjuncts = All-from_recursion (IsWellTyped triangle_tables) triangle.conjuncts (
    equality 0 0 1 0 (omega arith) (omega arith) (omega arith) (omega arith),
    (
      equality 1 1 2 0 (omega arith) (omega arith) (omega arith) (omega arith),
      (equality 2 1 0 1 (omega arith) (omega arith) (omega arith) (omega arith), tt),
    ),
  );
  outputs = All-from_recursion (λ out. IsColumnOf triangle_tables out.column) triangle.select
      (is_column 0 0 (omega arith) (omega arith), (is_column 1 1 (omega arith) (omega arith), (is_column 2 1 (omega arith) (omega arith), tt)));
}
