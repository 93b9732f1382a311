-- Bounds on how many rows are in a pair of an inner join, and on how many rows are in no pair. Outer joins add the rows that are in no pair.
use Rattle.std.proofs.Common.{◌≡◌, ◌≤◌, Bool, true, not, List, [], ◌∷◌, ◌++◌, map, length, inl, inr, arith, length-append}
use Rattle.std.specs.List.{filter, flat_map, list_any}
use Rattle.std.proofs.lemmas.Bool.{cases_Bool, false≢true}
use Rattle.std.proofs.lemmas.List.{length-map}
use Rattle.std.proofs.lemmas.List.Sums.{count_by-le-length, length-filter}
use Rattle.joined_tables.specs.Tables.{Condition, RowWithNulls, Table, inner_join, left_unpaired, left_paired, left_with_nulls, nulls, right_unpaired, right_with_nulls}

one_row_passes : (p : RowWithNulls → Bool) (rows : List RowWithNulls) → list_any p rows ≡ true → 1 ≤ length (filter p rows)
one_row_passes p [] h = absurd (false≢true h)
one_row_passes p (row ∷ rows) h = elim (cases_Bool (p row)) [
  | inl t ↦ rw t (omega arith)
  | inr n ↦ rw n (one_row_passes p rows (rw n at h))
]

filter_is_at_most_as_long : (p : RowWithNulls → Bool) (rows : List RowWithNulls) → length (filter p rows) ≤ length rows
filter_is_at_most_as_long p rows = omega (arith, length-filter p rows, count_by-le-length p rows)

paired_of : (is_true : Condition) (others rows : List RowWithNulls)
    → length (filter (λ row. list_any (is_true row) others) rows) ≤ length (flat_map (λ row. map (λ other. row ++ other) (filter (is_true row) others)) rows)
paired_of is_true others [] = omega arith
paired_of is_true others (row ∷ rows) =
    let pairs : List RowWithNulls = map (λ other. row ++ other) (filter (is_true row) others) in
    let more : List RowWithNulls = flat_map (λ row. map (λ other. row ++ other) (filter (is_true row) others)) rows in
    elim (cases_Bool (list_any (is_true row) others)) [
      | inl t ↦ rw t (
          omega (
            arith,
            length-append pairs more,
            length-map (filter (is_true row) others) (λ other. row ++ other),
            one_row_passes (is_true row) others t,
            paired_of is_true others rows,
          )
          )
      | inr n ↦ rw n (omega (arith, length-append pairs more, paired_of is_true others rows))
    ]

pub paired_within_inner_join : (is_true : Condition) (left right : Table) → length (left_paired is_true left right) ≤ length (inner_join is_true left right)
paired_within_inner_join is_true left right = paired_of is_true right.rows left.rows

pub paired_within : (is_true : Condition) (left right : Table) → length (left_paired is_true left right) ≤ length left.rows
paired_within is_true left right = filter_is_at_most_as_long (λ row. list_any (is_true row) right.rows) left.rows

pub unpaired_within_left : (is_true : Condition) (left right : Table) → length (left_unpaired is_true left right) ≤ length left.rows
unpaired_within_left is_true left right = filter_is_at_most_as_long (λ row. not (list_any (is_true row) right.rows)) left.rows

pub left_with_nulls_within : (is_true : Condition) (left right : Table) → length (left_with_nulls is_true left right) ≤ length left.rows
left_with_nulls_within is_true left right =
    omega (arith, length-map (left_unpaired is_true left right) (λ row. row ++ nulls right.columns), unpaired_within_left is_true left right)

pub right_with_nulls_within : (is_true : Condition) (left right : Table) → length (right_with_nulls is_true left right) ≤ length right.rows
right_with_nulls_within is_true left right =
    omega (
      arith,
      length-map (right_unpaired is_true left right) (λ other. nulls left.columns ++ other),
      filter_is_at_most_as_long (λ other. not (list_any (λ row. is_true row other) left.rows)) right.rows,
    )
