-- The number of a value is the first row that has it.
use Rattle.std.proofs.Common.{◌≡◌, ℕ, ◌+◌, ◌<◌, true, cond, not, List, [], ◌∷◌, length, get_or, pos, refl, ap, sym, ◌∙◌, arith, inl, inr}
use Rattle.std.specs.Ordering.{is_eq}
use Rattle.std.specs.declared.cmp.Ordering.{Ordering}
use Rattle.std.proofs.lemmas.Bool.{cases_lt, true≢false}
use Rattle.std.proofs.lemmas.List.Sums.{fails_before_first, passes_at_first}
use Rattle.csv_tables.specs.Values.{Value, Int}
use Rattle.table_stats.specs.Columns.{first_row, value_of_row}
use Rattle.table_stats.proofs.EqualValues.{alike_on_right, equal_symmetric, equal_transitive, is_equal}

pub same_first : (values : List Value) (a b : Value) → is_equal a b ≡ true → first_row values a ≡ first_row values b
same_first [] a b h = refl
same_first (v ∷ values) a b h =
    ap (λ (o : Ordering). cond (not (is_eq o)) (1 + first_row values a) 0) (alike_on_right a b h v)
    ∙ ap (λ (n : ℕ). cond (not (is_equal v b)) (1 + n) 0) (same_first values a b h)

pub first_row_exists : (values : List Value) (value : Value) (row : ℕ) (d : Value) → row < length values → is_equal (get_or values row d) value ≡ true
    → first_row values value < length values
first_row_exists values value row d is_below h = elim (cases_lt (first_row values value) (length values)) [
  | inl there ↦ there
  | inr past ↦ absurd (true≢false (sym h ∙ fails_before_first (λ other. is_equal other value) values row d (omega arith)))
]

pub first_has : (values : List Value) (value : Value) → first_row values value < length values → is_equal (value_of_row values (first_row values value)) value ≡ true
first_has values value there = passes_at_first (λ other. is_equal other value) values (Int (pos 0)) there

pub equal_firsts : (values : List Value) (a b : Value) → first_row values a < length values → first_row values a ≡ first_row values b → is_equal a b ≡ true
equal_firsts values a b there same =
    let at_a : is_equal (value_of_row values (first_row values a)) a ≡ true = first_has values a there in
    let also : first_row values b < length values = omega (arith, there, same) in
    let at_b : is_equal (value_of_row values (first_row values a)) b ≡ true =
    ap (λ (row : ℕ). is_equal (value_of_row values row) b) same ∙ first_has values b also in
    equal_transitive a (value_of_row values (first_row values a)) b (equal_symmetric (value_of_row values (first_row values a)) a at_a) at_b
