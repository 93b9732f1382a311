-- If a condition holds for a row, the row passes the tests that are made of the condition.
use Rattle.std.proofs.Common.{◌≡◌, ℕ, Bool, true, false, not, ◌&&◌, ◌||◌, eqb, List, [], ◌∷◌, ◌++◌, map, Option, None, Some, refl, ap, sym, ◌∙◌, subst, inl, inr}
use Rattle.std.specs.List.{AllByRecursion, cons_option, filter_map, flat_map}
use Rattle.std.specs.Ordering.{is_ne, is_lt, is_le, is_gt, is_ge}
use Rattle.std.specs.declared.cmp.Ordering.{Ordering}
use Rattle.std.specs.declared.cmp.Ordering.TheVariants.{Less, Equal, Greater}
use Rattle.std.proofs.lemmas.Bool.{cases_Bool, eqb-true, and_parts, and_from, or_right, or_left}
use Rattle.csv_tables.specs.Values.{Value, Int, Text, value_cmp}
use Rattle.query_grammar.specs.declared.tree.Op.{Op}
use Rattle.query_grammar.specs.declared.tree.Op.TheVariants as op
use Rattle.query_types.specs.declared.types.ColumnRef.{ColumnRef}
use Rattle.query_types.specs.declared.types.Operand.{Operand}
use Rattle.query_types.specs.declared.types.Operand.TheVariants as operand
use Rattle.query_types.specs.declared.types.Cond.{Cond, map-Cond, roll-Cond}
use Rattle.query_types.specs.declared.types.Cond.TheFolds.{fold-roll-Cond, ind-Cond}
use Rattle.query_types.specs.declared.types.Cond.TheOpen.{Cond-F}
use Rattle.query_types.specs.declared.types.Cond.TheOpen as layer
use Rattle.query_types.specs.Named.{entries_named, entries_of_operand, entries_step}
use Rattle.sql_meaning.specs.Conditions as meaning
use Rattle.sql_meaning.specs.Conditions.{column_value, operand_value, compares, comparison_holds, cond_holds, holds_step}
use Rattle.sql_meaning.specs.Tables.{Tables}
use Rattle.degree_sequences.specs.Degrees.{different}
use Rattle.filtered_lists.specs.Comparisons.{comparison_of, negated_operator, mirrored}
use Rattle.filtered_lists.specs.Filters.{ComparisonAnswers, Conjunction, of_range, of_answer, one_conjunction, and_more, or_more, all_of, and_answer, or_answer, of_comparison, of_comparison_or_whole, conjunction_step, conjunction_of}
use Rattle.filtered_lists.specs.Ranges.{Range, from_value, up_to_value, ranges_of, intersection_of, intersection_for_each_column, greatest_value, least_value}
use Rattle.filtered_lists.specs.Standing.{value_in_row, is_from, is_up_to, has_value, is_in_range}
use Rattle.filtered_lists.proofs.Ordered.{negated_compares, mirrored_compares, from_greatest, up_to_least}

-- for each comparison a test of an entry's rows
abbrev pub row_tests : Tables → ℕ → ComparisonAnswers (ℕ → Bool)
row_tests tables entry = record {
  whole = λ row. true;
  equal = has_value tables entry;
  range = is_in_range tables entry;
  both = λ p q row. p row && q row;
  none = λ row. false;
  either = λ p q row. p row || q row;
}

pub all_in_append : {X : Type 0} (P : X → Type 0) (xs ys : List X) → AllByRecursion P xs → AllByRecursion P ys → AllByRecursion P (xs ++ ys)
all_in_append P [] ys h k = k
all_in_append P (x ∷ xs) ys h k = (h.0, all_in_append P xs ys h.1 k)

pub all_in_front : {X : Type 0} (P : X → Type 0) (xs ys : List X) → AllByRecursion P (xs ++ ys) → AllByRecursion P xs
all_in_front P [] ys h = tt
all_in_front P (x ∷ xs) ys h = (h.0, all_in_front P xs ys h.1)

pub all_in_back : {X : Type 0} (P : X → Type 0) (xs ys : List X) → AllByRecursion P (xs ++ ys) → AllByRecursion P ys
all_in_back P [] ys h = h
all_in_back P (x ∷ xs) ys h = all_in_back P xs ys h.1

module _ (tables : Tables) (entry row : ℕ) where
  abbrev tests : ComparisonAnswers (ℕ → Bool)
  tests = row_tests tables entry

  abbrev IsIn : Range → Type 0
  IsIn range = is_in_range tables entry range row ≡ true

  abbrev Holds : (ℕ → Bool) → Type 0
  Holds test = test row ≡ true

  pub record Passes (c : Conjunction (ℕ → Bool)) : Type 0 where
    pub ranges : AllByRecursion IsIn c.ranges
    pub others : AllByRecursion Holds c.others

  passes_answer : (test : ℕ → Bool) → test row ≡ true → Passes (of_answer test)
  passes_answer test h = record { ranges = tt; others = (h, tt) }

  pub joined_passes : (cs : List (Conjunction (ℕ → Bool))) → AllByRecursion Passes cs → Passes (one_conjunction cs)
  joined_passes [] h = record { ranges = tt; others = tt }
  joined_passes (c ∷ cs) h =
      let first : Passes c = h.0 in
      let rest : Passes (one_conjunction cs) = joined_passes cs h.1 in
      record {
        ranges = all_in_append IsIn c.ranges (one_conjunction cs).ranges first.ranges rest.ranges;
        others = all_in_append Holds c.others (one_conjunction cs).others first.others rest.others;
      }

  -- ---- a row that is in each range is in the intersection of a column's ranges

  abbrev value : ℕ → Value
  value column = value_in_row tables entry column row

  abbrev HasEnd : (Value → Type 0) → Option Value → Type 0
  HasEnd P None = Unit {0}
  HasEnd P (Some end) = P end

  one_more_end : (P : Value → Type 0) (end : Option Value) (ends : List Value) → HasEnd P end → AllByRecursion P ends → AllByRecursion P (cons_option end ends)
  one_more_end P None ends h k = k
  one_more_end P (Some end) ends h k = (h, k)

  ends_hold : (P : Value → Type 0) (end : Range → Option Value) (column : ℕ) (ranges : List Range)
      → AllByRecursion (λ range. range.column ≡ column → HasEnd P (end range)) ranges → AllByRecursion P (filter_map end (ranges_of column ranges))
  ends_hold P end column [] h = tt
  ends_hold P end column (range ∷ ranges) h = elim (cases_Bool (eqb range.column column)) [
    | inl t ↦ rw t (one_more_end P (end range) (filter_map end (ranges_of column ranges)) (h.0 (eqb-true range.column column t)) (ends_hold P end column ranges h.1))
    | inr n ↦ rw n (ends_hold P end column ranges h.1)
  ]

  low_end : (v : Value) (low : Option Value) → is_from low v ≡ true → HasEnd (λ end. is_from (Some end) v ≡ true) low
  low_end v None h = tt
  low_end v (Some low) h = h

  high_end : (v : Value) (high : Option Value) → is_up_to high v ≡ true → HasEnd (λ end. is_up_to (Some end) v ≡ true) high
  high_end v None h = tt
  high_end v (Some high) h = h

  low_ends_hold : (column : ℕ) (ranges : List Range) → AllByRecursion IsIn ranges
      → AllByRecursion (λ range. range.column ≡ column → HasEnd (λ end. is_from (Some end) (value column) ≡ true) range.low) ranges
  low_ends_hold column [] h = tt
  low_ends_hold column (range ∷ ranges) h = (
    λ same. low_end (value column) range.low (subst (λ c. is_from range.low (value c) ≡ true) same (and_parts (is_from range.low (value range.column)) (is_up_to range.high (value range.column)) h.0).0),
    low_ends_hold column ranges h.1,
  )

  high_ends_hold : (column : ℕ) (ranges : List Range) → AllByRecursion IsIn ranges
      → AllByRecursion (λ range. range.column ≡ column → HasEnd (λ end. is_up_to (Some end) (value column) ≡ true) range.high) ranges
  high_ends_hold column [] h = tt
  high_ends_hold column (range ∷ ranges) h = (
    λ same. high_end (value column) range.high (subst (λ c. is_up_to range.high (value c) ≡ true) same (and_parts (is_from range.low (value range.column)) (is_up_to range.high (value range.column)) h.0).1),
    high_ends_hold column ranges h.1,
  )

  in_intersection : (ranges : List Range) (column : ℕ) → AllByRecursion IsIn ranges → IsIn (intersection_of ranges column)
  in_intersection ranges column h =
      let low : Option Value = greatest_value (filter_map (λ range. range.low) (ranges_of column ranges)) in
      let high : Option Value = least_value (filter_map (λ range. range.high) (ranges_of column ranges)) in
      and_from (is_from low (value column)) (is_up_to high (value column))
      (from_greatest (value column) (filter_map (λ range. range.low) (ranges_of column ranges)) (ends_hold (λ end. is_from (Some end) (value column) ≡ true) (λ range. range.low) column ranges (low_ends_hold column ranges h)))
      (up_to_least (value column) (filter_map (λ range. range.high) (ranges_of column ranges)) (ends_hold (λ end. is_up_to (Some end) (value column) ≡ true) (λ range. range.high) column ranges (high_ends_hold column ranges h)))

  -- ---- the AND and the OR of tests

  and_more_passes : (t : ℕ → Bool) (ts : List (ℕ → Bool)) → t row ≡ true → AllByRecursion Holds ts → and_more tests t ts row ≡ true
  and_more_passes t [] r h = r
  and_more_passes t (u ∷ ts) r h = and_more_passes (λ row. t row && u row) ts (and_from (t row) (u row) r h.0) h.1

  all_pass : (ts : List (ℕ → Bool)) → AllByRecursion Holds ts → all_of tests ts row ≡ true
  all_pass [] h = refl
  all_pass (t ∷ ts) h = and_more_passes t ts h.0 h.1

  or_more_keeps_passing : (t : ℕ → Bool) (ts : List (ℕ → Bool)) → t row ≡ true → or_more tests t ts row ≡ true
  or_more_keeps_passing t [] h = h
  or_more_keeps_passing t (u ∷ ts) h = or_more_keeps_passing (λ row. t row || u row) ts (or_left (t row) (u row) h)

  pub and_passes : (c : Conjunction (ℕ → Bool)) → Passes c → and_answer tests c row ≡ true
  and_passes c h = all_pass (c.others ++ map tests.range (intersection_for_each_column c.ranges))
      (all_in_append Holds c.others (map tests.range (intersection_for_each_column c.ranges)) h.others (each (different (map (λ range. range.column) c.ranges))))
    where
      each : (columns : List ℕ) → AllByRecursion Holds (map tests.range (map (intersection_of c.ranges) columns))
      each [] = tt
      each (column ∷ columns) = (in_intersection c.ranges column h.ranges, each columns)

  -- ---- comparisons with a literal

  below_or_above : (order : Ordering) → is_ne order ≡ true → ((true && is_le order) || (is_ge order && true)) ≡ true
  below_or_above Less h = refl
  below_or_above Equal h = cc
  below_or_above Greater h = refl

  lt_le : (order : Ordering) → is_lt order ≡ true → is_le order ≡ true
  lt_le Less h = refl
  lt_le Equal h = cc
  lt_le Greater h = cc

  gt_ge : (order : Ordering) → is_gt order ≡ true → (is_ge order && true) ≡ true
  gt_ge Less h = cc
  gt_ge Equal h = cc
  gt_ge Greater h = refl

  ge_ge : (order : Ordering) → is_ge order ≡ true → (is_ge order && true) ≡ true
  ge_ge Less h = cc
  ge_ge Equal h = refl
  ge_ge Greater h = refl

  passes_range : (range : Range) → IsIn range → Passes (of_range range)
  passes_range range h = record { ranges = (h, tt); others = tt }

  comparison_passes : (o : Op) (column : ℕ) (literal : Value) → compares o (value_cmp (value column) literal) ≡ true → Passes (of_comparison tests o column literal)
  comparison_passes op.Eq column literal h = passes_answer (has_value tables entry column literal) h
  comparison_passes op.Ne column literal h =
      passes_answer (λ row. is_in_range tables entry (up_to_value column literal) row || is_in_range tables entry (from_value column literal) row) (below_or_above (value_cmp (value column) literal) h)
  comparison_passes op.Lt column literal h = passes_range (up_to_value column literal) (lt_le (value_cmp (value column) literal) h)
  comparison_passes op.Le column literal h = passes_range (up_to_value column literal) h
  comparison_passes op.Gt column literal h = passes_range (from_value column literal) (gt_ge (value_cmp (value column) literal) h)
  comparison_passes op.Ge column literal h = passes_range (from_value column literal) (ge_ge (value_cmp (value column) literal) h)

  column_is : (column : ColumnRef) → column.from ≡ entry → column_value tables (λ e. row) column ≡ value column.column
  column_is column same = ap (λ (from : ℕ). column_value tables (λ e. row) (record { from = from; column = column.column })) same

  left_column : (o : Op) (column : ColumnRef) (literal : Value) → column.from ≡ entry → compares o (value_cmp (column_value tables (λ e. row) column) literal) ≡ true
      → Passes (of_comparison tests o column.column literal)
  left_column o column literal same h = comparison_passes o column.column literal (ap (λ (v : Value). compares o (value_cmp v literal)) (sym (column_is column same)) ∙ h)

  right_column : (o : Op) (column : ColumnRef) (literal : Value) → column.from ≡ entry → compares o (value_cmp literal (column_value tables (λ e. row) column)) ≡ true
      → Passes (of_comparison tests (mirrored o) column.column literal)
  right_column o column literal same h = left_column (mirrored o) column literal same (mirrored_compares o literal (column_value tables (λ e. row) column) ∙ h)

  whole_passes : Passes (of_answer tests.whole)
  whole_passes = passes_answer (λ row. true) refl

  operands_pass : (o : Op) (left right : Operand) → AllByRecursion (λ e. e ≡ entry) (entries_of_operand left ++ entries_of_operand right)
      → comparison_holds tables (λ e. row) o left right ≡ true → Passes (of_comparison_or_whole tests (comparison_of o left right))
  operands_pass o (operand.Column column) (operand.Int number) named h = left_column o column (Int number) named.0 h
  operands_pass o (operand.Column column) (operand.Text text) named h = left_column o column (Text text) named.0 h
  operands_pass o (operand.Column column) (operand.Column other) named h = whole_passes
  operands_pass o (operand.Int number) (operand.Column column) named h = right_column o column (Int number) named.0 h
  operands_pass o (operand.Int number) (operand.Int other) named h = whole_passes
  operands_pass o (operand.Int number) (operand.Text text) named h = whole_passes
  operands_pass o (operand.Text text) (operand.Column column) named h = right_column o column (Text text) named.0 h
  operands_pass o (operand.Text text) (operand.Int number) named h = whole_passes
  operands_pass o (operand.Text text) (operand.Text other) named h = whole_passes

  -- ---- conditions

  abbrev is_true : Cond → Bool
  is_true c = cond_holds tables (λ e. row) c

  -- What the induction over conditions proves: if the condition holds for the row, the row passes the tests made of the condition. Otherwise the
  -- row passes the tests made of the condition's opposite
  abbrev PassesIfHolds : Cond → Type 0
  PassesIfHolds c = AllByRecursion (λ e. e ≡ entry) (entries_named c) → (truth : Bool) → is_true c ≡ truth → Passes (conjunction_of tests c truth)

  abbrev NameOnlyTheEntry : List ((c : Cond) × PassesIfHolds c) → Type 0
  NameOnlyTheEntry ys = AllByRecursion (λ e. e ≡ entry) (flat_map (λ inner. inner) (map entries_named (map (λ y. y.0) ys)))

  abbrev member_conjunctions : List ((c : Cond) × PassesIfHolds c) → Bool → List (Conjunction (ℕ → Bool))
  member_conjunctions ys truth = map (λ member. member truth) (map (conjunction_of tests) (map (λ y. y.0) ys))

  first_named : (y : (c : Cond) × PassesIfHolds c) (ys : List ((c : Cond) × PassesIfHolds c)) → NameOnlyTheEntry (y ∷ ys) → AllByRecursion (λ e. e ≡ entry) (entries_named y.0)
  first_named y ys named = all_in_front (λ e. e ≡ entry) (entries_named y.0) (flat_map (λ inner. inner) (map entries_named (map (λ y. y.0) ys))) named

  rest_named : (y : (c : Cond) × PassesIfHolds c) (ys : List ((c : Cond) × PassesIfHolds c)) → NameOnlyTheEntry (y ∷ ys) → NameOnlyTheEntry ys
  rest_named y ys named = all_in_back (λ e. e ≡ entry) (entries_named y.0) (flat_map (λ inner. inner) (map entries_named (map (λ y. y.0) ys))) named

  each_true : (ys : List ((c : Cond) × PassesIfHolds c)) → NameOnlyTheEntry ys → meaning.all_of (map is_true (map (λ y. y.0) ys)) ≡ true → AllByRecursion Passes (member_conjunctions ys true)
  each_true [] named h = tt
  each_true (y ∷ ys) named h =
      let parts = and_parts (is_true y.0) (meaning.all_of (map is_true (map (λ y. y.0) ys))) h in
      (y.1 (first_named y ys named) true parts.0, each_true ys (rest_named y ys named) parts.1)

  some_false : (so_far : ℕ → Bool) (ys : List ((c : Cond) × PassesIfHolds c)) → NameOnlyTheEntry ys → meaning.all_of (map is_true (map (λ y. y.0) ys)) ≡ false
      → or_more tests so_far (map (and_answer tests) (member_conjunctions ys false)) row ≡ true
  some_false so_far [] named h = cc
  some_false so_far (y ∷ ys) named h =
      let here : ℕ → Bool = and_answer tests (conjunction_of tests y.0 false) in
      elim (cases_Bool (is_true y.0)) [
        | inl t ↦ some_false (λ row. so_far row || here row) ys (rest_named y ys named) (rw t at h)
        | inr n ↦ or_more_keeps_passing (λ row. so_far row || here row) (map (and_answer tests) (member_conjunctions ys false))
            (or_right (so_far row) (here row) (and_passes (conjunction_of tests y.0 false) (y.1 (first_named y ys named) false n)))
      ]

  some_true : (so_far : ℕ → Bool) (ys : List ((c : Cond) × PassesIfHolds c)) → NameOnlyTheEntry ys → meaning.any_of (map is_true (map (λ y. y.0) ys)) ≡ true
      → or_more tests so_far (map (and_answer tests) (member_conjunctions ys true)) row ≡ true
  some_true so_far [] named h = cc
  some_true so_far (y ∷ ys) named h =
      let here : ℕ → Bool = and_answer tests (conjunction_of tests y.0 true) in
      elim (cases_Bool (is_true y.0)) [
        | inl t ↦ or_more_keeps_passing (λ row. so_far row || here row) (map (and_answer tests) (member_conjunctions ys true))
            (or_right (so_far row) (here row) (and_passes (conjunction_of tests y.0 true) (y.1 (first_named y ys named) true t)))
        | inr n ↦ some_true (λ row. so_far row || here row) ys (rest_named y ys named) (rw n at h)
      ]

  each_false : (ys : List ((c : Cond) × PassesIfHolds c)) → NameOnlyTheEntry ys → meaning.any_of (map is_true (map (λ y. y.0) ys)) ≡ false → AllByRecursion Passes (member_conjunctions ys false)
  each_false [] named h = tt
  each_false (y ∷ ys) named h = elim (cases_Bool (is_true y.0)) [
    | inl t ↦ (let no : true ≡ false = rw t at h in absurd (cc))
    | inr n ↦ (y.1 (first_named y ys named) false n, each_false ys (rest_named y ys named) (rw n at h))
  ]

  value_of_negation : (b truth : Bool) → not b ≡ truth → b ≡ not truth
  value_of_negation true true h = cc
  value_of_negation true false h = refl
  value_of_negation false true h = refl
  value_of_negation false false h = cc

  passes_by_layer : (y : Cond-F ((c : Cond) × PassesIfHolds c))
      → AllByRecursion (λ e. e ≡ entry) (entries_step (map-Cond Cond (List ℕ) entries_named (map-Cond ((c : Cond) × PassesIfHolds c) Cond (λ e. e.0) y)))
      → (truth : Bool) → holds_step tables (λ e. row) (map-Cond Cond Bool is_true (map-Cond ((c : Cond) × PassesIfHolds c) Cond (λ e. e.0) y)) ≡ truth
      → Passes (conjunction_step tests (map-Cond Cond (Bool → Conjunction (ℕ → Bool)) (conjunction_of tests) (map-Cond ((c : Cond) × PassesIfHolds c) Cond (λ e. e.0) y)) truth)
  passes_by_layer (layer.And ys) named true h = joined_passes (member_conjunctions ys true) (each_true ys named h)
  passes_by_layer (layer.And ys) named false h = passes_answer (or_answer tests (member_conjunctions ys false)) (some_false tests.none ys named h)
  passes_by_layer (layer.Or ys) named true h = passes_answer (or_answer tests (member_conjunctions ys true)) (some_true tests.none ys named h)
  passes_by_layer (layer.Or ys) named false h = joined_passes (member_conjunctions ys false) (each_false ys named h)
  passes_by_layer (layer.Not y) named true h = y.1 named false (value_of_negation (is_true y.0) true h)
  passes_by_layer (layer.Not y) named false h = y.1 named true (value_of_negation (is_true y.0) false h)
  passes_by_layer (layer.Compare o left right) named true h = operands_pass o left right named h
  passes_by_layer (layer.Compare o left right) named false h = operands_pass (negated_operator o) left right named
      (negated_compares o (value_cmp (operand_value tables (λ e. row) left) (operand_value tables (λ e. row) right)) h)

  pub passes_if_holds : (c : Cond) → PassesIfHolds c
  passes_if_holds = ind-Cond PassesIfHolds (λ x y is. subst (λ x. PassesIfHolds (roll-Cond x)) is (λ named truth h.
      let inner : Cond-F Cond = map-Cond ((c : Cond) × PassesIfHolds c) Cond (λ e. e.0) y in
      subst (λ (f : Bool → Conjunction (ℕ → Bool)). Passes (f truth)) (sym (fold-roll-Cond (Bool → Conjunction (ℕ → Bool)) (conjunction_step tests) inner))
      (passes_by_layer y (subst (AllByRecursion (λ e. e ≡ entry)) (fold-roll-Cond (List ℕ) entries_step inner) named) truth
      (sym (fold-roll-Cond Bool (holds_step tables (λ e. row)) inner) ∙ h))))
