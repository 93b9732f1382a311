-- If the right table has each key at most `repeats` times, a join has at most `repeats` rows for each row of the left table.
use Rattle.std.proofs.Common.{◌≡◌, ℕ, zero, suc, ◌+◌, ◌-◌, ◌*◌, ◌/◌, ◌%◌, ◌<◌, ◌≤◌, ◌^◌, Bool, true, false, not, eqb, ◌||◌, Option, Some, None, List, [], ◌∷◌, ◌++◌, length, map, get_or, refl, ap, sym, ◌∙◌, subst, arith, inl, inr}
use Rattle.std.specs.Prelude.{All, IsUtf8}
use Rattle.std.specs.List.{filter, range_with_len, AllByRecursion, count_by}
use Rattle.std.proofs.lemmas.Bool.{and_parts, cases_Bool, cases_lt, eqb-true}
use Rattle.std.proofs.lemmas.List.{get_or-map, length-append, length-map}
use Rattle.std.proofs.lemmas.List.Elements.{All-from_recursion, All-map, filter-append, recursion_from_All}
use Rattle.std.proofs.lemmas.List.FromFn.{get_or-range_with_len, length-range_with_len}
use Rattle.std.proofs.lemmas.List.Sums.{count_by-le-length, length-filter}
use Rattle.std.proofs.lemmas.Nat.{div-add-mod'}
use Rattle.std.proofs.Math.Nat.{mul-suc, suc-mul}
use Rattle.csv_tables.specs.declared.types.Database.{Database}
use Rattle.query_grammar.specs.declared.tree.Op.{Op}
use Rattle.query_grammar.specs.declared.tree.Op.TheVariants as op
use Rattle.query_types.specs.declared.types.ColumnRef.{ColumnRef}
use Rattle.query_types.specs.declared.types.Operand.TheVariants as operand
use Rattle.query_types.specs.declared.types.Query.{Query}
use Rattle.sql_meaning.specs.Answers.{conjuncts_of}
use Rattle.sql_meaning.specs.Choices.{extended, IsChoiceOf}
use Rattle.sql_meaning.specs.Conditions.{cond_holds}
use Rattle.sql_meaning.specs.Databases.{AreCells, IsWellTyped, IsColumnOf, IsColumnOfKind, IsDatabaseOf}
use Rattle.sql_meaning.specs.Levels.{completed_hold, passes_own, row_in, Conjunct}
use Rattle.sql_meaning.specs.Tables.{row_counts, tables_of}
use Rattle.sql_meaning.proofs.AskFacts.{depend_on_named}
use Rattle.sql_meaning.proofs.LevelFacts.{next_level_over}
use Rattle.sql_meaning.proofs.LoopFacts.{rows_are}
use Rattle.sql_meaning.proofs.NamedFacts.{same_kinds_are_well_typed}
use Rattle.join_steps.specs.declared.join_keys.JoinKey.{JoinKey}
use Rattle.join_steps.specs.Lists.{list_at, scan_of, scans_of, IsOfScan}
use Rattle.join_steps.specs.Sides.{spans_both_sides}
use Rattle.join_steps.proofs.KeyFacts.{key_holds, sides_between, IsKeyOf}
use Rattle.join_steps.proofs.ListedRows.{range_is_below, of_scan, list_passes_own, listed_rows_exist}
use Rattle.join_steps.proofs.WholeScans.{weaken_each, scans_are_of_scans}
use Rattle.plans.specs.declared.bushy.BushyPlan.{BushyPlan}
use Rattle.plans.specs.TreePlans.{IsTreePlan}
use Rattle.tree_rows.specs.Rooms.{bound_at, BoundsFitBuffers}
use Rattle.bushy_join.specs.Trees.{chosen_rows, node_rows, IsTreePlanOf}
use Rattle.bushy_join.proofs.LeafRows.{at_most_listed_rows, leaf_fits}
use Rattle.bushy_join.proofs.Running.{are_choices}
use Rattle.bench_joins.specs.Tables.{compared, join_of, each_repeated, plan_of, table_of, tables_of_two, AreNumbers}

-- ---- how many rows have a key

-- suppose that only numbers from a to below a + m pass a test. Then at most a + m - s of the numbers from s on pass it
numbers_that_pass_in_range : (p : ℕ → Bool) (a m : ℕ) → ((x : ℕ) → p x ≡ true → (a ≤ x) × (x < a + m)) → (n s : ℕ) → a ≤ s → length (filter p (range_with_len s n)) ≤ a + m - s
numbers_that_pass_in_range p a m near zero s low = omega arith
numbers_that_pass_in_range p a m near (suc n) s low =
    let rest : length (filter p (range_with_len (s + 1) n)) ≤ a + m - (s + 1) = numbers_that_pass_in_range p a m near n (s + 1) (omega arith) in
    elim (cases_Bool (p s)) [
      | inl hit ↦ (let there = near s hit in
          let is : length (filter p (range_with_len s (suc n))) ≡ suc (length (filter p (range_with_len (s + 1) n))) = rw hit refl in
          omega (arith, is, rest, there.1))
      | inr miss ↦ (let is : length (filter p (range_with_len s (suc n))) ≡ length (filter p (range_with_len (s + 1) n)) = rw miss refl in omega (arith, is, rest))
    ]

numbers_that_pass_are_at_most : (p : ℕ → Bool) (a m : ℕ) → ((x : ℕ) → p x ≡ true → (a ≤ x) × (x < a + m)) → (n s : ℕ) → length (filter p (range_with_len s n)) ≤ m
numbers_that_pass_are_at_most p a m near zero s = omega arith
numbers_that_pass_are_at_most p a m near (suc n) s = elim (cases_lt s a) [
  | inl low ↦ elim (cases_Bool (p s)) [
    | inl hit ↦ (let there = near s hit in absurd (omega (arith, there.0)))
    | inr miss ↦ (let is : length (filter p (range_with_len s (suc n))) ≡ length (filter p (range_with_len (s + 1) n)) = rw miss refl in
        let rest : length (filter p (range_with_len (s + 1) n)) ≤ m = numbers_that_pass_are_at_most p a m near n (s + 1) in omega (arith, is, rest))
  ]
  | inr high ↦ (let rest : length (filter p (range_with_len s (suc n))) ≤ a + m - s = numbers_that_pass_in_range p a m near (suc n) s high in omega (arith, rest))
]

-- if a row of `each_repeated` has a key, its row number is from key * times to below key * times + times
rows_with_key_are_in_range : (key repeats row : ℕ) → 0 < repeats → eqb (row / repeats) key ≡ true → (key * repeats ≤ row) × (row < key * repeats + repeats)
rows_with_key_are_in_range key repeats row some hit =
    let same : row / repeats ≡ key = eqb-true (row / repeats) key hit in
    let whole : row / repeats * repeats + row % repeats ≡ row = div-add-mod' row repeats in
    let at : key * repeats + row % repeats ≡ row = ap (λ (q : ℕ). q * repeats + row % repeats) (sym same) ∙ whole in
    let less : row % repeats < repeats = omega arith in
    (omega (arith, at), omega (arith, at, less))

filter_agree_on : (p q : ℕ → Bool) (xs : List ℕ) → AllByRecursion (λ x. p x ≡ q x) xs → filter p xs ≡ filter q xs
filter_agree_on p q [] same = refl
filter_agree_on p q (x ∷ xs) same = rw (same.0, filter_agree_on p q xs same.1) refl

repeated_at : (rows repeats row : ℕ) → row < rows → get_or (each_repeated rows repeats) row 0 ≡ row / repeats
repeated_at rows repeats row low =
    get_or-map (λ r. r / repeats) (range_with_len 0 rows) row 0 0 (omega (arith, length-range_with_len 0 rows))
    ∙ ap (λ (r : ℕ). r / repeats) (get_or-range_with_len 0 rows row 0 low ∙ omega arith)

filtered_twice : (p q : ℕ → Bool) (xs : List ℕ) → length (filter p (filter q xs)) ≤ length (filter p xs)
filtered_twice p q [] = omega arith
filtered_twice p q (x ∷ xs) =
    let rest : length (filter p (filter q xs)) ≤ length (filter p xs) = filtered_twice p q xs in
    elim (cases_Bool (q x)) [
      | inl good ↦ elim (cases_Bool (p x)) [
        | inl hit ↦ rw (good, hit) (omega (arith, rest))
        | inr miss ↦ rw (good, miss) rest
      ]
      | inr bad ↦ elim (cases_Bool (p x)) [
        | inl hit ↦ rw (bad, hit) (omega (arith, rest))
        | inr miss ↦ rw (bad, miss) rest
      ]
    ]

-- of the rows that pass a test `own`, at most `repeats` rows have the key
at_most_times_rows_have_key : (rows repeats key : ℕ) (own : ℕ → Bool) → 0 < repeats → length (filter (λ row. eqb (get_or (each_repeated rows repeats) row 0) key) (filter own (range_with_len 0 rows))) ≤ repeats
at_most_times_rows_have_key rows repeats key own some =
    let p : ℕ → Bool = λ row. eqb (get_or (each_repeated rows repeats) row 0) key in
    let q : ℕ → Bool = λ row. eqb (row / repeats) key in
    let same : filter p (range_with_len 0 rows) ≡ filter q (range_with_len 0 rows) =
    filter_agree_on p q (range_with_len 0 rows) (weaken_each (λ x. x < rows) (λ x. p x ≡ q x) (λ x low. ap (λ (n : ℕ). eqb n key) (repeated_at rows repeats x low)) (range_with_len 0 rows) (range_is_below 0 rows rows (omega arith))) in
    let few : length (filter q (range_with_len 0 rows)) ≤ repeats = numbers_that_pass_are_at_most q (key * repeats) repeats (λ x hit. rows_with_key_are_in_range key repeats x some hit) rows 0 in
    omega (arith, filtered_twice p own (range_with_len 0 rows), ap (λ (s : List ℕ). length s) same, few)

-- ---- how many rows continue each choice of the level before

-- Suppose that a row passes `q` whenever the choice with this row at its end passes `p`. Then the longer choices that pass `p` are at most as many as
-- the rows of the list that pass `q`
continuations_are_at_most_rows : (p : List ℕ → Bool) (q : ℕ → Bool) (Q : ℕ → Type 0) (choice : List ℕ) → ((row : ℕ) → Q row → p (choice ++ row ∷ []) ≡ true → q row ≡ true) → (list : List ℕ) → AllByRecursion Q list
    → length (filter p (map (λ row. choice ++ row ∷ []) list)) ≤ length (filter q list)
continuations_are_at_most_rows p q Q choice only [] all = omega arith
continuations_are_at_most_rows p q Q choice only (row ∷ list) all =
    let rest : length (filter p (map (λ row. choice ++ row ∷ []) list)) ≤ length (filter q list) = continuations_are_at_most_rows p q Q choice only list all.1 in
    elim (cases_Bool (p (choice ++ row ∷ []))) [
      | inl hit ↦ rw (hit, only row all.0 hit) (omega (arith, rest))
      | inr miss ↦ elim (cases_Bool (q row)) [
        | inl good ↦ rw (miss, good) (omega (arith, rest))
        | inr bad ↦ rw (miss, bad) rest
      ]
    ]

continuations_of_all_are_at_most : (p : List ℕ → Bool) (list : List ℕ) (repeats : ℕ) (P : List ℕ → Type 0) → ((choice : List ℕ) → P choice → length (filter p (map (λ row. choice ++ row ∷ []) list)) ≤ repeats) → (above : List (List ℕ)) → AllByRecursion P above
    → length (filter p (extended above list)) ≤ repeats * length above
continuations_of_all_are_at_most p list repeats P each [] all = omega arith
continuations_of_all_are_at_most p list repeats P each (choice ∷ above) all =
    let rest : length (filter p (extended above list)) ≤ repeats * length above = continuations_of_all_are_at_most p list repeats P each above all.1 in
    let splits : length (filter p (extended (choice ∷ above) list)) ≡ length (filter p (map (λ row. choice ++ row ∷ []) list)) + length (filter p (extended above list)) =
    ap (λ (s : List (List ℕ)). length s) (filter-append p (map (λ row. choice ++ row ∷ []) list) (extended above list)) ∙ length-append (filter p (map (λ row. choice ++ row ∷ []) list)) (filter p (extended above list)) in
    let product : repeats * suc (length above) ≡ repeats * length above + repeats = mul-suc repeats (length above) in
    omega (arith, splits, rest, each choice all.0, product)

le_product : (a n : ℕ) → 0 < n → a ≤ a * n
le_product a zero some = absurd (omega arith)
le_product a (suc n) some = let is : a * suc n ≡ a * n + a = mul-suc a n in omega (arith, is)

product_keeps_order : (n a b : ℕ) → a ≤ b → n * a ≤ n * b
product_keeps_order zero a b low = omega arith
product_keeps_order (suc n) a b low =
    let rest : n * a ≤ n * b = product_keeps_order n a b low in
    let one : suc n * a ≡ n * a + a = suc-mul n a in
    let other : suc n * b ≡ n * b + b = suc-mul n b in
    omega (arith, rest, one, other, low)

at_most_transitive : (a b c : ℕ) → a ≤ b → b ≤ c → a ≤ c
at_most_transitive a b c low lower = omega (arith, low, lower)

-- ---- the two tables

module _ (left right repeats : ℕ) (comparison : Option Op) (left_keys left_values right_values : List ℕ) (are_left_keys : AreNumbers left left_keys) (are_left_values : AreNumbers left left_values) (are_right_values : AreNumbers right right_values) (some : 0 < repeats) (few_right : right ≤ 4000000) (few_left : left ≤ 4000000) where
  abbrev db : Database
  db = tables_of_two (table_of left left_keys left_values) (table_of right (each_repeated right repeats) right_values)

  abbrev q : Query
  q = join_of comparison

  abbrev conjuncts : List Conjunct
  conjuncts = conjuncts_of q (tables_of db)

  abbrev col : ℕ → ℕ → ColumnRef
  col from column = record { from = from; column = column }

  is_column : (from column : ℕ) → from < 2 → column < 2 → IsColumnOf db (col from column)
  is_column zero column low within = record { entry = omega arith; exists = within }
  is_column (suc zero) column low within = record { entry = omega arith; exists = within }
  is_column (suc (suc from)) column low within = absurd (omega arith)

  column_is_of_numbers : (from column : ℕ) → from < 2 → column < 2 → IsColumnOfKind db (col from column) false
  column_is_of_numbers zero zero low within = record { exists = is_column 0 0 low within; kind = refl }
  column_is_of_numbers zero (suc zero) low within = record { exists = is_column 0 1 low within; kind = refl }
  column_is_of_numbers (suc zero) zero low within = record { exists = is_column 1 0 low within; kind = refl }
  column_is_of_numbers (suc zero) (suc zero) low within = record { exists = is_column 1 1 low within; kind = refl }
  column_is_of_numbers from (suc (suc column)) low within = absurd (omega arith)
  column_is_of_numbers (suc (suc from)) column low within = absurd (omega arith)

  comparison_is_well_typed : (o : Op) (column : ℕ) → column < 2 → IsWellTyped db (compared o column)
  comparison_is_well_typed o column within = same_kinds_are_well_typed db o (operand.Column (col 0 column)) (operand.Column (col 1 column)) (record { text = false; left_kind = column_is_of_numbers 0 column (omega arith) within; right_kind = column_is_of_numbers 1 column (omega arith) within })

  conjuncts_are_well_typed : (comparison : Option Op) → AllByRecursion (IsWellTyped db) (join_of comparison).conjuncts
  conjuncts_are_well_typed (Some o) = (comparison_is_well_typed op.Eq 0 (omega arith), (comparison_is_well_typed o 1 (omega arith), tt))
  conjuncts_are_well_typed None = (comparison_is_well_typed op.Eq 0 (omega arith), tt)

  conjuncts_within_limit : (comparison : Option Op) → length (join_of comparison).conjuncts ≤ 2
  conjuncts_within_limit (Some o) = omega arith
  conjuncts_within_limit None = omega arith

  quotient_is_below_2_64 : (x : ℕ) → x < right → x / repeats < 2 ^ 64
  quotient_is_below_2_64 x low = let whole : x / repeats * repeats + x % repeats ≡ x = div-add-mod' x repeats in let at_least : x / repeats ≤ x / repeats * repeats = le_product (x / repeats) repeats some in omega (arith, whole, at_least)

  are_right_keys : AreNumbers right (each_repeated right repeats)
  are_right_keys = record {
    lengths = length-map (range_with_len 0 right) (λ row. row / repeats) ∙ length-range_with_len 0 right;
    small = All-map (λ cell. cell < 2 ^ 64) (λ row. row / repeats) (range_with_len 0 right) (All-from_recursion (λ row. row / repeats < 2 ^ 64) (range_with_len 0 right) (weaken_each (λ x. x < right) (λ x. x / repeats < 2 ^ 64) quotient_is_below_2_64 (range_with_len 0 right) (range_is_below 0 right right (omega arith))));
  }

  tables_are_within_limit : (entry : ℕ) → entry < 2 → row_counts (tables_of db) entry ≤ 4000000
  tables_are_within_limit zero low = let is : row_counts (tables_of db) 0 ≡ left = rows_are db 0 in omega (arith, is, few_left)
  tables_are_within_limit (suc zero) low = let is : row_counts (tables_of db) 1 ≡ right = rows_are db 1 in omega (arith, is, few_right)
  tables_are_within_limit (suc (suc entry)) low = absurd (omega arith)

  pub fits : IsDatabaseOf q db
  fits = record {
    some = omega arith;
    few = omega arith;
    conjuncts_within_limit = omega (arith, conjuncts_within_limit comparison);
    entries = refl;
    tables = record {
      cells = All-from_recursion (AreCells []) db.cells (
        (record { height = are_left_keys.lengths; cells = are_left_keys.small }, (record { height = are_left_values.lengths; cells = are_left_values.small }, tt)),
        ((record { height = are_right_keys.lengths; cells = are_right_keys.small }, (record { height = are_right_values.lengths; cells = are_right_values.small }, tt)), tt),
      );
      slots = All-from_recursion (λ slot. slot < 2) (0 ∷ 1 ∷ []) (omega arith, (omega arith, tt));
    };
    rows_within_limit = tables_are_within_limit;
    same_slot = λ i j low high same. same;
    conjuncts = All-from_recursion (IsWellTyped db) q.conjuncts (conjuncts_are_well_typed comparison);
    outputs = All-from_recursion (λ out. IsColumnOf db out.column) q.select tt;
  }

  -- ---- how many rows there are

  scan_is_at_most_table : (entry : ℕ) → length (scan_of q db entry) ≤ row_counts (tables_of db) entry
  scan_is_at_most_table entry =
      let own : ℕ → Bool = passes_own conjuncts entry in
      let rows : List ℕ = range_with_len 0 (row_counts (tables_of db) entry) in
      omega (arith, length-filter own rows, count_by-le-length own rows, length-range_with_len 0 (row_counts (tables_of db) entry))

  first_scan : length (scan_of q db 0) ≤ left
  first_scan = omega (arith, scan_is_at_most_table 0, rows_are db 0)

  second_scan : length (scan_of q db 1) ≤ right
  second_scan = omega (arith, scan_is_at_most_table 1, rows_are db 1)

  abbrev scans : List (List ℕ)
  scans = scans_of q (tables_of db)

  scanned : (entry : ℕ) → entry < 2 → IsOfScan conjuncts (row_counts (tables_of db)) (list_at scans) entry
  scanned entry low = of_scan q (tables_of db) scans (scans_are_of_scans q (tables_of db)) entry low

  first_level : length (chosen_rows q (tables_of db) scans (0 ∷ [])) ≤ left
  first_level = omega (arith, at_most_listed_rows q (tables_of db) scans 0, first_scan)

  -- a right row that is joined with a left row has the left row's key
  has_key : (x row : ℕ) → x < row_counts (tables_of db) 0 → row < row_counts (tables_of db) 1 → completed_hold conjuncts (0 ∷ []) 1 (x ∷ row ∷ []) ≡ true → eqb (get_or (each_repeated right repeats) row 0) (get_or left_keys x 0) ≡ true
  has_key x row low_x low_row hit =
      let row_of : ℕ → ℕ = row_in (0 ∷ 1 ∷ []) (x ∷ row ∷ []) in
      let a : ColumnRef = col 0 0 in
      let b : ColumnRef = col 1 0 in
      let key : JoinKey = record { conjunct = 0; left = a; right = b } in
      let is_key : IsKeyOf (0 ∷ []) (1 ∷ []) 0 (compared op.Eq 0) key = record { conjunct = refl; on_left = refl; on_right = refl; shape = inl refl } in
      let between : spans_both_sides (0 ∷ []) (1 ∷ []) (compared op.Eq 0) ≡ true = (sides_between (0 ∷ []) (1 ∷ []) a b refl refl refl refl).0 in
      let first : (not (spans_both_sides (0 ∷ []) (1 ∷ []) (compared op.Eq 0)) || cond_holds (tables_of db) row_of (compared op.Eq 0)) ≡ true = (and_parts _ _ hit).0 in
      let holds : cond_holds (tables_of db) row_of (compared op.Eq 0) ≡ true = ap (λ b. not b || cond_holds (tables_of db) row_of (compared op.Eq 0)) (sym between) ∙ first in
      let none : All IsUtf8 [] = All-from_recursion IsUtf8 [] tt in
      sym (key_holds db row_of (0 ∷ []) (1 ∷ []) 0 (compared op.Eq 0) key is_key fits.tables (λ i j d low high same. absurd (omega arith)) none (comparison_is_well_typed op.Eq 0 (omega arith)) (omega (arith, low_x, rows_are db 0)) (omega (arith, low_row, rows_are db 1))) ∙ holds

  -- each left row is joined with at most `repeats` right rows
  matches_of_choice_are_at_most_times : (choice : List ℕ) → IsChoiceOf (row_counts (tables_of db)) (0 ∷ []) choice → length (filter (completed_hold conjuncts (0 ∷ []) 1) (map (λ row. choice ++ row ∷ []) (scan_of q db 1))) ≤ repeats
  matches_of_choice_are_at_most_times [] p = absurd p
  matches_of_choice_are_at_most_times (x ∷ y ∷ choice) p = absurd p.1
  matches_of_choice_are_at_most_times (x ∷ []) p =
      at_most_transitive (length (filter (completed_hold conjuncts (0 ∷ []) 1) (map (λ row. (x ∷ []) ++ row ∷ []) (scan_of q db 1))))
      (length (filter (λ row. eqb (get_or (each_repeated right repeats) row 0) (get_or left_keys x 0)) (scan_of q db 1))) repeats
      (continuations_are_at_most_rows (completed_hold conjuncts (0 ∷ []) 1) (λ row. eqb (get_or (each_repeated right repeats) row 0) (get_or left_keys x 0)) (λ row. row < row_counts (tables_of db) 1) (x ∷ []) (λ row low hit. has_key x row p.0 low hit)
      (scan_of q db 1) (recursion_from_All (λ row. row < row_counts (tables_of db) 1) (scan_of q db 1) (listed_rows_exist conjuncts (row_counts (tables_of db)) 1 (scan_of q db 1) (scanned 1 (omega arith)))))
      (subst (λ (n : ℕ). length (filter (λ row. eqb (get_or (each_repeated right repeats) row 0) (get_or left_keys x 0)) (filter (passes_own conjuncts 1) (range_with_len 0 n))) ≤ repeats) (sym (rows_are db 1))
      (at_most_times_rows_have_key right repeats (get_or left_keys x 0) (passes_own conjuncts 1) some))

  second_level : length (chosen_rows q (tables_of db) (scans_of q (tables_of db)) (0 ∷ 1 ∷ [])) ≤ repeats * left
  second_level =
      let above : List (List ℕ) = chosen_rows q (tables_of db) scans (0 ∷ []) in
      let next : chosen_rows q (tables_of db) scans (0 ∷ 1 ∷ []) ≡ filter (completed_hold conjuncts (0 ∷ []) 1) (extended above (scan_of q db 1)) =
      next_level_over conjuncts (list_at scans) (0 ∷ []) 1 (depend_on_named (tables_of db) q.conjuncts) refl
      ∙ ap (λ (s : List ℕ). filter (completed_hold conjuncts (0 ∷ []) 1) (extended above s)) (list_passes_own conjuncts (row_counts (tables_of db)) 1 (scan_of q db 1) (scanned 1 (omega arith))) in
      let few_all = continuations_of_all_are_at_most (completed_hold conjuncts (0 ∷ []) 1) (scan_of q db 1) repeats (IsChoiceOf (row_counts (tables_of db)) (0 ∷ [])) matches_of_choice_are_at_most_times above
      (are_choices q db scans (scans_are_of_scans q (tables_of db)) (0 ∷ []) (omega arith, tt)) in
      let few_above : length above ≤ left = first_level in
      omega (arith, ap (λ (s : List (List ℕ)). length s) next, few_all, product_keeps_order repeats (length above) left few_above)

  -- ---- the plan

  abbrev plan : BushyPlan
  plan = plan_of left right repeats

  is_tree : IsTreePlan 2 plan
  is_tree = record { few = omega arith; scans = refl; joins = refl; behind = (omega arith, omega arith, tt); once = each_once }
    where
      each_once : (node : ℕ) → node < 2 → count_by (λ other. eqb other node) (0 ∷ 1 ∷ []) ≡ 1
      each_once zero low = refl
      each_once (suc zero) low = refl
      each_once (suc (suc node)) low = absurd (omega arith)

  fits_buffers : repeats * left ≤ 20000000 → BoundsFitBuffers plan
  fits_buffers few_joined = record {
    all = record { scans = (omega arith, (omega arith, tt)); joins = (omega arith, tt) };
    rights = (omega arith, tt);
  }

  scan_fits : (entry : ℕ) → entry < 2 → length (list_at scans entry) ≤ get_or plan.scans entry 0
  scan_fits zero low = first_scan
  scan_fits (suc zero) low = second_scan
  scan_fits (suc (suc entry)) low = absurd (omega arith)

  node_fits : (node : ℕ) → node < 3 → length (node_rows q (tables_of db) scans plan node) ≤ bound_at plan node
  node_fits zero low = leaf_fits q (tables_of db) scans plan 2 is_tree scan_fits 0 (omega arith)
  node_fits (suc zero) low = leaf_fits q (tables_of db) scans plan 2 is_tree scan_fits 1 (omega arith)
  node_fits (suc (suc zero)) low = second_level
  node_fits (suc (suc (suc node))) low = absurd (omega arith)

  pub planned : repeats * left ≤ 20000000 → IsTreePlanOf (join_of comparison) (tables_of (tables_of_two (table_of left left_keys left_values) (table_of right (each_repeated right repeats) right_values)))
      (scans_of (join_of comparison) (tables_of (tables_of_two (table_of left left_keys left_values) (table_of right (each_repeated right repeats) right_values)))) (plan_of left right repeats)
  planned few_joined = record { for_each_entry = is_tree; small = fits_buffers few_joined; scans = scan_fits; nodes = node_fits }
