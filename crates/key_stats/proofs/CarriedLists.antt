-- Carried lists dominate the keys of the rows that refer to a row of the carrier's scan. Carried row bounds are at least the number of these rows.
use Rattle.std.proofs.Common.{◌≡◌, ◌↔◌, ℕ, ◌<◌, ◌≤◌, Bool, true, cond, List, [], ◌∷◌, length, map, get_or, pos, Option, None, Some, option_map, refl, ap, sym, ◌∙◌, subst, sum, arith, inl, inr}
use Rattle.std.specs.List.{Contains, cons_option, filter, filter_map, range_with_len}
use Rattle.std.proofs.Math.ListN.{get_or-map as default_map}
use Rattle.std.proofs.Math.Path.{fun_ext}
use Rattle.std.proofs.lemmas.Bool.{cases_Bool}
use Rattle.std.proofs.lemmas.List.{get_or-map, length-map}
use Rattle.std.proofs.lemmas.List.FromFn.{fill_by_all}
use Rattle.csv_tables.specs.Rows.{Row}
use Rattle.csv_tables.specs.Values.{Value, Int, value_cmp}
use Rattle.entry_sets.proofs.Listing.{in_front, in_rest}
use Rattle.std.specs.Ordering.{is_eq}
use Rattle.berge_tree.specs.declared.edges.Edge.{Edge}
use Rattle.degree_sequences.specs.Domination.{DominatesKeys}
use Rattle.degree_sequences.specs.Descending.{IsDescending}
use Rattle.query_types.specs.declared.types.Query.{Query}
use Rattle.sql_meaning.specs.Answers.{conjuncts_of, conjunct_of}
use Rattle.sql_meaning.specs.Levels.{passes_own}
use Rattle.sql_meaning.specs.Tables.{Tables, row_counts}
use Rattle.level_bounds.specs.Keys.{value_at}
use Rattle.level_bounds.proofs.Lists.{map_of_map, range_within}
use Rattle.filtered_lists.specs.Standing.{scan_of}
use Rattle.filtered_lists.proofs.Counting.{count_is_enough, list_dominates}
use Rattle.filtered_lists.proofs.Lists.{filtered_descends, sum-filtered}
use Rattle.table_stats.specs.Columns.{value_of_row}
use Rattle.table_stats.specs.Keys.{SeparatesListed, SeparatesValues}
use Rattle.table_stats.proofs.Dominating.{listed_stand}
use Rattle.table_stats.proofs.Summing.{counts_stand, listed_descend, listed_sum}
use Rattle.key_carriers.specs.Widened.{is_scanned, referred_row, referred, referring, refers_to_scanned, rows_referring, tables_at, values_at, widened, widened_row, row_pair}
use Rattle.key_stats.specs.Lists.{carried_counts, carried_list, carried_lists, carried_rows}
use Rattle.key_carriers.proofs.Referring.{referring_rows_exist}
use Rattle.key_stats.proofs.RowsThere.{own_there}

-- ---- filtered lists of the widened table

abbrev no_pair : ℕ × ℕ
no_pair = (0, 0)

filter-map : {X Y : Type 0} (p : Y → Bool) (f : X → Y) (xs : List X) → filter p (map f xs) ≡ map f (filter (λ x. p (f x)) xs)
filter-map p f [] = refl
filter-map p f (x ∷ xs) = elim (cases_Bool (p (f x))) [
  | inl passes ↦ rw (passes, filter-map p f xs) refl
  | inr fails ↦ rw (fails, filter-map p f xs) refl
]

filter_alike : (p q : ℕ → Bool) (xs : List ℕ) → ((x : ℕ) → Contains xs x → p x ≡ q x) → filter p xs ≡ filter q xs
filter_alike p q [] same = refl
filter_alike p q (x ∷ xs) same =
    ap (λ (b : Bool). cond b (x ∷ filter p xs) (filter p xs)) (same x (in_front x xs x refl))
    ∙ ap (λ (s : List ℕ). cond (q x) (x ∷ s) s) (filter_alike p q xs (λ y has. same y (in_rest x xs y has)))

of_items : {X : Type 0} (d : X) (f : X → ℕ) (p : X → Bool) (xs : List X)
    → map (λ n. f (get_or xs n d)) (filter (λ n. p (get_or xs n d)) (range_with_len 0 (length xs))) ≡ map f (filter p xs)
of_items {X = X} d f p xs =
    let at : ℕ → X = λ n. get_or xs n d in
    let places : List ℕ = range_with_len 0 (length xs) in
    sym (map_of_map f at (λ n. f (at n)) (λ n. refl) (filter (λ n. p (at n)) places))
    ∙ ap (map f) (sym (filter-map p at places) ∙ ap (filter p) (sym (fill_by_all at xs (length xs) d refl (λ n low. refl))))

module _ (query : Query) (tables : Tables) (e : Edge) where
  abbrev pairs : List (ℕ × ℕ)
  pairs = widened tables e

  abbrev passes : ℕ → Bool
  passes row = passes_own (conjuncts_of query tables) e.right.entry row

  abbrev refers : ℕ → Bool
  refers row = refers_to_scanned query tables e row

  -- ---- pairs of a referring row and the row to which it refers

  module _ (key : ℕ → ℕ) where
    one_pair : (row : ℕ) (rows : List ℕ) (o : Option ℕ)
        → map (λ pair. key pair.0) (filter (λ pair. passes pair.1) (filter_map (widened_row tables e) rows)) ≡ map key (filter refers rows)
        → map (λ pair. key pair.0) (filter (λ pair. passes pair.1) (cons_option (option_map (row_pair row) o) (filter_map (widened_row tables e) rows)))
        ≡ map key (cond (is_scanned query tables e.right.entry o) (row ∷ filter refers rows) (filter refers rows))
    one_pair row rows None ih = ih
    one_pair row rows (Some other) ih = elim (cases_Bool (passes other)) [
      | inl holds ↦ rw (holds, ih) refl
      | inr fails ↦ rw (fails, ih) refl
    ]

    of_pairs : (rows : List ℕ) → map (λ pair. key pair.0) (filter (λ pair. passes pair.1) (filter_map (widened_row tables e) rows)) ≡ map key (filter refers rows)
    of_pairs [] = refl
    of_pairs (row ∷ rows) = one_pair row rows (referred_row tables e row) (of_pairs rows)

  -- ---- the scan of the widened table

  abbrev there : Tables
  there = tables_at tables (referred tables e)

  count_there : row_counts there e.right.entry ≡ length pairs
  count_there =
      let row_at : ℕ → Row = λ row. get_or (tables e.right.entry) row [] in
      length-map (referred tables e) row_at ∙ length-map pairs (λ (pair : ℕ × ℕ). pair.1)

  scan_there : (key : ℕ → ℕ)
      → map (λ n. key (get_or (referring tables e) n 0)) (scan_of there e.right.entry query.conjuncts) ≡ map key (rows_referring query tables e)
  scan_there key =
      let places : List ℕ = range_with_len 0 (row_counts there e.right.entry) in
      let own : ℕ → Bool = passes_own (map (conjunct_of there) query.conjuncts) e.right.entry in
      let at : ℕ → ℕ × ℕ = λ n. get_or pairs n no_pair in
      ap (map (λ n. key (get_or (referring tables e) n 0)))
      (filter_alike own (λ n. passes (get_or (referred tables e) n 0)) places (λ n has.
      own_there tables (referred tables e) n (omega (arith, (range_within 0 (row_counts there e.right.entry) n has).1, count_there, length-map pairs (λ (pair : ℕ × ℕ). pair.1)))
      e.right.entry query.conjuncts))
      ∙ ap (λ (test : ℕ → Bool). map (λ n. key (get_or (referring tables e) n 0)) (filter test places)) (fun_ext (λ n. ap passes (default_map (λ (pair : ℕ × ℕ). pair.1) pairs n no_pair)))
      ∙ ap (λ (f : ℕ → ℕ). map f (filter (λ n. passes (at n).1) places)) (fun_ext (λ n. ap key (default_map (λ (pair : ℕ × ℕ). pair.0) pairs n no_pair)))
      ∙ ap (λ (count : ℕ). map (λ n. key (at n).0) (filter (λ n. passes (at n).1) (range_with_len 0 count))) count_there
      ∙ of_items no_pair (λ (pair : ℕ × ℕ). key pair.0) (λ (pair : ℕ × ℕ). passes pair.1) pairs
      ∙ of_pairs key (range_with_len 0 (row_counts tables e.left.entry))

  -- ---- the carried lists dominate the keys of the referring rows

  module _ (accuracy column : ℕ) where
    abbrev joined_values : List Value
    joined_values = values_at tables e.left.entry column (referring tables e)

    joined_length : length joined_values ≡ row_counts there e.right.entry
    joined_length =
        length-map (referring tables e) (value_at tables e.left.entry column) ∙ length-map pairs (λ (pair : ℕ × ℕ). pair.0) ∙ sym count_there

    value_there : (n : ℕ) → n < length joined_values → value_of_row joined_values n ≡ value_at tables e.left.entry column (get_or (referring tables e) n 0)
    value_there n low =
        get_or-map (value_at tables e.left.entry column) (referring tables e) n 0 (Int (pos 0)) (omega (arith, low, length-map (referring tables e) (value_at tables e.left.entry column)))

    module _ (key : ℕ → ℕ) (tells : SeparatesValues tables e.left.entry column key) where
      abbrev key_there : ℕ → ℕ
      key_there n = key (get_or (referring tables e) n 0)

      tell : SeparatesListed joined_values key_there
      tell row other low also =
          let below : row < length (referring tables e) = omega (arith, low, length-map (referring tables e) (value_at tables e.left.entry column)) in
          let beside : other < length (referring tables e) = omega (arith, also, length-map (referring tables e) (value_at tables e.left.entry column)) in
          subst (λ (v : Value). (key_there row ≡ key_there other) ↔ (is_eq (value_cmp v (value_of_row joined_values other)) ≡ true)) (sym (value_there row low))
          (subst (λ (v : Value). (key_there row ≡ key_there other) ↔ (is_eq (value_cmp (value_at tables e.left.entry column (get_or (referring tables e) row 0)) v) ≡ true))
          (sym (value_there other also))
          (tells (get_or (referring tables e) row 0) (get_or (referring tables e) other 0) (referring_rows_exist tables e row 0 below) (referring_rows_exist tables e other 0 beside)))

      pub carried_dominates : DominatesKeys (carried_list query tables accuracy e column) (map key (rows_referring query tables e))
      carried_dominates =
          subst (DominatesKeys (carried_list query tables accuracy e column)) (scan_there key)
          (list_dominates (carried_lists tables accuracy e column) there e.right.entry key_there query.conjuncts
          (listed_stand there accuracy e.right.entry joined_values key_there joined_length tell))

    pub carried_descends : IsDescending (carried_list query tables accuracy e column)
    carried_descends = filtered_descends (carried_lists tables accuracy e column) e.right.entry query.conjuncts (listed_descend there accuracy e.right.entry joined_values)

    pub carried_sum : sum (carried_list query tables accuracy e column) ≡ carried_rows query tables e
    carried_sum =
        sum-filtered (carried_lists tables accuracy e column) (carried_counts tables e) e.right.entry query.conjuncts (listed_sum there accuracy e.right.entry joined_values joined_length)

  pub carried_fits : length (rows_referring query tables e) ≤ carried_rows query tables e
  carried_fits =
      let scanned : List ℕ = scan_of there e.right.entry query.conjuncts in
      let many : length (map (λ n. get_or (referring tables e) n 0) scanned) ≡ length (map (λ (row : ℕ). row) (rows_referring query tables e)) =
      ap (λ (s : List ℕ). length s) (scan_there (λ row. row)) in
      omega (
        arith,
        count_is_enough (carried_counts tables e) there e.right.entry query.conjuncts (counts_stand there e.right.entry),
        many,
        length-map scanned (λ n. get_or (referring tables e) n 0),
        length-map (rows_referring query tables e) (λ (row : ℕ). row),
      )
