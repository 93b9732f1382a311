-- If statistics stand for some rows, the statistics after the append stand for these rows followed by the new rows. Statistics stand for rows if each
-- list dominates the keys of the rows that it counts.
use Rattle.std.proofs.Common.{◌≡◌, ℕ, zero, suc, ◌+◌, ◌-◌, ◌*◌, ◌/◌, ◌<◌, Bool, true, false, eqb, List, [], ◌∷◌, ◌++◌, length, length-append, map, get_or, Option, find, pos, refl, ap, sym, ◌∙◌, subst, arith, inl, inr}
use Rattle.std.specs.Option.{option_map_or}
use Rattle.std.specs.List.{AllByRecursion, filter, list_any, range_with_len}
use Rattle.std.proofs.Math.Nat.{mul-div_cancel_left}
use Rattle.std.proofs.lemmas.Bool.{cases_Bool}
use Rattle.std.proofs.lemmas.List.{length-map, map-append}
use Rattle.std.proofs.lemmas.Slice.Zip.{length-zip}
use Rattle.std.proofs.lemmas.List.Elements.{filter-append}
use Rattle.std.proofs.lemmas.List.FromFn.{get_or-map-range_with_len, length-map-range_with_len}
use Rattle.csv_tables.specs.Rows.{Row}
use Rattle.csv_tables.specs.Values.{Value, Int}
use Rattle.cond_stats.specs.Leaves.{IsNodeSize, in_node}
use Rattle.cond_stats.specs.Lists.{list_where, whole}
use Rattle.cond_stats.proofs.Sums.{sum-whole}
use Rattle.column_stats.specs.Nodes.{node_place}
use Rattle.column_stats.proofs.NodeLists.{each_size, node_list_at}
use Rattle.degree_sequences.specs.ByRank.{rank_sum}
use Rattle.degree_sequences.specs.Domination.{DominatesKeys}
use Rattle.degree_sequences.proofs.ByRank.{sum-rank_sum}
use Rattle.filtered_lists.specs.Standing.{has_value, rows_where, value_in_row}
use Rattle.level_bounds.proofs.Lists.{map_of_map}
use Rattle.sql_meaning.specs.Tables.{Tables, row_counts}
use Rattle.stats_file.specs.declared.types.Datum.{Datum}
use Rattle.stats_file.specs.declared.types.PairStats.{PairStats}
use Rattle.table_stats.specs.Columns.{first_row, as_first_rows, paired, value_of_row}
use Rattle.table_stats.specs.Keys.{SeparatesValues}
use Rattle.table_stats.proofs.ColumnRows.{values_length}
use Rattle.table_stats.proofs.EqualValues.{equal_symmetric, equal_transitive, is_equal}
use Rattle.table_stats.proofs.FewerRows.{PassesBoth, all_in_range, fewer_dominated}
use Rattle.stats_file_of_query.specs.Data.{value_of}
use Rattle.stats_file_of_query.specs.Standing.{PairStandsFor, is_in_node, is_value, leaf_of_value, list_of_node, list_of_value}
use Rattle.appended_stats.specs.Appended.{tables_of_rows, values_in}
use Rattle.appended_stats.specs.Grown.{grown_pair, list_for_any_of, list_with, lists_of_nodes, lists_of_size, other_values, rank_sums}
use Rattle.appended_stats.proofs.NewLists.{node_count}
use Rattle.appended_stats.proofs.NewRows.{leaf_alike, rank_sum_dominates, rest_dominates, value_alike, where_dominates, whole_dominates}

-- ---- the numbers of the old rows, followed by those of the new rows

range_two : (first n m : ℕ) → range_with_len first (n + m) ≡ range_with_len first n ++ range_with_len (first + n) m
range_two first zero m =
    let e : first ≡ first + 0 = omega arith in
    let same : 0 + m ≡ m = omega arith in
    ap (range_with_len first) same ∙ ap (λ a. range_with_len a m) e
range_two first (suc n) m =
    let e : (first + 1) + n ≡ first + suc n = omega arith in
    let same : suc n + m ≡ suc (n + m) = omega arith in
    ap (range_with_len first) same ∙ ap (λ (s : List ℕ). first ∷ s) (range_two (first + 1) n m ∙ ap (λ a. range_with_len (first + 1) n ++ range_with_len a m) e)

range_moved : (first n m : ℕ) → range_with_len (n + first) m ≡ map (λ i. n + i) (range_with_len first m)
range_moved first n zero = refl
range_moved first n (suc m) =
    let e : (n + first) + 1 ≡ n + (first + 1) = omega arith in
    ap (λ (s : List ℕ). (n + first) ∷ s) (ap (λ a. range_with_len a m) e ∙ range_moved (first + 1) n m)

filter_alike : (p q : ℕ → Bool) (rows : List ℕ) → AllByRecursion (λ row. p row ≡ q row) rows → filter p rows ≡ filter q rows
filter_alike p q [] all = refl
filter_alike p q (row ∷ rows) all = rw (all.0, filter_alike p q rows all.1) refl

filter_moved : (p : ℕ → Bool) (f : ℕ → ℕ) (rows : List ℕ) → filter p (map f rows) ≡ map f (filter (λ row. p (f row)) rows)
filter_moved p f [] = refl
filter_moved p f (row ∷ rows) = elim (cases_Bool (p (f row))) [ inl e ↦ rw (e, filter_moved p f rows) refl | inr e ↦ rw (e, filter_moved p f rows) refl ]

module _ (n m : ℕ) where
  abbrev old_rows : List ℕ
  old_rows = range_with_len 0 n

  abbrev new_rows : List ℕ
  new_rows = range_with_len 0 m

  all_rows : range_with_len 0 (n + m) ≡ old_rows ++ map (λ i. n + i) new_rows
  all_rows =
      let e : 0 + n ≡ n + 0 = omega arith in
      range_two 0 n m ∙ ap (λ (a : ℕ). old_rows ++ range_with_len a m) e ∙ ap (λ (s : List ℕ). old_rows ++ s) (range_moved 0 n m)

  pub keys_of_both : (test before later : ℕ → Bool) (key : ℕ → ℕ) → ((row : ℕ) → row < n → test row ≡ before row) → ((row : ℕ) → row < m → test (n + row) ≡ later row)
      → map key (filter test (range_with_len 0 (n + m))) ≡ map key (filter before old_rows) ++ map (λ row. key (n + row)) (filter later new_rows)
  keys_of_both test before later key told after =
      ap (λ (s : List ℕ). map key (filter test s)) all_rows
      ∙ ap (map key) (filter-append test old_rows (map (λ i. n + i) new_rows))
      ∙ map-append key (filter test old_rows) (filter test (map (λ i. n + i) new_rows))
      ∙ ap (λ (s : List ℕ). map key s ++ map key (filter test (map (λ i. n + i) new_rows)))
      (filter_alike test before old_rows (all_in_range (λ row. test row ≡ before row) 0 n (λ row low. told row (omega (arith, low)))))
      ∙ ap (λ (s : List ℕ). map key (filter before old_rows) ++ map key s)
      (filter_moved test (λ i. n + i) new_rows
      ∙ ap (map (λ i. n + i)) (filter_alike (λ row. test (n + row)) later new_rows (all_in_range (λ row. test (n + row) ≡ later row) 0 m (λ row low. after row (omega (arith, low))))))
      ∙ ap (λ (s : List ℕ). map key (filter before old_rows) ++ s) (map_of_map key (λ i. n + i) (λ row. key (n + row)) (λ row. refl) (filter later new_rows))

  pub keys_of_all : (key : ℕ → ℕ) → map key (range_with_len 0 (n + m)) ≡ map key old_rows ++ map (λ row. key (n + row)) new_rows
  keys_of_all key =
      ap (map key) all_rows ∙ map-append key old_rows (map (λ i. n + i) new_rows)
      ∙ ap (λ (s : List ℕ). map key old_rows ++ s) (map_of_map key (λ i. n + i) (λ row. key (n + row)) (λ row. refl) new_rows)

-- ---- the list of a value in a grown pair

module _ (test : Datum → Bool) (grow : Datum → List ℕ) where
  abbrev passes : Datum × List ℕ → Bool
  passes found = test found.0

  abbrev its_list : Option (Datum × List ℕ) → List ℕ → List ℕ
  its_list found rest = option_map_or (λ (one : Datum × List ℕ). one.1) found rest

  abbrev its_more : Option (Datum × List ℕ) → List ℕ → List ℕ
  its_more found more = option_map_or (λ (one : Datum × List ℕ). grow one.0) found more

  look_up : (frequent : List (Datum × List ℕ)) (rest more : List ℕ)
      → its_list (find passes (map (λ (found : Datum × List ℕ). (found.0, rank_sum found.1 (grow found.0))) frequent)) (rank_sum rest more)
      ≡ rank_sum (its_list (find passes frequent) rest) (its_more (find passes frequent) more)
  look_up [] rest more = refl
  look_up (found ∷ frequent) rest more = elim (cases_Bool (test found.0)) [
    | inl e ↦ rw e refl
    | inr e ↦ rw e (look_up frequent rest more)
  ]

  more_holds : (D : List ℕ → Type 0) (frequent : List (Datum × List ℕ)) (more : List ℕ) → ((value : Datum) → test value ≡ true → D (grow value))
      → (list_any passes frequent ≡ false → D more) → D (its_more (find passes frequent) more)
  more_holds D [] more each none = none refl
  more_holds D (found ∷ frequent) more each none = elim (cases_Bool (test found.0)) [
    | inl e ↦ (let it = each found.0 e in rw e it)
    | inr e ↦ (let rest = more_holds D frequent more each (λ rare. none (rw (e, rare) refl)) in rw e rest)
  ]

get_or-sums : (lists others : List (List ℕ)) (i : ℕ) → length lists ≡ length others → get_or (rank_sums lists others) i [] ≡ rank_sum (get_or lists i []) (get_or others i [])
get_or-sums [] [] i same = refl
get_or-sums [] (other ∷ others) i same = absurd (omega (arith, same))
get_or-sums (list ∷ lists) [] i same = absurd (omega (arith, same))
get_or-sums (list ∷ lists) (other ∷ others) zero same = refl
get_or-sums (list ∷ lists) (other ∷ others) (suc i) same = get_or-sums lists others i (omega (arith, same))

node_at : (leaf_of : ℕ → ℕ) (k : ℕ) (rows : List (ℕ × ℕ)) (size leaf : ℕ) → IsNodeSize size → leaf < 32
    → get_or (lists_of_nodes leaf_of k rows) (node_place size leaf) [] ≡ list_where k (λ n. in_node size leaf (leaf_of n)) rows
node_at leaf_of k rows size leaf is low =
    let some : 0 < size = each_size (λ s. 0 < s) (omega arith) (omega arith) (omega arith) (omega arith) (omega arith) (omega arith) size is in
    let within : leaf / size < 32 / size = each_size (λ s. leaf / s < 32 / s) (omega arith) (omega arith) (omega arith) (omega arith) (omega arith) (omega arith) size is in
    node_list_at (lists_of_size leaf_of k rows) (λ s. length-map-range_with_len (λ i. list_where k (λ n. in_node s (s * i) (leaf_of n)) rows) 0 (32 / s)) leaf low size is
    ∙ get_or-map-range_with_len (λ i. list_where k (λ n. in_node size (size * i) (leaf_of n)) rows) 0 (32 / size) (leaf / size) (leaf / size) [] within (omega arith)
    ∙ ap (λ m. list_where k (λ n. eqb (leaf_of n / size) m) rows) (mul-div_cancel_left (leaf / size) some)

-- ---- a grown pair stands for the old and the new rows

module _ (tables after : Tables) (entry : ℕ) (new : List Row) (are : after entry ≡ tables entry ++ new) where
  abbrev n : ℕ
  n = row_counts tables entry

  abbrev m : ℕ
  m = length new

  abbrev no_row : Row
  no_row = []

  pub count_is : row_counts after entry ≡ n + m
  count_is = ap (λ (s : List Row). length s) are ∙ length-append (tables entry) new

  front : (xs ys : List Row) (i : ℕ) → i < length xs → get_or (xs ++ ys) i no_row ≡ get_or xs i no_row
  front [] ys i low = absurd (omega (arith, low))
  front (x ∷ xs) ys zero low = refl
  front (x ∷ xs) ys (suc i) low = front xs ys i (omega (arith, low))

  back : (xs ys : List Row) (i : ℕ) → get_or (xs ++ ys) (length xs + i) no_row ≡ get_or ys i no_row
  back [] ys i = let e : 0 + i ≡ i = omega arith in ap (λ j. get_or ys j no_row) e
  back (x ∷ xs) ys i = let e : suc (length xs) + i ≡ suc (length xs + i) = omega arith in ap (λ j. get_or (x ∷ (xs ++ ys)) j no_row) e ∙ back xs ys i

  old_value : (column row : ℕ) → row < n → value_in_row after entry column row ≡ value_in_row tables entry column row
  old_value column row low = ap (λ (r : Row). get_or r column (Int (pos 0))) (ap (λ (s : List Row). get_or s row no_row) are ∙ front (tables entry) new row low)

  new_value : (column row : ℕ) → value_in_row after entry column (n + row) ≡ value_in_row (tables_of_rows new) 0 column row
  new_value column row = ap (λ (r : Row). get_or r column (Int (pos 0))) (ap (λ (s : List Row). get_or s (n + row) no_row) are ∙ back (tables entry) new row)

  module _ (key : ℕ → ℕ) (joined : ℕ) (tells : SeparatesValues after entry joined key) where
    abbrev new_key : ℕ → ℕ
    new_key row = key (n + row)

    pub tells_before : SeparatesValues tables entry joined key
    tells_before row other low also =
        let both = tells row other (omega (arith, low, count_is)) (omega (arith, also, count_is)) in
        let same : is_equal (value_in_row after entry joined row) (value_in_row after entry joined other) ≡ is_equal (value_in_row tables entry joined row) (value_in_row tables entry joined other) =
        ap (λ (v : Value). is_equal v (value_in_row after entry joined other)) (old_value joined row low) ∙ ap (is_equal (value_in_row tables entry joined row)) (old_value joined other also) in
        ((λ e. sym same ∙ both.0 e), (λ e. both.1 (same ∙ e)))

    tells_new : SeparatesValues (tables_of_rows new) 0 joined new_key
    tells_new row other low also =
        let both = tells (n + row) (n + other) (omega (arith, low, count_is)) (omega (arith, also, count_is)) in
        let same : is_equal (value_in_row after entry joined (n + row)) (value_in_row after entry joined (n + other)) ≡ is_equal (value_in_row (tables_of_rows new) 0 joined row) (value_in_row (tables_of_rows new) 0 joined other) =
        ap (λ (v : Value). is_equal v (value_in_row after entry joined (n + other))) (new_value joined row) ∙ ap (is_equal (value_in_row (tables_of_rows new) 0 joined row)) (new_value joined other) in
        ((λ e. sym same ∙ both.0 e), (λ e. both.1 (same ∙ e)))

    both_dominated : (column : ℕ) (test : Value → Bool) (s t : List ℕ)
        → DominatesKeys s (map key (filter (λ row. test (value_in_row tables entry column row)) (range_with_len 0 n)))
        → DominatesKeys t (map new_key (filter (λ row. test (value_in_row (tables_of_rows new) 0 column row)) (range_with_len 0 m)))
        → DominatesKeys (rank_sum s t) (map key (rows_where after entry (λ row. test (value_in_row after entry column row))))
    both_dominated column test s t one two =
        let its : ℕ → Bool = λ row. test (value_in_row after entry column row) in
        let told : ℕ → Bool = λ row. test (value_in_row tables entry column row) in
        let later : ℕ → Bool = λ row. test (value_in_row (tables_of_rows new) 0 column row) in
        subst (DominatesKeys (rank_sum s t))
        (sym (ap (λ c. map key (filter its (range_with_len 0 c))) count_is
        ∙ keys_of_both n m its told later key (λ row low. ap test (old_value column row low)) (λ row low. ap test (new_value column row))))
        (rank_sum_dominates s t (map key (filter told (range_with_len 0 n))) (map new_key (filter later (range_with_len 0 m))) one two)

    module _ (k : ℕ) (pair : PairStats) (nodes_are : length pair.nodes ≡ 63) (is_joined : pair.joined ≡ joined) (stood : PairStandsFor pair tables entry key) where
      abbrev filters : List Value
      filters = values_in new pair.filter

      abbrev pairs : List (ℕ × ℕ)
      pairs = paired filters (values_in new joined)

      abbrev of_row : ℕ → Value
      of_row i = value_of_row filters i

      abbrev grown : PairStats
      grown = grown_pair of_row k pairs pair

      pairs_count : length pairs ≡ m
      pairs_count =
          omega (
            arith,
            length-zip (as_first_rows filters) (as_first_rows (values_in new joined)),
            length-map filters (first_row filters),
            length-map (values_in new joined) (first_row (values_in new joined)),
            values_length (tables_of_rows new) 0 pair.filter,
            values_length (tables_of_rows new) 0 joined,
          )

      value_stands : (value : Value) → DominatesKeys (list_of_value grown value) (map key (rows_where after entry (has_value after entry pair.filter value)))
      value_stands value =
          let test : Datum → Bool = λ found. is_value value found in
          let grow : Datum → List ℕ = λ found. list_with of_row k pairs found in
          let more : List ℕ = list_for_any_of k pairs (other_values of_row pairs pair.frequent) in
          let found : Option (Datum × List ℕ) = find (λ (one : Datum × List ℕ). is_value value one.0) pair.frequent in
          let rows : List ℕ = map new_key (filter (λ row. is_equal (value_in_row (tables_of_rows new) 0 pair.filter row) value) (range_with_len 0 m)) in
          subst (λ (s : List ℕ). DominatesKeys s (map key (rows_where after entry (has_value after entry pair.filter value)))) (sym (look_up test grow pair.frequent pair.rest more))
          (both_dominated pair.filter (λ v. is_equal v value) (list_of_value pair value) (its_more test grow found more) (stood.value value)
          (more_holds test grow (λ s. DominatesKeys s rows) pair.frequent more
          (λ one passes. fewer_dominated new_key (λ row. is_equal (value_in_row (tables_of_rows new) 0 pair.filter row) value) (λ row. is_value (value_in_row (tables_of_rows new) 0 pair.filter row) one)
          (grow one) (range_with_len 0 m)
          (all_in_range (PassesBoth new_key (λ row. is_equal (value_in_row (tables_of_rows new) 0 pair.filter row) value) (λ row. is_value (value_in_row (tables_of_rows new) 0 pair.filter row) one)) 0 m
          (λ row low has. equal_transitive (value_of one) value (value_in_row (tables_of_rows new) 0 pair.filter row) passes (equal_symmetric (value_in_row (tables_of_rows new) 0 pair.filter row) value has)))
          (where_dominates new k pair.filter joined new_key tells_new (λ v. is_value v one) (value_alike one)))
          (λ rare. rest_dominates new k pair.filter joined new_key tells_new pair.frequent value rare)))

      node_stands : (size leaf : ℕ) → IsNodeSize size → leaf < 32 → DominatesKeys (list_of_node grown size leaf) (map key (rows_where after entry (is_in_node grown after entry size leaf)))
      node_stands size leaf is low =
          let test : Value → Bool = λ v. in_node size leaf (leaf_of_value pair v) in
          let leaf_of : ℕ → ℕ = λ i. leaf_of_value pair (of_row i) in
          let made : list_of_node grown size leaf ≡ rank_sum (list_of_node pair size leaf) (list_where k (λ i. test (of_row i)) pairs) =
          get_or-sums pair.nodes (lists_of_nodes leaf_of k pairs) (node_place size leaf) (nodes_are ∙ sym (node_count k pairs leaf_of))
          ∙ ap (rank_sum (list_of_node pair size leaf)) (node_at leaf_of k pairs size leaf is low) in
          subst (λ (s : List ℕ). DominatesKeys s (map key (rows_where after entry (is_in_node grown after entry size leaf)))) (sym made)
          (both_dominated pair.filter test (list_of_node pair size leaf) (list_where k (λ i. test (of_row i)) pairs) (stood.node size leaf is low)
          (where_dominates new k pair.filter joined new_key tells_new test (λ a b same. ap (in_node size leaf) (leaf_alike pair a b same))))

      whole_stands : DominatesKeys grown.whole (map key (range_with_len 0 (row_counts after entry)))
      whole_stands =
          subst (DominatesKeys grown.whole) (sym (ap (λ c. map key (range_with_len 0 c)) count_is ∙ keys_of_all n m key))
          (rank_sum_dominates pair.whole (whole k pairs) (map key (range_with_len 0 n)) (map new_key (range_with_len 0 m)) stood.whole
          (whole_dominates new k pair.filter joined new_key tells_new))

      pub grown_stands : PairStandsFor grown after entry key
      grown_stands = record {
        rows = sum-rank_sum pair.whole (whole k pairs) ∙ both_counts stood.rows (sum-whole k pairs ∙ pairs_count) ∙ sym count_is;
        whole = whole_stands;
        value = value_stands;
        node = node_stands;
      }
        where
          both_counts : {a b c d : ℕ} → a ≡ c → b ≡ d → a + b ≡ c + d
          both_counts h k = rw (h, k) refl
