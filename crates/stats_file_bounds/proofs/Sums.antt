-- An entry has lists for each joined column. For different joined columns the lists have equal sums, since each list counts rows of the same table.
use Rattle.std.proofs.Common.{◌≡◌, ◌⊎◌, ℕ, zero, suc, ◌<◌, Bool, true, false, cond, eqb, List, [], ◌∷◌, map, length, get_or, sum, Option, None, Some, option_map, refl, ap, sym, ◌∙◌, subst, inl, inr, arith}
use Rattle.std.specs.Prelude.{find, is_some, unwrap_or}
use Rattle.std.specs.List.{Contains, flat_map, list_all, list_any}
use Rattle.std.specs.Option.{option_map_or}
use Rattle.std.proofs.lemmas.Bool.{and_parts, cases_Bool, cases_lt, cases_eq, eqb-true, ne_eqb}
use Rattle.std.proofs.lemmas.List.Elements.{Contains-append_left, Contains-append_right}
use Rattle.csv_tables.specs.Values.{Value}
use Rattle.cond_stats.specs.Leaves.{node_size}
use Rattle.column_stats.specs.Nodes.{node_place}
use Rattle.entry_sets.proofs.Listing.{in_front, in_front_or_rest}
use Rattle.filtered_lists.specs.Standing.{SumTo}
use Rattle.level_bounds.proofs.Lists.{all_true, in_map, in_from_test}
use Rattle.stats_file.specs.declared.types.Datum.{Datum}
use Rattle.stats_file.specs.declared.types.PairStats.{PairStats}
use Rattle.stats_file.specs.declared.types.TableStats.{TableStats}
use Rattle.stats_file.specs.Rules.{PairsAgree, HaveSameFilterCounts}
use Rattle.stats_file_of_query.specs.declared.needs.Needs.{Needs}
use Rattle.stats_file_of_query.specs.Needs.{pairs_of}
use Rattle.stats_file_of_query.specs.ColumnPairs.{column_pair, of_itself, pairs_between, with_each}
use Rattle.stats_file_of_query.specs.Standing.{is_value, leaf_of_value, list_between, list_of_node, list_of_value}
use Rattle.stats_file_bounds.specs.Entries.{IsSectionOfSome}
use Rattle.stats_file_bounds.specs.FileStatistics.{stats_file_counts, stats_file_lists, list_of_one_key, paired_with, whole_by, whole_list}
use Rattle.stats_file_bounds.specs.Found.{are_columns, has_pair, no_pair, pair_for, pair_in}

-- ---- the position of the element that `find` finds

pub found_at : {X : Type 0} (p : X → Bool) (xs : List X) (x : X) → find p xs ≡ Some x → (i : ℕ) × (i < length xs) × ((d : X) → get_or xs i d ≡ x) × (p x ≡ true)
found_at p [] x e = absurd (cc)
found_at p (y ∷ xs) x e = elim (cases_Bool (p y)) [
  | inl t ↦ (let is : Some y ≡ Some x = rw t at e in let same : y ≡ x = cc in (0, omega arith, (λ d. same), ap p (sym same) ∙ t))
  | inr n ↦ (let rest : find p xs ≡ Some x = rw n at e in
      let at = found_at p xs x rest in (suc at.0, omega (arith, at.1), at.2, at.3))
]

-- ---- pairs whose lists have equal sums

pub record HaveEqualSums (a b : PairStats) : Type 0 where
  pub value : (value : Value) → sum (list_of_value a value) ≡ sum (list_of_value b value)
  pub between : (low high : Option Value) → sum (list_between a low high) ≡ sum (list_between b low high)

same_value : (value : Value) (a b : List (Datum × List ℕ)) (rest rest' : List ℕ) → map (λ (f : Datum × List ℕ). f.0) a ≡ map (λ (f : Datum × List ℕ). f.0) b
    → map (λ (f : Datum × List ℕ). sum f.1) a ≡ map (λ (f : Datum × List ℕ). sum f.1) b → sum rest ≡ sum rest'
    → sum (option_map_or (λ (f : Datum × List ℕ). f.1) (find (λ (f : Datum × List ℕ). is_value value f.0) a) rest)
    ≡ sum (option_map_or (λ (f : Datum × List ℕ). f.1) (find (λ (f : Datum × List ℕ). is_value value f.0) b) rest')
same_value value [] [] rest rest' values totals others = others
same_value value [] (g ∷ b) rest rest' values totals others = absurd (cc)
same_value value (f ∷ a) [] rest rest' values totals others = absurd (cc)
same_value value (f ∷ a) (g ∷ b) rest rest' values totals others =
    let value_is : f.0 ≡ g.0 = cc in
    let values_are : map (λ (f : Datum × List ℕ). f.0) a ≡ map (λ (f : Datum × List ℕ). f.0) b = cc in
    let total_is : sum f.1 ≡ sum g.1 = cc in
    let totals_are : map (λ (f : Datum × List ℕ). sum f.1) a ≡ map (λ (f : Datum × List ℕ). sum f.1) b = cc in
    elim (cases_Bool (is_value value f.0)) [
      | inl t ↦ (let also : is_value value g.0 ≡ true = ap (is_value value) (sym value_is) ∙ t in rw (t, also) total_is)
      | inr n ↦ (let also : is_value value g.0 ≡ false = ap (is_value value) (sym value_is) ∙ n in rw (n, also) (same_value value a b rest rest' values_are totals_are others))
    ]

same_at : (a b : List (List ℕ)) → map sum a ≡ map sum b → (i : ℕ) → sum (get_or a i []) ≡ sum (get_or b i [])
same_at [] [] same i = refl
same_at [] (t ∷ b) same i = absurd (cc)
same_at (s ∷ a) [] same i = absurd (cc)
same_at (s ∷ a) (t ∷ b) same zero = cc
same_at (s ∷ a) (t ∷ b) same (suc i) = let rest : map sum a ≡ map sum b = cc in same_at a b rest i

leaf_by : List Datum → Value → ℕ
leaf_by cuts value = leaf_of_value (record no_pair { cuts = cuts }) value

same_leaf : (a b : PairStats) → a.cuts ≡ b.cuts → (value : Value) → leaf_of_value a value ≡ leaf_of_value b value
unfolding leaf_by
same_leaf a b same value = ap (λ (cuts : List Datum). leaf_by cuts value) same

same_end : (a b : PairStats) → a.cuts ≡ b.cuts → (end : Option Value) → option_map (leaf_of_value a) end ≡ option_map (leaf_of_value b) end
same_end a b same None = refl
same_end a b same (Some value) = ap Some (same_leaf a b same value)

pub count_sums : (a b : PairStats) → HaveSameFilterCounts a b → HaveEqualSums a b
count_sums a b same = record {
  value = λ value. same_value value a.frequent b.frequent a.rest b.rest same.values same.totals same.rest;
  between = λ lower upper.
      let first : ℕ = unwrap_or (option_map (leaf_of_value a) lower) 0 in
      let last : ℕ = unwrap_or (option_map (leaf_of_value a) upper) 31 in
      same_at a.nodes b.nodes same.nodes (node_place (node_size first last) first)
      ∙ ap (λ (o : Option ℕ). sum (list_of_node b (node_size (unwrap_or o 0) last) (unwrap_or o 0))) (same_end a b same.cuts lower)
      ∙ ap (λ (o : Option ℕ). sum (list_of_node b (node_size (unwrap_or (option_map (leaf_of_value b) lower) 0) (unwrap_or o 31)) (unwrap_or (option_map (leaf_of_value b) lower) 0))) (same_end a b same.cuts upper);
}

equal_sums_symmetric : (a b : PairStats) → HaveEqualSums a b → HaveEqualSums b a
equal_sums_symmetric a b same = record { value = λ value. sym (same.value value); between = λ lower upper. sym (same.between lower upper) }

same_pair : (a b : PairStats) → a ≡ b → HaveEqualSums a b
same_pair a b same = subst (λ (p : PairStats). HaveEqualSums a p) same (record { value = λ value. refl; between = λ lower upper. refl })

module _ (section : TableStats) (from_stats_file : IsSectionOfSome section) where
  pub found_sums : (filter one other : ℕ) (a b : PairStats) → pair_in section filter one ≡ Some a → pair_in section filter other ≡ Some b → HaveEqualSums a b
  found_sums filter one other a b here there =
      let at = found_at (are_columns filter one) section.pairs a here in
      let to = found_at (are_columns filter other) section.pairs b there in
      let a_filter : a.filter ≡ filter = filter_is filter one a at.3 in
      let b_filter : b.filter ≡ filter = filter_is filter other b to.3 in
      elim (cases_lt at.0 to.0) [
        | inl before ↦ (let agree : PairsAgree a b = subst (λ (p : PairStats). PairsAgree a p) (to.2 no_pair) (subst (λ (p : PairStats). PairsAgree p (get_or section.pairs to.0 no_pair)) (at.2 no_pair) (from_stats_file.is.agree at.0 to.0 no_pair before to.1)) in
            count_sums a b (agree.filter (a_filter ∙ sym b_filter)))
        | inr not_before ↦ elim (cases_eq at.0 to.0) [
          | inl same ↦ same_pair a b (sym (at.2 no_pair) ∙ ap (λ (i : ℕ). get_or section.pairs i no_pair) same ∙ to.2 no_pair)
          | inr apart ↦ (let agree : PairsAgree b a = subst (λ (p : PairStats). PairsAgree b p) (at.2 no_pair) (subst (λ (p : PairStats). PairsAgree p (get_or section.pairs at.0 no_pair)) (to.2 no_pair) (from_stats_file.is.agree to.0 at.0 no_pair (omega (arith, not_before, apart)) at.1)) in
              equal_sums_symmetric b a (count_sums b a (agree.filter (b_filter ∙ sym a_filter))))
        ]
      ]
    where
      filter_is : (filter joined : ℕ) (p : PairStats) → are_columns filter joined p ≡ true → p.filter ≡ filter
      filter_is filter joined p h = eqb-true p.filter filter (and_parts (eqb p.filter filter) (eqb p.joined joined) h).0

  pub found_whole : (filter joined : ℕ) (p : PairStats) → pair_in section filter joined ≡ Some p → sum p.whole ≡ section.rows
  found_whole filter joined p here =
      let at = found_at (are_columns filter joined) section.pairs p here in
      subst (λ (q : PairStats). sum q.whole ≡ section.rows) (at.2 no_pair) (from_stats_file.is.pairs at.0 no_pair at.1).all_rows

-- ---- pairs that an entry needs

-- the column is in the list of joined columns, or the entry joins no column
unfoldable pub IsJoined : Needs → ℕ → Type 0
IsJoined needs joined = (needs.joined ≡ []) ⊎ Contains needs.joined joined

pub contained : (needs : Needs) (joined : ℕ) → Contains needs.joined joined → IsJoined needs joined
unfolding IsJoined
contained needs joined has = inr has

pub lead_joined : (needs : Needs) → IsJoined needs (get_or needs.joined 0 0)
unfolding IsJoined
lead_joined needs = by needs.joined
  where
    by : (joined : List ℕ) → (joined ≡ []) ⊎ Contains joined (get_or joined 0 0)
    by [] = inl refl
    by (column ∷ columns) = inr (in_front column columns column refl)

pub in_lists : {X Y : Type 0} (f : X → List Y) (xs : List X) (x : X) (y : Y) → Contains xs x → Contains (f x) y → Contains (flat_map f xs) y
in_lists f [] x y has also = absurd (omega (arith, has.1))
in_lists f (z ∷ xs) x y has also = elim (in_front_or_rest z xs x has) [
  | inl later ↦ Contains-append_right (f z) (flat_map f xs) y (in_lists f xs x y later also)
  | inr is ↦ Contains-append_left (f z) (flat_map f xs) y (subst (λ w. Contains (f w) y) is also)
]

filter_needed : (filters joins : List ℕ) (filter joined : ℕ) → Contains filters filter → (joins ≡ []) ⊎ Contains joins joined
    → Contains (pairs_between filters joins) (column_pair filter (cond (eqb (length joins) 0) filter joined))
filter_needed [] joins filter joined has joins_it = absurd (omega (arith, has.1))
filter_needed (f ∷ filters) [] filter joined has joins_it = in_map of_itself (f ∷ filters) filter has
filter_needed (f ∷ filters) (j ∷ joins) filter joined has (inl none) = absurd (cc)
filter_needed (f ∷ filters) (j ∷ joins) filter joined has (inr also) =
    let some : eqb (length (j ∷ joins)) 0 ≡ false = ne_eqb (length (j ∷ joins)) 0 (λ e. absurd (omega (arith, e))) in
    rw some (in_lists (with_each (j ∷ joins)) (f ∷ filters) filter (column_pair filter joined) has (in_map (column_pair filter) (j ∷ joins) joined also))

pub joined_needed : (joins : List ℕ) (joined : ℕ) → Contains joins joined → Contains (pairs_between [] joins) (column_pair joined joined)
joined_needed joins joined has = in_map of_itself joins joined has

there : (o : Option PairStats) → is_some o ≡ true → (p : PairStats) × (o ≡ Some p)
there None h = absurd (cc)
there (Some p) h = (p, refl)

module _ (section : TableStats) (from_stats_file : IsSectionOfSome section) (needs : Needs) (has_all_pairs : list_all (has_pair section) (pairs_of needs) ≡ true) where
  pub pair_found : (filter joined : ℕ) → Contains (pairs_of needs) (column_pair filter joined) → (p : PairStats) × (pair_in section filter joined ≡ Some p)
  pair_found filter joined has = there (pair_in section filter joined) (all_true (has_pair section) (pairs_of needs) has_all_pairs (column_pair filter joined) has)

  pub partner_found : (filter joined : ℕ) → Contains needs.filters filter → IsJoined needs joined → (p : PairStats) × (pair_in section filter (paired_with needs joined filter) ≡ Some p)
  unfolding IsJoined
  partner_found filter joined has joins = pair_found filter (paired_with needs joined filter) (filter_needed needs.filters needs.joined filter joined has joins)

  pub pair_for_found : (filter joined : ℕ) (p : PairStats) → pair_in section filter joined ≡ Some p → pair_for section filter joined ≡ p
  pair_for_found filter joined p is = ap (λ (o : Option PairStats). unwrap_or o no_pair) is

  -- ---- equal sums for different joined columns

  one_key : (rows : ℕ) → sum (list_of_one_key rows) ≡ rows
  one_key rows = elim (cases_Bool (eqb rows 0)) [
    | inl t ↦ rw t (sym (eqb-true rows 0 t))
    | inr n ↦ rw n (omega arith)
  ]

  pub whole_sum : (joined : ℕ) → IsJoined needs joined → sum (whole_list section needs joined) ≡ section.rows
  unfolding IsJoined
  whole_sum joined joins = by needs.filters refl
    where
      none_joined : (joins : List ℕ) → eqb (length joins) 0 ≡ false → (joins ≡ []) ⊎ Contains joins joined → Contains joins joined
      none_joined [] some joins_it = absurd (cc)
      none_joined (j ∷ joins) some (inl none) = absurd (cc)
      none_joined (j ∷ joins) some (inr has) = has

      by : (filters : List ℕ) → needs.filters ≡ filters → sum (whole_by section needs filters joined) ≡ section.rows
      by [] is = elim (cases_Bool (eqb (length needs.joined) 0)) [
        | inl t ↦ rw t (one_key section.rows)
        | inr n ↦ (let has : Contains needs.joined joined = none_joined needs.joined n joins in
            let found = pair_found joined joined (subst (λ (f : List ℕ). Contains (pairs_between f needs.joined) (column_pair joined joined)) (sym is) (joined_needed needs.joined joined has)) in
            rw n (ap (λ (p : PairStats). sum p.whole) (pair_for_found joined joined found.0 found.1) ∙ found_whole section from_stats_file joined joined found.0 found.1))
      ]
      by (column ∷ columns) is =
          let found = partner_found column joined (subst (λ (f : List ℕ). Contains f column) (sym is) (in_front column columns column refl)) joins in
          ap (λ (p : PairStats). sum p.whole) (pair_for_found column (paired_with needs joined column) found.0 found.1) ∙ found_whole section from_stats_file column (paired_with needs joined column) found.0 found.1

  partners_sum : (filter one other : ℕ) → Contains needs.filters filter → IsJoined needs one → IsJoined needs other
      → HaveEqualSums (pair_for section filter (paired_with needs one filter)) (pair_for section filter (paired_with needs other filter))
  partners_sum filter one other has joins also =
      let here = partner_found filter one has joins in
      let there = partner_found filter other has also in
      subst (λ (p : PairStats). HaveEqualSums p (pair_for section filter (paired_with needs other filter))) (sym (pair_for_found filter (paired_with needs one filter) here.0 here.1))
      (subst (HaveEqualSums here.0) (sym (pair_for_found filter (paired_with needs other filter) there.0 there.1))
      (found_sums section from_stats_file filter (paired_with needs one filter) (paired_with needs other filter) here.0 there.0 here.1 there.1))

  pub sums_are : (joined : ℕ) → IsJoined needs joined → SumTo (stats_file_lists section needs joined) (stats_file_counts section needs)
  sums_are joined joins =
      let lead : ℕ = get_or needs.joined 0 0 in
      let leads : IsJoined needs lead = lead_joined needs in
      let wholes : sum (whole_list section needs joined) ≡ sum (whole_list section needs lead) = whole_sum joined joins ∙ sym (whole_sum lead leads) in
      record {
        whole = wholes;
        equal = λ column value. elim (cases_Bool (list_any (λ other. eqb column other) needs.filters)) [
          | inl t ↦ rw t ((partners_sum column joined lead (in_from_test needs.filters column t) joins leads).value value)
          | inr n ↦ rw n wholes
        ];
        range = λ range. elim (cases_Bool (list_any (λ other. eqb range.column other) needs.filters)) [
          | inl t ↦ rw t ((partners_sum range.column joined lead (in_from_test needs.filters range.column t) joins leads).between range.low range.high)
          | inr n ↦ rw n wholes
        ];
      }
