-- The lists that a sorted column makes are the lists of the definitions.
use Rattle.std.proofs.Common.{◌≡◌, ℕ, zero, suc, ◌+◌, ◌-◌, ◌*◌, ◌/◌, ◌<◌, ◌≤◌, min, Bool, true, eqb, List, [], ◌∷◌, map, length, take, drop, get_or, refl, ap, sym, ◌∙◌, subst, arith, inl, inr}
use Rattle.std.specs.List.{All, Contains, zip, list_any, range_with_len}
use Rattle.std.specs.Prelude.{slice_range}
use Rattle.std.proofs.Math.Nat.{div-mul-le_self, mul-le-mul_right}
use Rattle.std.proofs.lemmas.Nat.{le-div}
use Rattle.std.proofs.lemmas.Bool.{cases_lt, eq-eqb, ne_eqb, lt-ltb, le-ltb, ltb-true, ltb-false}
use Rattle.std.proofs.lemmas.List.{take_all, drop_all}
use Rattle.std.proofs.lemmas.List.Elements.{All-take, All-drop, All-contains, All-from_get_or}
use Rattle.std.proofs.lemmas.List.FromFn.{length-range_with_len, get_or-range_with_len}
use Rattle.std.proofs.lemmas.List.Sorted.{All-permutation, length_permutation}
use Rattle.std.proofs.Math.Bool.{or-true}
use Rattle.degree_sequences.specs.Compression.{compressed}
use Rattle.degree_sequences.specs.Degrees.{degree, degree_list}
use Rattle.degree_sequences.specs.RunningSums.{capped_at}
use Rattle.cond_stats.specs.declared.groups.ValueRun.{ValueRun}
use Rattle.cond_stats.specs.Frequency.{frequent, remaining}
use Rattle.cond_stats.specs.Leaves.{leaf_of, in_node, IsNodeSize}
use Rattle.cond_stats.specs.Lists.{maxima, greatest, keys_with, is_frequent, rest, list_of_node, compressed_degrees}
use Rattle.cond_stats.specs.Rows.{filter_values, keys_where}
use Rattle.cond_stats.specs.Runs.{value_of_run}
use Rattle.cond_stats.specs.Sorted.{IsColumnByLeaves, keys_at, degrees_of_run}
use Rattle.cond_stats.specs.Windows.{IsWindow}
use Rattle.cond_stats.proofs.WindowKeys.{window_degrees, window_count}

pub filter_values-zip : (column joined : List ℕ) → length joined ≡ length column → filter_values (zip column joined) ≡ column
filter_values-zip [] joined same = refl
filter_values-zip (v ∷ vs) [] same = absurd (omega arith)
filter_values-zip (v ∷ vs) (k ∷ ks) same = ap (λ s. v ∷ s) (filter_values-zip vs ks (omega arith))

take-map : {X : Type 0} (f : X → ℕ) (n : ℕ) (xs : List X) → take n (map f xs) ≡ map f (take n xs)
take-map f zero xs = refl
take-map f (suc n) [] = refl
take-map f (suc n) (x ∷ xs) = ap (λ s. f x ∷ s) (take-map f n xs)

drop-map : {X : Type 0} (f : X → ℕ) (n : ℕ) (xs : List X) → drop n (map f xs) ≡ map f (drop n xs)
drop-map f zero xs = refl
drop-map f (suc n) [] = refl
drop-map f (suc n) (x ∷ xs) = drop-map f n xs

take-min : {X : Type 0} (n : ℕ) (xs : List X) → take n xs ≡ take (min (length xs) n) xs
take-min n xs = elim (cases_lt n (length xs)) [
  | inl h ↦ (let is : min (length xs) n ≡ n = omega arith in ap (λ m. take m xs) (sym is))
  | inr h ↦ (let is : min (length xs) n ≡ length xs = omega arith in take_all n xs h ∙ sym (take_all (length xs) xs (omega arith)) ∙ ap (λ m. take m xs) (sym is))
]

drop-min : {X : Type 0} (n : ℕ) (xs : List X) → drop n xs ≡ drop (min (length xs) n) xs
drop-min n xs = elim (cases_lt n (length xs)) [
  | inl h ↦ (let is : min (length xs) n ≡ n = omega arith in ap (λ m. drop m xs) (sym is))
  | inr h ↦ (let is : min (length xs) n ≡ length xs = omega arith in drop_all n xs h ∙ sym (drop_all (length xs) xs (omega arith)) ∙ ap (λ m. drop m xs) (sym is))
]

any_contained : {X : Type 0} (f : X → ℕ) (xs : List X) (x : X) (v : ℕ) → Contains xs x → f x ≡ v → list_any (λ w. eqb w v) (map f xs) ≡ true
any_contained f [] x v (k, h, at) is = absurd (omega arith)
any_contained f (y ∷ xs) x v (zero, h, at) is = (let here : eqb (f y) v ≡ true = eq-eqb (f y) v (ap f at ∙ is) in rw here refl)
any_contained f (y ∷ xs) x v (suc k, h, at) is = (let rest : list_any (λ w. eqb w v) (map f xs) ≡ true = any_contained f xs x v (k, omega arith, at) is in rw rest (or-true (eqb (f y) v)))

pub default_is_zero : (xs : List ℕ) (i d x : ℕ) → i < length xs → x ≡ get_or xs i d → x ≡ get_or xs i 0
default_is_zero [] i d x h e = absurd (omega arith)
default_is_zero (y ∷ xs) zero d x h e = e
default_is_zero (y ∷ xs) (suc i) d x h e = default_is_zero xs i d x (omega arith) e

pub node_within : (size leaf : ℕ) → IsNodeSize size → leaf < 32 → (0 < size) × (leaf / size * size + size ≤ 32)
node_within size leaf (zero, h, is) low = subst (λ s. (0 < s) × (leaf / s * s + s ≤ 32)) is (omega arith, omega arith)
node_within size leaf (suc zero, h, is) low = subst (λ s. (0 < s) × (leaf / s * s + s ≤ 32)) is (omega arith, omega arith)
node_within size leaf (suc (suc zero), h, is) low = subst (λ s. (0 < s) × (leaf / s * s + s ≤ 32)) is (omega arith, omega arith)
node_within size leaf (suc (suc (suc zero)), h, is) low = subst (λ s. (0 < s) × (leaf / s * s + s ≤ 32)) is (omega arith, omega arith)
node_within size leaf (suc (suc (suc (suc zero))), h, is) low = subst (λ s. (0 < s) × (leaf / s * s + s ≤ 32)) is (omega arith, omega arith)
node_within size leaf (suc (suc (suc (suc (suc zero)))), h, is) low = subst (λ s. (0 < s) × (leaf / s * s + s ≤ 32)) is (omega arith, omega arith)
node_within size leaf (suc (suc (suc (suc (suc (suc k))))), h, is) low = absurd (omega arith)

node_inside : (size leaf other : ℕ) → 0 < size → leaf / size * size ≤ other → other < leaf / size * size + size → other / size ≡ leaf / size
node_inside size leaf other some from to =
    let low : leaf / size ≤ other / size = le-div (leaf / size) other size some from in
    elim (cases_lt (leaf / size) (other / size)) [
      | inl h ↦ (let row : suc (leaf / size) * size ≤ other / size * size = mul-le-mul_right size (omega arith) in
          absurd (omega (arith, row, div-mul-le_self other size)))
      | inr h ↦ omega arith
    ]

module _ {at_most : ℕ → ℕ → Bool} {column places : List ℕ} {groups : List ValueRun} {cuts starts : List ℕ}
    (sorted : IsColumnByLeaves at_most column places groups cuts starts) (joined : List ℕ) (same : length joined ≡ length column) where
  pub frequent_values : map (value_of_run column) (take (min (length groups) 32) groups) ≡ frequent column
  frequent_values = ap (map (value_of_run column)) (sym (take-min 32 groups)) ∙ sym (take-map (value_of_run column) 32 groups) ∙ ap (take 32) sorted.groups_are.values

  pub remaining_values : map (value_of_run column) (drop (min (length groups) 32) groups) ≡ remaining column
  remaining_values = ap (map (value_of_run column)) (sym (drop-min 32 groups)) ∙ sym (drop-map (value_of_run column) 32 groups) ∙ ap (drop 32) sorted.groups_are.values

  pub frequent_by_runs : (cell : ℕ) → list_any (λ v. eqb v cell) (map (value_of_run column) (take (min (length groups) 32) groups)) ≡ is_frequent (zip column joined) cell
  frequent_by_runs cell = ap (list_any (λ v. eqb v cell)) (frequent_values ∙ ap frequent (sym (filter_values-zip column joined same)))

  slice_is : (from count : ℕ) → slice_range places from (from + count) ≡ take count (drop from places)
  slice_is from count = (let is : (from + count) - from ≡ count = omega arith in ap (λ m. take m (drop from places)) is)

  window_list : (p : ℕ → Bool) (from count : ℕ) → IsWindow column places p from count
      → degree_list (keys_at joined (slice_range places from (from + count))) ≡ degree_list (keys_where p (zip column joined))
  window_list p from count window = ap (λ s. degree_list (keys_at joined s)) (slice_is from count) ∙ window_degrees column joined places p from count same sorted.moved window

  pub group_list : (k cell : ℕ) (group : ValueRun) (n : ℕ) → Contains (take n groups) group → value_of_run column group ≡ cell
      → compressed_degrees k (keys_at joined (slice_range places group.start (group.start + group.count))) ≡ compressed_degrees k (keys_with cell (zip column joined))
  group_list k cell group n there is =
      let window : IsWindow column places (λ v. eqb v (value_of_run column group)) group.start group.count =
      All-contains (λ g. IsWindow column places (λ v. eqb v (value_of_run column g)) g.start g.count) (take n groups) group
      (All-take (λ g. IsWindow column places (λ v. eqb v (value_of_run column g)) g.start g.count) n groups sorted.groups_are.windows) there in
      ap (compressed k) (window_list (λ v. eqb v (value_of_run column group)) group.start group.count window ∙ ap (λ v. degree_list (keys_with v (zip column joined))) is)

  lists_of_groups : (gs : List ValueRun) → All (λ g. IsWindow column places (λ v. eqb v (value_of_run column g)) g.start g.count) gs
      → map (degrees_of_run joined places) gs ≡ map (λ v. degree_list (keys_with v (zip column joined))) (map (value_of_run column) gs)
  lists_of_groups [] windows = refl
  lists_of_groups (g ∷ gs) windows =
      let here : degrees_of_run joined places g ≡ degree_list (keys_with (value_of_run column g) (zip column joined)) =
      window_list (λ v. eqb v (value_of_run column g)) g.start g.count (windows 0 g (omega arith)) in
      rw (here, lists_of_groups gs (λ k d h. windows (suc k) d (omega arith))) refl

  counts_of_groups : (gs : List ValueRun) → All (λ g. IsWindow column places (λ v. eqb v (value_of_run column g)) g.start g.count) gs
      → map (λ g. g.count) gs ≡ map (degree column) (map (value_of_run column) gs)
  counts_of_groups [] windows = refl
  counts_of_groups (g ∷ gs) windows =
      let here : g.count ≡ degree column (value_of_run column g) =
      window_count column places (λ v. eqb v (value_of_run column g)) g.start g.count sorted.moved (windows 0 g (omega arith)) in
      rw (here, counts_of_groups gs (λ k d h. windows (suc k) d (omega arith))) refl

  pub rest_is : (k : ℕ) → compressed k (capped_at (maxima (map (degrees_of_run joined places) (drop (min (length groups) 32) groups))) (greatest (map (λ g. g.count) (drop (min (length groups) 32) groups))))
      ≡ rest k (zip column joined)
  unfolding rest
  rest_is k =
      let back : List ValueRun = drop (min (length groups) 32) groups in
      let windows : All (λ g. IsWindow column places (λ v. eqb v (value_of_run column g)) g.start g.count) back =
      All-drop (λ g. IsWindow column places (λ v. eqb v (value_of_run column g)) g.start g.count) (min (length groups) 32) groups sorted.groups_are.windows in
      let values : map (value_of_run column) back ≡ remaining column = remaining_values in
      ap (λ ls. compressed k (capped_at (maxima ls) (greatest (map (λ g. g.count) back)))) (lists_of_groups back windows ∙ ap (map (λ v. degree_list (keys_with v (zip column joined)))) values)
      ∙ ap (λ ns. compressed k (capped_at (maxima (map (λ v. degree_list (keys_with v (zip column joined))) (remaining column))) (greatest ns))) (counts_of_groups back windows ∙ ap (map (degree column)) values)
      ∙ ap (λ c. compressed k (capped_at (maxima (map (λ v. degree_list (keys_with v (zip column joined))) (remaining c))) (greatest (map (degree c) (remaining c))))) (sym (filter_values-zip column joined same))

  -- ---- the lists of nodes

  abbrev leaf_at : ℕ → ℕ
  leaf_at k = leaf_of at_most column (get_or column (get_or places k 0) 0)

  pub starts_ascend : (a b : ℕ) → a ≤ b → b ≤ 32 → get_or starts a 0 ≤ get_or starts b 0
  starts_ascend a b low high = elim (cases_lt (get_or starts b 0) (get_or starts a 0)) [
    | inl h ↦ (let k : ℕ = get_or starts b 0 in
        let within : k < length places = omega (arith, sorted.starts_are.within a) in
        let above : b ≤ leaf_at k = ltb-false (leaf_at k) b (sorted.starts_are.tell b k high within ∙ le-ltb k (get_or starts b 0) (omega arith)) in
        let below : leaf_at k < a = ltb-true (leaf_at k) a (sorted.starts_are.tell a k (omega arith) within ∙ lt-ltb k (get_or starts a 0) h) in
        absurd (omega arith))
    | inr h ↦ h
  ]

  node_window : (size leaf : ℕ) → 0 < size → leaf / size * size + size ≤ 32
      → IsWindow column places (λ v. in_node size leaf (leaf_of at_most column v)) (get_or starts (leaf / size * size) 0) (get_or starts (leaf / size * size + size) 0 - get_or starts (leaf / size * size) 0)
  node_window size leaf some high =
      let first : ℕ = leaf / size * size in
      let last : ℕ = first + size in
      let ascend : get_or starts first 0 ≤ get_or starts last 0 = starts_ascend first last (omega arith) high in
      let ends : get_or starts last 0 ≤ length places = sorted.starts_are.within last in
      record {
        ends = omega arith;
        inside = λ k from to.
            (let within : k < length places = omega arith in
            eq-eqb (leaf_at k / size) (leaf / size)
            (node_inside size leaf (leaf_at k) some
            (ltb-false (leaf_at k) first (sorted.starts_are.tell first k (omega arith) within ∙ le-ltb k (get_or starts first 0) from))
            (ltb-true (leaf_at k) last (sorted.starts_are.tell last k high within ∙ lt-ltb k (get_or starts last 0) (omega arith)))));
        before = λ k to.
            (let within : k < length places = omega arith in
            let below : leaf_at k < first = ltb-true (leaf_at k) first (sorted.starts_are.tell first k (omega arith) within ∙ lt-ltb k (get_or starts first 0) to) in
            ne_eqb (leaf_at k / size) (leaf / size)
            (λ alike. omega (arith, below, div-mul-le_self (leaf_at k) size, ap (λ m. m * size) alike)));
        after = λ k from within.
            (let above : last ≤ leaf_at k = ltb-false (leaf_at k) last (sorted.starts_are.tell last k high within ∙ le-ltb k (get_or starts last 0) (omega arith)) in
            ne_eqb (leaf_at k / size) (leaf / size)
            (λ alike. (let more : suc (leaf / size) ≤ leaf_at k / size = le-div (suc (leaf / size)) (leaf_at k) size some (omega arith) in omega (arith, more, alike))));
      }

  pub node_list : (k size leaf : ℕ) → 0 < size → leaf / size * size + size ≤ 32
      → compressed_degrees k (keys_at joined (slice_range places (get_or starts (leaf / size * size) 0) (get_or starts (leaf / size * size + size) 0))) ≡ list_of_node at_most k (zip column joined) size leaf
  unfolding list_of_node
  node_list k size leaf some high =
      let first : ℕ = leaf / size * size in
      let from : ℕ = get_or starts first 0 in
      let count : ℕ = get_or starts (first + size) 0 - from in
      let ascend : from ≤ get_or starts (first + size) 0 = starts_ascend first (first + size) (omega arith) high in
      let to : from + count ≡ get_or starts (first + size) 0 = omega arith in
      ap (λ m. compressed_degrees k (keys_at joined (slice_range places from m))) (sym to)
      ∙ ap (compressed k) (window_list (λ v. in_node size leaf (leaf_of at_most column v)) from count (node_window size leaf some high))
      ∙ ap (λ c. compressed_degrees k (keys_where (λ v. in_node size leaf (leaf_of at_most c v)) (zip column joined))) (sym (filter_values-zip column joined same))

  pub places_are_rows : All (λ place. place < length joined) places
  places_are_rows = All-permutation (λ place. place < length joined) (range_with_len 0 (length column)) places sorted.moved
      (All-from_get_or (λ place. place < length joined) (range_with_len 0 (length column)) 0
      (λ i within. omega (arith, same, get_or-range_with_len 0 (length column) i 0 (omega (arith, length-range_with_len 0 (length column))), length-range_with_len 0 (length column))))

  pub places_as_long_as_column : length places ≡ length column
  places_as_long_as_column = length_permutation (range_with_len 0 (length column)) places sorted.moved ∙ length-range_with_len 0 (length column)

  pub found_is_frequent : (cell : ℕ) (group : ValueRun) → Contains (take (min (length groups) 32) groups) group → value_of_run column group ≡ cell → is_frequent (zip column joined) cell ≡ true
  found_is_frequent cell group there value = sym (frequent_by_runs cell) ∙ any_contained (value_of_run column) (take (min (length groups) 32) groups) group cell there value
