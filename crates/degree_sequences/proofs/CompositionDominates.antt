-- A composition dominates the weights that rows give to their parent keys.
use Rattle.std.proofs.Common.{Bool, List, [], ap, arith, cond, eqb, false, get_or, inl, inr, length, ltb, map, refl, suc, sum, sym, true, ℕ, ◌*◌, ◌-◌, ◌<◌, ◌∙◌, ◌∷◌, ◌≡◌, ◌≤◌}
use Rattle.std.proofs.Math.Nat.{mul_comm}
use Rattle.std.proofs.lemmas.Bool.{cases_Bool, lt-ltb, ltb-true}
use Rattle.std.proofs.lemmas.List.{get_or-replicate, length-map}
use Rattle.std.proofs.lemmas.List.Sums.{count_by-le-length, length-filter, sum_by-cons}
use Rattle.std.specs.List.{AllByRecursion, AllZip, IsDistinct, filter, range_with_len, sum_by}
use Rattle.std.proofs.lemmas.List.FromFn.{length-range_with_len}
use Rattle.degree_sequences.proofs.ByRank.{get_or-rank_product}
use Rattle.degree_sequences.proofs.Counting.{All-filter, IsDistinct-different, IsDistinct-filter, all_if_true_of_any, is_in, is_in-different, sum_by-both, sum_by-filter, sum_by-map, sum_by-nothing, sum_by-same, weaken_each}
use Rattle.degree_sequences.proofs.DegreeLists.{length_at_most_sum}
use Rattle.degree_sequences.proofs.Indices.{All-range, IsDistinct-range, count_by-degree, count_by-le-places, is_in-range, key_weight, length-le-members, sum_by-keys, sum_by-places}
use Rattle.degree_sequences.proofs.ProductDominates.{rank_product_dominates}
use Rattle.degree_sequences.proofs.RowWeights.{get_or-row_weights, spreads}
use Rattle.degree_sequences.proofs.RunningSums.{running_sum-agree, running_sum-block_sums, running_sum-le-sum, running_sum-mono, running_sum-ones, running_sum-trimmed}
use Rattle.degree_sequences.proofs.Spread.{IsDescending-spread, cut_with_zeros, get_or-spread, running_sum-cut_with_zeros, running_sum-cut_product-le, spread}
use Rattle.degree_sequences.specs.ByRank.{rank_product}
use Rattle.degree_sequences.specs.Composition.{ChildLists, block_sums, composed, root_total, row_weights, weight_by_rank}
use Rattle.degree_sequences.specs.Degrees.{degree, different}
use Rattle.degree_sequences.specs.Domination.{DominatesKeys, DominatesWeights}
use Rattle.degree_sequences.specs.KeyedRows.{ChildKeys, DominatesChild, weight_of_key, weight_of_row}
use Rattle.degree_sequences.specs.Rank.{rank}
use Rattle.degree_sequences.specs.RunningSums.{running_sum}

pub All-below : (n : ℕ) (A : List ℕ) → AllByRecursion (λ a. a < n) (filter (λ i. ltb i n) A)
All-below n [] = tt
All-below n (a ∷ A) = elim (cases_Bool (ltb a n)) [
  | inl e ↦ rw e (ltb-true a n e, All-below n A)
  | inr e ↦ rw e (All-below n A)
]

pub keys_of_rows_dominated : (g keys : List ℕ) → DominatesKeys g keys → (B : List ℕ) → IsDistinct eqb B → AllByRecursion (λ b. b < length keys) B
    → DominatesWeights (cut_with_zeros g (length B)) (degree (map (λ i. get_or keys i 0) B))
keys_of_rows_dominated g keys dom B apart below E apart_E =
    let key : ℕ → ℕ = λ i. get_or keys i 0 in
    let K : List ℕ = map key B in
    omega (
      arith,
      count_by-degree K E apart_E,
      running_sum-cut_with_zeros g (length B) (length E),
      count_by-le-length (is_in E) K,
      length-map B key,
      sum_by-map (λ x. cond (is_in E x) 1 0) key B,
      count_by-le-places (λ i. is_in E (key i)) (length keys) B apart below,
      sum_by-places (λ x. cond (is_in E x) 1 0) keys,
      dom E apart_E,
    )

-- The child's class list, spread over its column, dominates the weights of the rows. (Spread: element r of the class list is repeated c times,
-- where c is element r of the column's list.)
pub child_dominates : (n : ℕ) (c : ChildLists) (k : ChildKeys) → DominatesChild n c k
    → DominatesWeights (spread c.column c.class) (λ i. cond (ltb i n) (k.weight (get_or k.keys i 0)) 0)
child_dominates n c k d A apart =
    let key : ℕ → ℕ = λ i. get_or k.keys i 0 in
    let B : List ℕ = filter (λ i. ltb i n) A in
    let apart_B : IsDistinct eqb B = IsDistinct-filter (λ i. ltb i n) A apart in
    let below : AllByRecursion (λ b. b < length k.keys) B = rw d.key_per_row (All-below n A) in
    let K : List ℕ = map key B in
    let D : List ℕ = different K in
    let m : ℕ = length B in
    let short : m ≤ length A = omega (arith, length-filter (λ i. ltb i n) A, count_by-le-length (λ i. ltb i n) A) in
    let law : DominatesWeights (rank_product (cut_with_zeros c.column m) c.class) (λ a. degree K a * k.weight a) =
    rank_product_dominates (cut_with_zeros c.column m) c.class (degree K) k.weight d.class_is_descending (keys_of_rows_dominated c.column k.keys d.column B apart_B below) d.class in
    omega (
      arith,
      sum_by-filter (λ i. ltb i n) (λ i. k.weight (key i)) A,
      sum_by-map k.weight key B,
      sum_by-keys k.weight D (IsDistinct-different K) K (is_in-different K),
      law D (IsDistinct-different K),
      running_sum-cut_product-le c.column c.class m (length D),
      running_sum-mono (spread c.column c.class) m (length A) short,
    )

pub rows_dominated : (total n : ℕ) → n ≤ total → (cs : List ChildLists) (ks : List ChildKeys) → AllZip (DominatesChild n) cs ks
    → DominatesWeights (spreads cs total) (λ i. cond (ltb i n) (weight_of_row ks i) 0)
rows_dominated total n fits [] [] all A apart =
    let B : List ℕ = filter (λ i. ltb i n) A in
    let few : length B ≤ length (range_with_len 0 n) = length-le-members B (range_with_len 0 n) (IsDistinct-filter (λ i. ltb i n) A apart) (members B (All-below n A)) in
    omega (arith, few, length-range_with_len 0 n, length-filter (λ i. ltb i n) A, count_by-le-length (λ i. ltb i n) A, running_sum-ones total (length A))
  where
    members : (B : List ℕ) → AllByRecursion (λ a. a < n) B → AllByRecursion (λ b. is_in (range_with_len 0 n) b ≡ true) B
    members B h = weaken_each (λ a. a < n) (λ b. is_in (range_with_len 0 n) b ≡ true) (λ b k. is_in-range 0 n b (omega arith) (omega arith)) B h
rows_dominated total n fits [] (k ∷ ks) all A apart = absurd all
rows_dominated total n fits (c ∷ cs) [] all A apart = absurd all
rows_dominated total n fits (c ∷ cs) (k ∷ ks) all A apart =
    let v : ℕ → ℕ = λ i. cond (ltb i n) (weight_of_row ks i) 0 in
    let w : ℕ → ℕ = λ i. cond (ltb i n) (k.weight (get_or k.keys i 0)) 0 in
    let both : (i : ℕ) → cond (ltb i n) (k.weight (get_or k.keys i 0) * weight_of_row ks i) 0 ≡ v i * w i = λ i. times (ltb i n) (k.weight (get_or k.keys i 0)) (weight_of_row ks i) in
    omega (
      arith,
      sum_by-same (λ i. cond (ltb i n) (k.weight (get_or k.keys i 0) * weight_of_row ks i) 0) (λ i. v i * w i) both A,
      rank_product_dominates (spreads cs total) (spread c.column c.class) v w (IsDescending-spread c.column c.class all.0.class_is_descending)
          (rows_dominated total n fits cs ks all.1) (child_dominates n c k all.0) A apart,
    )
  where
    times : (b : Bool) (x y : ℕ) → cond b (x * y) 0 ≡ cond b y 0 * cond b x 0
    times true x y = mul_comm x y
    times false x y = refl

pub get_or-spreads : (total n : ℕ) → n ≤ total → (cs : List ChildLists) (ks : List ChildKeys) → AllZip (DominatesChild n) cs ks → (k : ℕ) → k < n
    → get_or (spreads cs total) k 0 ≡ weight_by_rank cs (suc k)
get_or-spreads total n fits [] [] all k h = get_or-replicate total k 1 0 (omega arith)
get_or-spreads total n fits [] (k ∷ ks) all r h = absurd all
get_or-spreads total n fits (c ∷ cs) [] all r h = absurd all
get_or-spreads total n fits (c ∷ cs) (k ∷ ks) all r h =
    get_or-rank_product (spreads cs total) (spread c.column c.class) r
    ∙ mul_comm (get_or (spreads cs total) r 0) (get_or (spread c.column c.class) r 0)
    ∙ ap (λ x. x * get_or (spreads cs total) r 0) (get_or-spread c.column c.class r (omega (arith, length_at_most_sum c.column k.keys all.0.column, all.0.key_per_row)))
    ∙ ap (λ x. get_or c.class (rank c.column (suc r) - 1) 0 * x) (get_or-spreads total n fits cs ks all.1 r h)

pub rows_within : (total n : ℕ) → n ≤ total → (cs : List ChildLists) (ks : List ChildKeys) → AllZip (DominatesChild n) cs ks
    → (R : List ℕ) → IsDistinct eqb R → AllByRecursion (λ i. i < n) R → sum_by (weight_of_row ks) R ≤ running_sum (row_weights cs total) (length R)
rows_within total n fits cs ks all R apart below =
    let few : length R ≤ length (range_with_len 0 n) = length-le-members R (range_with_len 0 n) apart
    (weaken_each (λ a. a < n) (λ b. is_in (range_with_len 0 n) b ≡ true) (λ b k. is_in-range 0 n b (omega arith) (omega arith)) R below) in
    let agree : running_sum (spreads cs total) (length R) ≡ running_sum (row_weights cs total) (length R) =
    running_sum-agree (spreads cs total) (row_weights cs total) (length R)
    (λ k h. get_or-spreads total n fits cs ks all k (omega (arith, few, length-range_with_len 0 n)) ∙ sym (get_or-row_weights cs total k (omega (arith, few, length-range_with_len 0 n)))) in
    omega (arith, agree, whole R below, rows_dominated total n fits cs ks all R apart)
  where
    whole : (R : List ℕ) → AllByRecursion (λ i. i < n) R → sum_by (weight_of_row ks) R ≡ sum_by (λ i. cond (ltb i n) (weight_of_row ks i) 0) R
    whole [] h = refl
    whole (i ∷ R) h =
        let here : cond (ltb i n) (weight_of_row ks i) 0 ≡ weight_of_row ks i = rw (lt-ltb i n h.0) refl in
        omega (arith, here, sum_by-cons (weight_of_row ks) i R, sum_by-cons (λ i. cond (ltb i n) (weight_of_row ks i) 0) i R, whole R h.1)

pub by_parent : (h key : ℕ → ℕ) (A : List ℕ) → IsDistinct eqb A → (R : List ℕ)
    → sum_by (λ a. sum_by (λ i. cond (eqb (key i) a) (h i) 0) R) A ≡ sum_by (λ i. cond (is_in A (key i)) (h i) 0) R
by_parent h key A apart [] = sum_by-nothing (λ a. 0) A (all_if_true_of_any (λ a. 0 ≡ 0) (λ a. refl) A)
by_parent h key A apart (i ∷ R) =
    omega (
      arith,
      by_parent h key A apart R,
      key_weight (h i) (key i) A apart,
      sum_by-cons (λ i. cond (is_in A (key i)) (h i) 0) i R,
      sum_by-both (λ a. sum_by (λ i. cond (eqb (key i) a) (h i) 0) (i ∷ R)) (λ a. cond (eqb (key i) a) (h i) 0) (λ a. sum_by (λ i. cond (eqb (key i) a) (h i) 0) R)
          (λ a. sum_by-cons (λ i. cond (eqb (key i) a) (h i) 0) i R) A,
    )

pub composed_dominates : (g parents : List ℕ) (cs : List ChildLists) (ks : List ChildKeys) → DominatesKeys g parents
    → AllZip (DominatesChild (length parents)) cs ks → DominatesWeights (composed g cs) (weight_of_key parents ks)
composed_dominates g parents cs ks dom all A apart =
    let n : ℕ = length parents in
    let key : ℕ → ℕ = λ i. get_or parents i 0 in
    let R : List ℕ = filter (λ i. is_in A (key i)) (range_with_len 0 n) in
    let U : List ℕ = row_weights cs (sum g) in
    let many : length R ≤ running_sum g (length A) =
    omega (arith, length-filter (λ i. is_in A (key i)) (range_with_len 0 n), sum_by-places (λ x. cond (is_in A x) 1 0) parents, dom A apart) in
    let rows : sum_by (weight_of_row ks) R ≤ running_sum U (length R) =
    rows_within (sum g) n (length_at_most_sum g parents dom) cs ks all R (IsDistinct-filter (λ i. is_in A (key i)) (range_with_len 0 n) (IsDistinct-range 0 n))
    (All-filter (λ i. i < n) (λ i. is_in A (key i)) (range_with_len 0 n) (All-range 0 n n (omega arith))) in
    omega (
      arith,
      by_parent (weight_of_row ks) key A apart (range_with_len 0 n),
      sum_by-filter (λ i. is_in A (key i)) (weight_of_row ks) (range_with_len 0 n),
      rows,
      running_sum-mono U (length R) (running_sum g (length A)) many,
      running_sum-block_sums g U (length A),
      running_sum-trimmed (block_sums g U) (length A),
    )

pub root_at_least : (total n : ℕ) → n ≤ total → (cs : List ChildLists) (ks : List ChildKeys) → AllZip (DominatesChild n) cs ks
    → sum_by (weight_of_row ks) (range_with_len 0 n) ≤ root_total cs total
root_at_least total n fits cs ks all =
    omega (
      arith,
      rows_within total n fits cs ks all (range_with_len 0 n) (IsDistinct-range 0 n) (All-range 0 n n (omega arith)),
      running_sum-le-sum (row_weights cs total) (length (range_with_len 0 n)),
    )
