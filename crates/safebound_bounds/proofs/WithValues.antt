-- The rows that have a value in each joined column. A key is at most as frequent among these rows as among the values of the column. So a list that
-- dominates the values, cut at the number of these rows, dominates the keys of these rows.
use Rattle.std.proofs.Common.{◌≡◌, ℕ, zero, suc, ◌+◌, ◌-◌, ◌<◌, ◌≤◌, Bool, true, false, cond, eqb, List, [], ◌∷◌, ◌++◌, length, map, get_or, replicate, Option, Some, None, refl, sym, subst, sum, arith, inl, inr}
use Rattle.std.specs.Prelude.{unwrap_or}
use Rattle.std.specs.List.{Contains, IsDistinct, filter, range_with_len, sum_by}
use Rattle.std.proofs.lemmas.Bool.{cases_eq}
use Rattle.std.proofs.lemmas.List.Sums.{sum_by-cons, sum_by-le-sum_by}
use Rattle.entry_sets.proofs.Listing.{in_front, in_rest}
use Rattle.degree_sequences.specs.Degrees.{degree, degree_list}
use Rattle.degree_sequences.specs.Domination.{DominatesKeys}
use Rattle.degree_sequences.specs.RunningSums.{capped_at, running_sum}
use Rattle.degree_sequences.proofs.DegreeLists.{degree_list_dominates, degrees_dominated, keys_dominated, sum-degree_list}
use Rattle.degree_sequences.proofs.Minima.{running_sum-capped_at}
use Rattle.degree_sequences.proofs.RunningSums.{running_sum-le-sum}
use Rattle.safebound_bounds.specs.Meaning.{fitted, fitted_or_empty}
use Rattle.safebound_bounds.specs.Values.{values_that_exist}

-- ---- the rows that pass a test

pub row_in : (t : ℕ → Bool) (i n row : ℕ) → i ≤ row → row < i + n → t row ≡ true → Contains (filter t (range_with_len i n)) row
row_in t i zero row from below passes = absurd (omega (arith, from, below))
row_in t i (suc n) row from below passes = elim (cases_eq row i) [
  | inl here ↦ (let first : t i ≡ true = subst (λ (k : ℕ). t k ≡ true) here passes in rw first (in_front i (filter t (range_with_len (i + 1) n)) row here))
  | inr later ↦ still_contained (t i) (row_in t (i + 1) n row (omega (arith, from, later)) (omega (arith, below)) passes)
]
  where
    still_contained : (b : Bool) → Contains (filter t (range_with_len (i + 1) n)) row → Contains (cond b (i ∷ filter t (range_with_len (i + 1) n)) (filter t (range_with_len (i + 1) n))) row
    still_contained true there = in_rest i (filter t (range_with_len (i + 1) n)) row there
    still_contained false there = there

passing_of_range_are_at_most : (t : ℕ → Bool) (i n : ℕ) → length (filter t (range_with_len i n)) ≤ n
passing_of_range_are_at_most t i zero = omega arith
passing_of_range_are_at_most t i (suc n) = by (t i) (passing_of_range_are_at_most t (i + 1) n)
  where
    by : (b : Bool) → length (filter t (range_with_len (i + 1) n)) ≤ n → length (cond b (i ∷ filter t (range_with_len (i + 1) n)) (filter t (range_with_len (i + 1) n))) ≤ suc n
    by true rest = omega (arith, rest)
    by false rest = omega (arith, rest)

pub passing_are_at_most : (t : ℕ → Bool) (n : ℕ) → length (filter t (range_with_len 0 n)) ≤ n
passing_are_at_most t n = passing_of_range_are_at_most t 0 n

-- ---- how often a key occurs

degree-cons : (key : ℕ) (keys : List ℕ) (a : ℕ) → degree (key ∷ keys) a ≡ cond (eqb key a) 1 0 + degree keys a
degree-cons key keys a = sum_by-cons (λ (k : ℕ). cond (eqb k a) 1 0) key keys

module _ (t : ℕ → Bool) (key : ℕ → ℕ) where
  abbrev HaveKeys : ℕ → List (Option ℕ) → Type 0
  HaveKeys i values = (k : ℕ) → k < length values → t (i + k) ≡ true → get_or values k None ≡ Some (key (i + k))

  later_keys : (i : ℕ) (v : Option ℕ) (values : List (Option ℕ)) → HaveKeys i (v ∷ values) → HaveKeys (i + 1) values
  later_keys i v values have k low passes =
      let same : i + suc k ≡ i + 1 + k = omega arith in
      subst (λ (n : ℕ). get_or values k None ≡ Some (key n)) same (have (suc k) (omega (arith, low)) (subst (λ (n : ℕ). t n ≡ true) (sym same) passes))

  first_key : (i : ℕ) (v : Option ℕ) (values : List (Option ℕ)) → HaveKeys i (v ∷ values) → t i ≡ true → v ≡ Some (key i)
  first_key i v values have passes =
      let same : i + 0 ≡ i = omega arith in
      subst (λ (n : ℕ). v ≡ Some (key n)) same (have 0 (omega arith) (subst (λ (n : ℕ). t n ≡ true) (sym same) passes))

  abbrev passing : ℕ → ℕ → List ℕ
  passing i n = map key (filter t (range_with_len i n))

  some_same : (x y : ℕ) → Some x ≡ Some y → x ≡ y
  some_same x y h = cc h

  keys_are_at_most_values : (i : ℕ) (values : List (Option ℕ)) → HaveKeys i values → (a : ℕ) → degree (passing i (length values)) a ≤ degree (values_that_exist values) a
  keys_are_at_most_values i [] have a = omega arith
  keys_are_at_most_values i (v ∷ values) have a =
      by (t i) refl v (first_key i v values have) (keys_are_at_most_values (i + 1) values (later_keys i v values have) a)
    where
      by : (b : Bool) → t i ≡ b → (v : Option ℕ) → (t i ≡ true → v ≡ Some (key i)) → degree (passing (i + 1) (length values)) a ≤ degree (values_that_exist values) a
          → degree (map key (cond b (i ∷ filter t (range_with_len (i + 1) (length values))) (filter t (range_with_len (i + 1) (length values))))) a ≤ degree (values_that_exist (v ∷ values)) a
      by true is None first rest = absurd (cc (first is))
      by true is (Some x) first rest =
          let same : x ≡ key i = some_same x (key i) (first is) in
          rw same (omega (arith, degree-cons (key i) (passing (i + 1) (length values)) a, degree-cons (key i) (values_that_exist values) a, rest))
      by false is None first rest = rest
      by false is (Some x) first rest = omega (arith, degree-cons x (values_that_exist values) a, rest)

  rows_are_at_most_values : (i : ℕ) (values : List (Option ℕ)) → HaveKeys i values → length (filter t (range_with_len i (length values))) ≤ length (values_that_exist values)
  rows_are_at_most_values i [] have = omega arith
  rows_are_at_most_values i (v ∷ values) have =
      by (t i) refl v (first_key i v values have) (rows_are_at_most_values (i + 1) values (later_keys i v values have))
    where
      by : (b : Bool) → t i ≡ b → (v : Option ℕ) → (t i ≡ true → v ≡ Some (key i)) → length (filter t (range_with_len (i + 1) (length values))) ≤ length (values_that_exist values)
          → length (cond b (i ∷ filter t (range_with_len (i + 1) (length values))) (filter t (range_with_len (i + 1) (length values)))) ≤ length (values_that_exist (v ∷ values))
      by true is None first rest = absurd (cc (first is))
      by true is (Some x) first rest = omega (arith, rest)
      by false is None first rest = rest
      by false is (Some x) first rest = omega (arith, rest)

  pub keys_are_values : (values : List (Option ℕ)) → ((k : ℕ) → k < length values → t k ≡ true → get_or values k None ≡ Some (key k))
      → ((a : ℕ) → degree (passing 0 (length values)) a ≤ degree (values_that_exist values) a) × (length (filter t (range_with_len 0 (length values))) ≤ length (values_that_exist values))
  keys_are_values values have =
      let from_first : HaveKeys 0 values = λ k low passes.
      let same : 0 + k ≡ k = omega arith in
      subst (λ (n : ℕ). get_or values k None ≡ Some (key n)) (sym same) (have k low (subst (λ (n : ℕ). t n ≡ true) same passes)) in
      (keys_are_at_most_values 0 values from_first, rows_are_at_most_values 0 values from_first)

-- ---- lists that dominate the keys of these rows

weighs_within : (keys picked : List ℕ) → IsDistinct eqb picked → sum_by (degree keys) picked ≤ length keys
weighs_within keys picked distinct =
    omega (
      arith,
      degrees_dominated (degree_list keys) keys (degree_list_dominates keys) picked distinct,
      running_sum-le-sum (degree_list keys) (length picked),
      sum-degree_list keys,
    )

front_sums_to_at_most_whole : (s t : List ℕ) (r : ℕ) → running_sum s r ≤ running_sum (s ++ t) r
front_sums_to_at_most_whole s t zero = omega arith
front_sums_to_at_most_whole [] t (suc r) = omega arith
front_sums_to_at_most_whole (x ∷ s) t (suc r) = omega (arith, front_sums_to_at_most_whole s t r)

module _ (keys others : List ℕ) (lesser_degrees : (a : ℕ) → degree keys a ≤ degree others a) where
  weight_is_at_most : (picked : List ℕ) → sum_by (degree keys) picked ≤ sum_by (degree others) picked
  weight_is_at_most picked = sum_by-le-sum_by (degree keys) (degree others) picked lesser_degrees

  pub cut_dominates : (rows : ℕ) → length keys ≤ rows → (o : Option (List ℕ)) → DominatesKeys (unwrap_or o []) others → DominatesKeys (fitted_or_empty rows o) keys
  cut_dominates rows within None dominates = keys_dominated [] keys (λ picked distinct. omega (arith, weight_is_at_most picked, degrees_dominated [] others dominates picked distinct))
  cut_dominates rows within (Some list) dominates =
      keys_dominated (fitted rows list) keys (λ picked distinct.
      omega (
        arith,
        weight_is_at_most picked,
        degrees_dominated list others dominates picked distinct,
        weighs_within keys picked distinct,
        running_sum-capped_at list rows (length picked),
        front_sums_to_at_most_whole (capped_at list rows) (replicate (rows - sum (capped_at list rows)) 1) (length picked),
        within,
      ))
