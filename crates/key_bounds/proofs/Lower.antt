-- If bounds of entries are lowered, the bound of a set doesn't rise. The proof uses nearness: for every K the lower bounds are near the upper ones.
-- So the lower set bound, times K^n, is at most the upper set bound times (K + 1)^n. For large K this implies that the lower set bound is at most the
-- upper set bound.
use Rattle.std.proofs.Common.{◌≡◌, ℕ, zero, suc, ◌+◌, ◌*◌, ◌^◌, ◌<◌, ◌≤◌, List, [], ◌∷◌, length, refl, ap, arith, inl, inr}
use Rattle.std.specs.List.{AllByRecursion}
use Rattle.std.proofs.Math.Nat.{mul-le-mul_left, pow-succ', pow-zero}
use Rattle.std.proofs.lemmas.Bool.{cases_lt}
use Rattle.degree_sequences.specs.RunningSums.{HasHigherSums, running_sum}
use Rattle.berge_tree.specs.declared.edges.Edge.{Edge}
use Rattle.berge_tree.specs.declared.edges.Place.{Place}
use Rattle.berge_tree.specs.Equalities.{places_of}
use Rattle.entry_sets.specs.Sets.{entries_of_set}
use Rattle.join_graph.specs.Kept.{equalities_within}
use Rattle.tree_bounds.specs.Columns.{EachNamedColumn}
use Rattle.tree_bounds.specs.Nearness.{ListIsNear, RowsAreNear, SetIsNear}
use Rattle.tree_bounds.specs.SetBounds.{SetHasLists, bound_of_set}
use Rattle.tree_bounds.specs.TreeBounds.{EntryBounds}
use Rattle.tree_bounds.proofs.NearSets.{set_near}

-- ---- growth of (k + 1)^n relative to k^n

abbrev excess : ℕ → ℕ
excess zero = 0
excess (suc n) = 2 * excess n + 1

one_more : (j p q e : ℕ) → p * (j + 1) ≤ q * ((j + 1) + e) → ((j + 2) * p) * (j + 1) ≤ ((j + 1) * q) * ((j + 1) + (2 * e + 1))
one_more j p q e ih = omega (arith, mul-le-mul_left (j + 2) ih)

grows : (j n : ℕ) → (j + 2) ^ n * (j + 1) ≤ (j + 1) ^ n * ((j + 1) + excess n)
grows j zero = rw (pow-zero (j + 2), pow-zero (j + 1)) (omega arith)
grows j (suc n) =
    rw (pow-succ' (j + 2) n, pow-succ' (j + 1) n) (one_more j ((j + 2) ^ n) ((j + 1) ^ n) (excess n) (grows j n))

-- ---- if a number is near another number at every k, it is at most that number

never_above : (k p q e lower upper : ℕ) → k ≡ e * upper + 1 → 0 < q → p * k ≤ q * (k + e) → q * lower ≤ p * upper → upper < lower → ⊥
never_above k p q e lower upper is is_positive growth near above =
    let near_too : k * (q * lower) ≤ k * (p * upper) = mul-le-mul_left k near in
    let growth_too : upper * (p * k) ≤ upper * (q * (k + e)) = mul-le-mul_left upper growth in
    let above_too : (k * q) * (upper + 1) ≤ (k * q) * lower = mul-le-mul_left (k * q) (omega arith) in
    let is_multiplied : q * k ≡ q * (e * upper + 1) = ap (λ (n : ℕ). q * n) is in
    omega arith

pub at_most : (n lower upper : ℕ) → ((k : ℕ) → k ^ n * lower ≤ (k + 1) ^ n * upper) → lower ≤ upper
at_most n lower upper near = elim (cases_lt upper lower) [
  | inr most ↦ most
  | inl above ↦
      let j : ℕ = excess n * upper in
      absurd (never_above (j + 1) ((j + 2) ^ n) ((j + 1) ^ n) (excess n) lower upper refl (pow_pos_of (j + 1) n (omega arith)) (grows j n) (near_here j) above)
]
  where
    pow_pos_of : (k n : ℕ) → 0 < k → 0 < k ^ n
    pow_pos_of k zero is_positive = rw (pow-zero k) (omega arith)
    pow_pos_of k (suc n) is_positive = rw (pow-succ' k n) (positive k (k ^ n) is_positive (pow_pos_of k n is_positive))
      where
        positive : (a b : ℕ) → 0 < a → 0 < b → 0 < a * b
        positive zero b h i = absurd (omega arith)
        positive (suc a) b h i = omega arith

    near_here : (j : ℕ) → (j + 1) ^ n * lower ≤ (j + 2) ^ n * upper
    near_here j = let same : j + 1 + 1 ≡ j + 2 = omega arith in rw same at (near (j + 1))

-- ---- the bounds of a set from lowered bounds of entries

weaker_at_each : (P Q : ℕ → Type 0) → ((x : ℕ) → P x → Q x) → (xs : List ℕ) → AllByRecursion P xs → AllByRecursion Q xs
weaker_at_each P Q more [] all = tt
weaker_at_each P Q more (x ∷ xs) all = (more x all.0, weaker_at_each P Q more xs all.1)

weaker_places : (P Q : ℕ → ℕ → Type 0) → ((entry column : ℕ) → P entry column → Q entry column) → (places : List Place)
    → AllByRecursion (λ p. P p.entry p.column) places → AllByRecursion (λ p. Q p.entry p.column) places
weaker_places P Q more [] all = tt
weaker_places P Q more (p ∷ places) all = (more p.entry p.column all.0, weaker_places P Q more places all.1)

scaled : (accuracy m n : ℕ) → m ≤ n → accuracy * m ≤ (accuracy + 1) * n
scaled accuracy m n most = omega (arith, mul-le-mul_left accuracy most)

pub record SetIsAbove (upper lower : EntryBounds) (es : List Edge) (subset : ℕ) : Type 0 where
  pub rows : AllByRecursion (λ entry. lower.rows entry ≤ upper.rows entry) (entries_of_set subset)
  pub columns : EachNamedColumn (λ entry column. HasHigherSums (upper.list entry column) (lower.list entry column)) (equalities_within subset es)

pub set_at_most : (upper lower : EntryBounds) (es : List Edge) (subset : ℕ) → SetHasLists lower es subset → SetHasLists upper es subset → SetIsAbove upper lower es subset
    → bound_of_set lower es subset ≤ bound_of_set upper es subset
set_at_most upper lower es subset have have_too above =
    at_most (length (entries_of_set subset)) (bound_of_set lower es subset) (bound_of_set upper es subset) (λ accuracy. set_near accuracy lower upper es subset have have_too (near accuracy))
  where
    near : (accuracy : ℕ) → SetIsNear accuracy lower upper es subset
    near accuracy = record {
      rows = weaker_at_each (λ entry. lower.rows entry ≤ upper.rows entry) (RowsAreNear accuracy lower upper) (λ entry most. scaled accuracy (lower.rows entry) (upper.rows entry) most) (entries_of_set subset) above.rows;
      columns = weaker_places (λ entry column. HasHigherSums (upper.list entry column) (lower.list entry column)) (ListIsNear accuracy lower upper)
          (λ entry column is r. scaled accuracy (running_sum (lower.list entry column) r) (running_sum (upper.list entry column) r) (is r))
          (places_of (equalities_within subset es)) above.columns;
    }
