-- Suppose that several lists dominate the same keys. The least of these lists dominates them too. The least of several row bounds is still a row
-- bound.
use Rattle.std.proofs.Common.{◌≡◌, ℕ, ◌≤◌, min, List, [], ◌∷◌, length, map, sum, refl, ap, ◌∙◌, arith}
use Rattle.std.specs.List.{AllByRecursion}
use Rattle.degree_sequences.specs.Domination.{DominatesKeys}
use Rattle.degree_sequences.specs.Descending.{IsDescending}
use Rattle.degree_sequences.specs.RunningSums.{HasHigherSums, lesser}
use Rattle.degree_sequences.proofs.Minima.{IsDescending-lesser, running_sum-lesser}
use Rattle.filtered_lists.proofs.Lists.{sum-lesser}
use Rattle.berge_tree.specs.declared.edges.Edge.{Edge}
use Rattle.key_bounds.specs.Bounds.{least_list, least_rows}

both_dominate : (s t keys : List ℕ) → DominatesKeys s keys → DominatesKeys t keys → DominatesKeys (lesser s t) keys
both_dominate s t keys h k picked apart = omega (arith, running_sum-lesser s t (length picked), h picked apart, k picked apart)

module _ (made : Edge → List ℕ) where
  pub least_dominates : (keys list : List ℕ) (es : List Edge) → DominatesKeys list keys → AllByRecursion (λ e. DominatesKeys (made e) keys) es
      → DominatesKeys (least_list list (map made es)) keys
  least_dominates keys list [] first each = first
  least_dominates keys list (e ∷ es) first each = least_dominates keys (lesser list (made e)) es (both_dominate list (made e) keys first each.0) each.1

  pub least_falls : (list : List ℕ) (es : List Edge) → IsDescending list → ((e : Edge) → IsDescending (made e)) → IsDescending (least_list list (map made es))
  least_falls list [] first each = first
  least_falls list (e ∷ es) first each = least_falls (lesser list (made e)) es (IsDescending-lesser list (made e) first (each e)) each

  pub least_sum : (rows : Edge → ℕ) (list : List ℕ) (es : List Edge) → ((e : Edge) → sum (made e) ≡ rows e)
      → sum (least_list list (map made es)) ≡ least_rows (sum list) (map rows es)
  least_sum rows list [] each = refl
  least_sum rows list (e ∷ es) each =
      least_sum rows (lesser list (made e)) es each ∙ ap (λ (n : ℕ). least_rows n (map rows es)) (sum-lesser list (made e) ∙ ap (min (sum list)) (each e))

  pub least_below : (list : List ℕ) (es : List Edge) → HasHigherSums list (least_list list (map made es))
  least_below list [] r = omega arith
  least_below list (e ∷ es) r = omega (arith, least_below (lesser list (made e)) es r, running_sum-lesser list (made e) r)

module _ (rows : Edge → ℕ) where
  pub least_fits : (count first : ℕ) (es : List Edge) → count ≤ first → AllByRecursion (λ e. count ≤ rows e) es → count ≤ least_rows first (map rows es)
  least_fits count first [] most each = most
  least_fits count first (e ∷ es) most each =
      let here : count ≤ rows e = each.0 in
      least_fits count (min first (rows e)) es (omega arith) each.1

  pub least_at_most : (first : ℕ) (es : List Edge) → least_rows first (map rows es) ≤ first
  least_at_most first [] = omega arith
  least_at_most first (e ∷ es) = omega (arith, least_at_most (min first (rows e)) es)
