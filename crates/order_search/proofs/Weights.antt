-- The weight of a way through all entries is the cost of the order, or the sum of its bounds.
use Rattle.std.proofs.Common.{◌≡◌, ℕ, ◌+◌, ◌-◌, ◌^◌, ◌<◌, ◌≤◌, min, List, [], ◌∷◌, get_or, refl, ap, sym, ◌∙◌, sum, arith, inl, inr}
use Rattle.std.proofs.lemmas.Bool.{cases_lt}
use Rattle.order_search.specs.declared.weight.Weighing.TheVariants as weight
use Rattle.order_search.specs.Orders.{cost, greatest, total}
use Rattle.order_search.specs.Ways.{IsWay, bound_with, weight_of}
use Rattle.entry_sets.proofs.Bits.{power_within}
use Rattle.order_search.proofs.Lightest.{combined-beyond, combined-within}
use Rattle.order_search.proofs.Prefixes.{cost_is, levels_after, sum-cons, total_is}

placed_with : (all left entry : ℕ) (entries : List ℕ) → left ≤ all → IsWay left (entry ∷ entries) → all - (left - 2 ^ entry) ≡ all - left + 2 ^ entry
placed_with all left entry entries h way = omega (arith, power_within entry left way.0)

greatest_from : (bounds : List ℕ) (all left : ℕ) (way : List ℕ) → left ≤ all → IsWay left way → weight_of weight.Greatest bounds all left way ≡ greatest (levels_after bounds (all - left) way)
greatest_from bounds all left [] h is_way = refl
greatest_from bounds all left (entry ∷ entries) h is_way =
    let behind : weight_of weight.Greatest bounds all (left - 2 ^ entry) entries ≡ greatest (levels_after bounds (all - (left - 2 ^ entry)) entries) =
    greatest_from bounds all (left - 2 ^ entry) entries (omega arith) is_way.1 in
    rw (behind, placed_with all left entry entries h is_way) refl

sum_from : (most : ℕ) (bounds : List ℕ) (all left : ℕ) (way : List ℕ) → left ≤ all → IsWay left way → greatest (levels_after bounds (all - left) way) ≤ most
    → weight_of (weight.SumIfBoundsAtMost most) bounds all left way ≡ min (sum (levels_after bounds (all - left) way)) (2 ^ 128 - 1)
sum_from most bounds all left [] h is_way low = refl
sum_from most bounds all left (entry ∷ entries) h is_way low =
    let placed : all - (left - 2 ^ entry) ≡ all - left + 2 ^ entry = placed_with all left entry entries h is_way in
    let here : bound_with bounds all left entry ≡ get_or bounds (all - left + 2 ^ entry) 0 = ap (λ k. get_or bounds k 0) placed in
    let levels : levels_after bounds (all - (left - 2 ^ entry)) entries ≡ levels_after bounds (all - left + 2 ^ entry) entries = ap (λ k. levels_after bounds k entries) placed in
    let behind : weight_of (weight.SumIfBoundsAtMost most) bounds all (left - 2 ^ entry) entries ≡ min (sum (levels_after bounds (all - (left - 2 ^ entry)) entries)) (2 ^ 128 - 1) =
    sum_from most bounds all (left - 2 ^ entry) entries (omega arith) is_way.1 (omega (arith, ap greatest levels)) in
    omega (arith, combined-within most (bound_with bounds all left entry) (weight_of (weight.SumIfBoundsAtMost most) bounds all (left - 2 ^ entry) entries) (omega arith), behind, here, ap sum levels, sum-cons (get_or bounds (all - left + 2 ^ entry) 0) (levels_after bounds (all - left + 2 ^ entry) entries))

heaviest_from : (most : ℕ) (bounds : List ℕ) (all left : ℕ) (way : List ℕ) → left ≤ all → IsWay left way → most < greatest (levels_after bounds (all - left) way)
    → weight_of (weight.SumIfBoundsAtMost most) bounds all left way ≡ 2 ^ 128 - 1
heaviest_from most bounds all left [] h is_way high = absurd (omega arith)
heaviest_from most bounds all left (entry ∷ entries) h is_way high =
    let placed : all - (left - 2 ^ entry) ≡ all - left + 2 ^ entry = placed_with all left entry entries h is_way in
    let here : bound_with bounds all left entry ≡ get_or bounds (all - left + 2 ^ entry) 0 = ap (λ k. get_or bounds k 0) placed in
    let levels : levels_after bounds (all - (left - 2 ^ entry)) entries ≡ levels_after bounds (all - left + 2 ^ entry) entries = ap (λ k. levels_after bounds k entries) placed in
    elim (cases_lt most (bound_with bounds all left entry)) [
      | inl beyond ↦ combined-beyond most (bound_with bounds all left entry) (weight_of (weight.SumIfBoundsAtMost most) bounds all (left - 2 ^ entry) entries) beyond
      | inr within ↦ (let behind : weight_of (weight.SumIfBoundsAtMost most) bounds all (left - 2 ^ entry) entries ≡ 2 ^ 128 - 1 =
          heaviest_from most bounds all (left - 2 ^ entry) entries (omega arith) is_way.1 (omega (arith, ap greatest levels)) in
          omega (arith, combined-within most (bound_with bounds all left entry) (weight_of (weight.SumIfBoundsAtMost most) bounds all (left - 2 ^ entry) entries) within, behind))
    ]

-- ---- the weight of an order of all entries

pub weighs_cost : (bounds : List ℕ) (all : ℕ) (order : List ℕ) → IsWay all order → weight_of weight.Greatest bounds all all order ≡ cost bounds order
weighs_cost bounds all order way =
    let none : all - all ≡ 0 = omega arith in
    greatest_from bounds all all order (omega arith) way ∙ ap (λ k. greatest (levels_after bounds k order)) none ∙ sym (cost_is bounds order)

pub weighs_total : (most : ℕ) (bounds : List ℕ) (all : ℕ) (order : List ℕ) → IsWay all order → cost bounds order ≤ most → weight_of (weight.SumIfBoundsAtMost most) bounds all all order ≡ min (total bounds order) (2 ^ 128 - 1)
weighs_total most bounds all order way low =
    let none : all - all ≡ 0 = omega arith in
    let same : levels_after bounds (all - all) order ≡ levels_after bounds 0 order = ap (λ k. levels_after bounds k order) none in
    omega (arith, sum_from most bounds all all order (omega arith) way (omega (arith, ap greatest same, cost_is bounds order)), ap sum same, total_is bounds order)

pub weighs_most : (most : ℕ) (bounds : List ℕ) (all : ℕ) (order : List ℕ) → IsWay all order → most < cost bounds order → weight_of (weight.SumIfBoundsAtMost most) bounds all all order ≡ 2 ^ 128 - 1
weighs_most most bounds all order way high =
    let none : all - all ≡ 0 = omega arith in
    let same : levels_after bounds (all - all) order ≡ levels_after bounds 0 order = ap (λ k. levels_after bounds k order) none in
    heaviest_from most bounds all all order (omega arith) way (omega (arith, ap greatest same, cost_is bounds order))
