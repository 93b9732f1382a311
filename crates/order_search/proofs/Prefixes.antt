-- The bounds of an order's prefixes, computed one entry at a time.
use Rattle.std.proofs.Common.{◌≡◌, ℕ, ◌+◌, ◌*◌, ◌^◌, ◌<◌, ◌≤◌, suc, List, [], ◌∷◌, length, map, get_or, refl, ap, ◌∙◌, sum, arith}
use Rattle.std.proofs.lemmas.List.Sums.{sum_by-cons}
use Rattle.limits.specs.Profile.{greatest_entries}
use Rattle.order_search.specs.Orders.{cost, greatest, levels, prefixes, total}
use Rattle.entry_sets.specs.Sets.{set_of}
use Rattle.plans.specs.declared.left_deep.Plan.{Plan}
use Rattle.plans.specs.LeftDeep.{IsOrder, IsPlan}

abbrev pub levels_after : List ℕ → ℕ → List ℕ → List ℕ
levels_after bounds placed [] = []
levels_after bounds placed (entry ∷ entries) = get_or bounds (placed + 2 ^ entry) 0 ∷ levels_after bounds (placed + 2 ^ entry) entries

pub sum-cons : (x : ℕ) (xs : List ℕ) → sum (x ∷ xs) ≡ x + sum xs
sum-cons x xs = sum_by-cons (λ (y : ℕ). y) x xs

behind_entry : (bounds : List ℕ) (placed entry : ℕ) (ps : List (List ℕ))
    → map (λ prefix. get_or bounds (placed + set_of prefix) 0) (map (λ prefix. entry ∷ prefix) ps) ≡ map (λ prefix. get_or bounds (placed + 2 ^ entry + set_of prefix) 0) ps
behind_entry bounds placed entry [] = refl
behind_entry bounds placed entry (p ∷ ps) =
    let here : placed + (2 ^ entry + set_of p) ≡ placed + 2 ^ entry + set_of p = omega arith in
    rw (here, behind_entry bounds placed entry ps) refl

from_placed : (bounds : List ℕ) (placed : ℕ) (order : List ℕ) → map (λ prefix. get_or bounds (placed + set_of prefix) 0) (prefixes order) ≡ levels_after bounds placed order
from_placed bounds placed [] = refl
from_placed bounds placed (entry ∷ entries) =
    let here : placed + (2 ^ entry + 0) ≡ placed + 2 ^ entry = omega arith in
    rw (here, behind_entry bounds placed entry (prefixes entries), from_placed bounds (placed + 2 ^ entry) entries) refl

from_none : (bounds : List ℕ) (ps : List (List ℕ)) → map (λ prefix. get_or bounds (set_of prefix) 0) ps ≡ map (λ prefix. get_or bounds (0 + set_of prefix) 0) ps
from_none bounds [] = refl
from_none bounds (p ∷ ps) =
    let here : 0 + set_of p ≡ set_of p = omega arith in
    rw (here, from_none bounds ps) refl

pub levels_are : (bounds order : List ℕ) → levels bounds order ≡ levels_after bounds 0 order
levels_are bounds order = from_none bounds (prefixes order) ∙ from_placed bounds 0 order

pub cost_is : (bounds order : List ℕ) → cost bounds order ≡ greatest (levels_after bounds 0 order)
cost_is bounds order = ap greatest (levels_are bounds order)

pub total_is : (bounds order : List ℕ) → total bounds order ≡ sum (levels_after bounds 0 order)
total_is bounds order = ap sum (levels_are bounds order)

length-levels_after : (bounds : List ℕ) (placed : ℕ) (entries : List ℕ) → length (levels_after bounds placed entries) ≡ length entries
length-levels_after bounds placed [] = refl
length-levels_after bounds placed (entry ∷ entries) = ap suc (length-levels_after bounds (placed + 2 ^ entry) entries)

sum-at_most : (most : ℕ) (xs : List ℕ) → greatest xs ≤ most → sum xs ≤ length xs * most
sum-at_most most [] h = omega arith
sum-at_most most (x ∷ xs) h = omega (arith, sum-cons x xs, sum-at_most most xs (omega arith), product)
  where
    product : suc (length xs) * most ≡ most + length xs * most
    product = omega arith

pub total-small : (bounds : List ℕ) (n : ℕ) (order : List ℕ) → n ≤ greatest_entries → IsOrder n order → cost bounds order ≤ 2 ^ 59 → total bounds order < 2 ^ 64
total-small bounds n order within_limit is_order h =
    let size : length (levels_after bounds 0 order) ≡ n = length-levels_after bounds 0 order ∙ is_order.all in
    omega (arith, size, total_is bounds order, sum-at_most (2 ^ 59) (levels_after bounds 0 order) (omega (arith, cost_is bounds order)))

pub plan_from : (bounds scans : List ℕ) (plan : Plan) → IsOrder (length scans) plan.order → plan.levels ≡ levels bounds plan.order → plan.scans ≡ scans → IsPlan (length scans) plan
plan_from bounds scans plan is_order has_levels has_scans = record {
  order = is_order;
  scans = ap length has_scans;
  levels = ap length (has_levels ∙ levels_are bounds plan.order) ∙ length-levels_after bounds 0 plan.order ∙ is_order.all;
}
