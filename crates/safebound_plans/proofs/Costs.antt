-- Costs of bounds that were widened from 64 bits to 128. A cost that is below the greatest number of 128 bits fits 64 bits.
use Rattle.std.proofs.Common.{◌≡◌, ◌⊎◌, inl, inr, ℕ, zero, suc, ◌+◌, ◌-◌, ◌<◌, ◌≤◌, ◌^◌, Bool, true, false, eqb, max, List, [], ◌∷◌, map, get_or, refl, arith}
use Rattle.std.specs.List.{AllByRecursion}
use Rattle.std.specs.Prelude.{if◌then◌else◌}
use Rattle.entry_sets.specs.Sets.{set_of}
use Rattle.order_search.specs.Orders.{cost as order_cost, greatest, levels, prefixes}
use Rattle.bushy_plan.specs.BestTree.{cost as tree_cost, inner_greatest}
use Rattle.bushy_plan.specs.PlanTrees.{PlanTree, leaf_bits, leaf, node}
use Rattle.safebound_plans.specs.Bits.{all_in_128_bits, no_bound, in_128_bits}

-- the number fits 64 bits, or it is the greatest number of 128 bits, which means 2^128 - 1 or more
abbrev Fits64OrIsTop : ℕ → Type 0
Fits64OrIsTop x = (x < 2 ^ 64) ⊎ (x ≡ 2 ^ 128 - 1)

widened_fits_64_or_is_top : (b : ℕ) → b < 2 ^ 64 → Fits64OrIsTop (in_128_bits b)
widened_fits_64_or_is_top b fits = by (eqb b no_bound)
  where
    by : (t : Bool) → Fits64OrIsTop (if t then 2 ^ 128 - 1 else b)
    by true = inr refl
    by false = inl fits

bound_fits_64_or_is_top : (bounds : List ℕ) → ((k : ℕ) → get_or bounds k 0 < 2 ^ 64) → (i : ℕ) → Fits64OrIsTop (get_or (all_in_128_bits bounds) i 0)
bound_fits_64_or_is_top [] fits i = inl (omega arith)
bound_fits_64_or_is_top (b ∷ bs) fits zero = widened_fits_64_or_is_top b (fits 0)
bound_fits_64_or_is_top (b ∷ bs) fits (suc i) = bound_fits_64_or_is_top bs (λ k. fits (suc k)) i

-- ---- orders

greatest_fits_64 : (xs : List ℕ) → AllByRecursion Fits64OrIsTop xs → greatest xs ≤ 2 ^ 128 - 2 → greatest xs < 2 ^ 64
greatest_fits_64 [] all low = omega arith
greatest_fits_64 (x ∷ xs) all low =
    let rest : greatest xs < 2 ^ 64 = greatest_fits_64 xs all.1 (omega (arith, low)) in
    greater_fits_if_first all.0 rest
  where
    greater_fits_if_first : Fits64OrIsTop x → greatest xs < 2 ^ 64 → max x (greatest xs) < 2 ^ 64
    greater_fits_if_first (inl small) rest = omega (arith, small, rest)
    greater_fits_if_first (inr top) rest = absurd (omega (arith, top, low))

all_fit_64_or_are_top : (f : List ℕ → ℕ) → ((x : List ℕ) → Fits64OrIsTop (f x)) → (xs : List (List ℕ)) → AllByRecursion Fits64OrIsTop (map f xs)
all_fit_64_or_are_top f h [] = tt
all_fit_64_or_are_top f h (x ∷ xs) = (h x, all_fit_64_or_are_top f h xs)

pub order_cost_fits_64 : (bounds order : List ℕ) → ((k : ℕ) → get_or bounds k 0 < 2 ^ 64) → order_cost (all_in_128_bits bounds) order ≤ 2 ^ 128 - 2
    → order_cost (all_in_128_bits bounds) order < 2 ^ 64
order_cost_fits_64 bounds order fits low =
    greatest_fits_64 (levels (all_in_128_bits bounds) order)
    (all_fit_64_or_are_top (λ prefix. get_or (all_in_128_bits bounds) (set_of prefix) 0) (λ prefix. bound_fits_64_or_is_top bounds fits (set_of prefix)) (prefixes order)) low

-- ---- trees

greater_fits_64 : (x rest : ℕ) → Fits64OrIsTop x → max x rest ≤ 2 ^ 128 - 2 → rest < 2 ^ 64 → max x rest < 2 ^ 64
greater_fits_64 x rest (inl small) low h = omega arith
greater_fits_64 x rest (inr top) low h = absurd (omega arith)

inner_cost_fits_64 : (bounds : List ℕ) → ((k : ℕ) → get_or bounds k 0 < 2 ^ 64) → (t : PlanTree) → inner_greatest (all_in_128_bits bounds) t ≤ 2 ^ 128 - 2
    → inner_greatest (all_in_128_bits bounds) t < 2 ^ 64
inner_cost_fits_64 bounds fits (leaf entry) low = omega arith
inner_cost_fits_64 bounds fits (node left right) low =
    let l : inner_greatest (all_in_128_bits bounds) left < 2 ^ 64 = inner_cost_fits_64 bounds fits left (omega arith) in
    let r : inner_greatest (all_in_128_bits bounds) right < 2 ^ 64 = inner_cost_fits_64 bounds fits right (omega arith) in
    greater_fits_64 (get_or (all_in_128_bits bounds) (leaf_bits left + leaf_bits right) 0)
    (max (inner_greatest (all_in_128_bits bounds) left) (inner_greatest (all_in_128_bits bounds) right))
    (bound_fits_64_or_is_top bounds fits (leaf_bits left + leaf_bits right)) low (omega arith)

number_fits_64 : (x : ℕ) → Fits64OrIsTop x → x ≤ 2 ^ 128 - 2 → x < 2 ^ 64
number_fits_64 x (inl small) low = small
number_fits_64 x (inr top) low = absurd (omega arith)

pub tree_cost_fits_64 : (bounds : List ℕ) → ((k : ℕ) → get_or bounds k 0 < 2 ^ 64) → (t : PlanTree) → tree_cost (all_in_128_bits bounds) t ≤ 2 ^ 128 - 2
    → tree_cost (all_in_128_bits bounds) t < 2 ^ 64
tree_cost_fits_64 bounds fits (leaf entry) low = number_fits_64 (get_or (all_in_128_bits bounds) (2 ^ entry) 0) (bound_fits_64_or_is_top bounds fits (2 ^ entry)) low
tree_cost_fits_64 bounds fits (node left right) low = inner_cost_fits_64 bounds fits (node left right) low
