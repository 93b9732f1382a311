-- The first array gives the least cost, and the best order is read off the second array.
use Rattle.std.proofs.Common.{◌≡◌, ℕ, ◌-◌, ◌^◌, ◌<◌, ◌≤◌, List, length, get_or, sym, ◌∙◌, subst, arith, inl, inr}
use Rattle.std.proofs.lemmas.Nat.{pow_pos}
use Rattle.std.proofs.lemmas.Bool.{cases_lt}
use Rattle.limits.specs.Profile.{greatest_entries}
use Rattle.order_search.specs.declared.weight.Weighing.TheVariants as weight
use Rattle.order_search.specs.Orders.{IsBest, IsLeastCost, cost, total}
use Rattle.plans.specs.LeftDeep.{IsOrder}
use Rattle.order_search.specs.Ways.{IsLeastWeight, HasLeastWeights, IsFirstLightest, IsWay, weight_of}
use Rattle.order_search.proofs.WholeWays.{order_from_way, way_from_order}
use Rattle.order_search.proofs.Prefixes.{total-small}
use Rattle.order_search.proofs.Weights.{weighs_cost, weighs_most, weighs_total}

last_index : (bounds : List ℕ) (n : ℕ) → length bounds ≡ 2 ^ n → length bounds - 1 ≡ 2 ^ n - 1
last_index bounds n size = omega arith

weight_of_all_entries : (bounds table : List ℕ) (n : ℕ) → length bounds ≡ 2 ^ n → HasLeastWeights weight.Greatest bounds (length bounds - 1) table (2 ^ n)
    → IsLeastWeight weight.Greatest bounds (2 ^ n - 1) (2 ^ n - 1) (get_or table (length bounds - 1) 0)
weight_of_all_entries bounds table n size is_table =
    subst (λ k. IsLeastWeight weight.Greatest bounds k k (get_or table (length bounds - 1) 0)) (last_index bounds n size) (is_table (length bounds - 1) (omega (arith, pow_pos n)))

pub least_cost_from : (bounds table : List ℕ) (n least : ℕ) → length bounds ≡ 2 ^ n → HasLeastWeights weight.Greatest bounds (length bounds - 1) table (2 ^ n)
    → least ≡ get_or table (length bounds - 1) 0 → IsLeastCost bounds n least
least_cost_from bounds table n least size is_table is =
    let lightest : IsLeastWeight weight.Greatest bounds (2 ^ n - 1) (2 ^ n - 1) (get_or table (length bounds - 1) 0) = weight_of_all_entries bounds table n size is_table in
    record {
      order = lightest.way;
      is_order = order_from_way n lightest.way lightest.is_way;
      costs = sym (weighs_cost bounds (2 ^ n - 1) lightest.way lightest.is_way) ∙ lightest.weighs ∙ sym is;
      none_cheaper = λ other is_order. (let way : IsWay (2 ^ n - 1) other = way_from_order n other is_order in omega (arith, is, lightest.none_lighter other way, weighs_cost bounds (2 ^ n - 1) other way));
    }

-- ---- the weight of an order of least cost is the sum of its levels' bounds

abbrev sum_weight : ℕ → List ℕ → ℕ → List ℕ → ℕ
sum_weight least bounds n order = weight_of (weight.SumIfBoundsAtMost least) bounds (2 ^ n - 1) (2 ^ n - 1) order

-- the sum of the order's bounds is below 2 ^ 64, so it isn't the greatest weight
weighs_sum : (bounds : List ℕ) (n least : ℕ) (order : List ℕ) → n ≤ greatest_entries → least ≤ 2 ^ 59 → IsOrder n order → cost bounds order ≤ least
    → (sum_weight least bounds n order ≡ total bounds order) × (total bounds order < 2 ^ 64)
weighs_sum bounds n least order within_limit small is_order low =
    let sum_small : total bounds order < 2 ^ 64 = total-small bounds n order within_limit is_order (omega arith) in
    (omega (arith, weighs_total least bounds (2 ^ n - 1) order (way_from_order n order is_order) low, sum_small), sum_small)

pub sum_is_light : (bounds table : List ℕ) (n least : ℕ) → n ≤ greatest_entries → least ≤ 2 ^ 59 → IsLeastCost bounds n least → length bounds ≡ 2 ^ n
    → HasLeastWeights (weight.SumIfBoundsAtMost least) bounds (length bounds - 1) table (2 ^ n) → get_or table (length bounds - 1) 0 < 2 ^ 128 - 1
sum_is_light bounds table n least within_limit small found size is_table =
    let value : ℕ = get_or table (length bounds - 1) 0 in
    let lightest : IsLeastWeight (weight.SumIfBoundsAtMost least) bounds (2 ^ n - 1) (2 ^ n - 1) (get_or table (length bounds - 1) 0) =
    subst (λ k. IsLeastWeight (weight.SumIfBoundsAtMost least) bounds k k (get_or table (length bounds - 1) 0)) (last_index bounds n size) (is_table (length bounds - 1) (omega (arith, pow_pos n))) in
    let weighs : (sum_weight least bounds n found.order ≡ total bounds found.order) × (total bounds found.order < 2 ^ 64) =
    weighs_sum bounds n least found.order within_limit small found.is_order (omega (arith, found.costs)) in
    omega (arith, lightest.none_lighter found.order (way_from_order n found.order found.is_order), weighs.0, weighs.1)

best_of_whole : (bounds : List ℕ) (n least : ℕ) (order : List ℕ) → n ≤ greatest_entries → least ≤ 2 ^ 59 → IsLeastCost bounds n least
    → IsFirstLightest (weight.SumIfBoundsAtMost least) bounds (2 ^ n - 1) (2 ^ n - 1) order → IsBest bounds n order × (cost bounds order ≡ least)
best_of_whole bounds n least order within_limit small found first = (best, costs)
  where
    is_order : IsOrder n order
    is_order = order_from_way n order first.is_way

    costs : cost bounds order ≡ least
    costs = elim (cases_lt least (cost bounds order)) [
      | inl above ↦ (let weighs : (sum_weight least bounds n found.order ≡ total bounds found.order) × (total bounds found.order < 2 ^ 64) =
          weighs_sum bounds n least found.order within_limit small found.is_order (omega (arith, found.costs)) in
          absurd (omega (arith, first.none_lighter found.order (way_from_order n found.order found.is_order), weighs.0, weighs.1, weighs_most least bounds (2 ^ n - 1) order first.is_way above)))
      | inr below ↦ omega (arith, found.none_cheaper order is_order)
    ]

    own : sum_weight least bounds n order ≡ total bounds order
    own = (weighs_sum bounds n least order within_limit small is_order (omega (arith, costs))).0

    theirs : (other : List ℕ) → IsOrder n other → cost bounds other ≡ cost bounds order → sum_weight least bounds n other ≡ total bounds other
    theirs other other_order same = (weighs_sum bounds n least other within_limit small other_order (omega (arith, costs))).0

    best : IsBest bounds n order
    best = record {
      is_order = is_order;
      none_cheaper = λ other other_order. omega (arith, costs, found.none_cheaper other other_order);
      none_smaller = λ other other_order same. omega (arith, own, theirs other other_order same, first.none_lighter other (way_from_order n other other_order));
      none_earlier = λ other other_order same equal. first.none_earlier other (way_from_order n other other_order) (theirs other other_order same ∙ equal ∙ sym own);
    }

pub best_found : (bounds order : List ℕ) (n least : ℕ) → n ≤ greatest_entries → least ≤ 2 ^ 59 → IsLeastCost bounds n least → length bounds ≡ 2 ^ n
    → IsFirstLightest (weight.SumIfBoundsAtMost least) bounds (length bounds - 1) (length bounds - 1) order → IsBest bounds n order × (cost bounds order ≡ least)
best_found bounds order n least within_limit small found size first =
    best_of_whole bounds n least order within_limit small found (subst (λ k. IsFirstLightest (weight.SumIfBoundsAtMost least) bounds k k order) (last_index bounds n size) first)
