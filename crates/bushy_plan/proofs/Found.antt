-- The search fills two arrays. The first gives the least cost, and the best tree is read off the second.
use Rattle.std.proofs.Common.{◌≡◌, ℕ, zero, suc, ◌+◌, ◌-◌, ◌^◌, ◌<◌, ◌≤◌, List, [], ◌∷◌, ◌++◌, length, get_or, refl, ap, sym, ◌∙◌, subst, arith, inl, inr}
use Rattle.std.proofs.lemmas.List.{append-nil, append_assoc, length-append}
use Rattle.std.proofs.lemmas.Nat.{pow_pos}
use Rattle.std.proofs.lemmas.Bool.{cases_lt}
use Rattle.limits.specs.Profile.{greatest_entries}
use Rattle.entry_sets.proofs.Bits.{power_of_next}
use Rattle.plans.specs.declared.bushy.Join.{Join}
use Rattle.bushy_plan.specs.declared.weight.Weighing.{Weighing}
use Rattle.bushy_plan.specs.declared.weight.Weighing.TheVariants as weight
use Rattle.bushy_plan.specs.BestTree.{AreOfBest, IsTreeBefore, IsBest, IsLeastCost, full_set, cost, inner_greatest, inner_sum, total}
use Rattle.bushy_plan.specs.PlanTrees.{IsFirstEntry, IsSplit, IsTreeOver, PlanTree, leaf, node, leaf_bits, inner_count, joins_from, root_number}
use Rattle.bushy_plan.specs.Splits.{IsWithoutFirst, IsFirstLightest, IsLeastWeight, AppendsFirstLightest, HasLeastWeights, weight_of}
use Rattle.bushy_plan.proofs.Costs.{cost_inside, greatest_at_most_cost, sum_at_most, total_inside, weighs_greatest, weighs_most, weighs_sum}
use Rattle.bushy_plan.proofs.Lightest.{right_in_table}
use Rattle.bushy_plan.proofs.Numbering.{count_of_all, length-joins_from}
use Rattle.bushy_plan.proofs.ReadingOff.{first_of_one, node_over}
use Rattle.bushy_plan.proofs.Splitting.{no_split_of_one, one_first, tree_set}

-- ---- the joins of a node come after the joins of its two sides

pub read_node : (w : Weighing) (bounds : List ℕ) (next set right_set : ℕ) (old middle all new : List Join) (left_root right_root number : ℕ)
    → (left : AppendsFirstLightest w bounds next (set - right_set) old middle left_root) → (right : AppendsFirstLightest w bounds next right_set middle all right_root)
    → IsFirstLightest w bounds set (node left.tree right.tree) → number ≡ next + length all
    → new ≡ all ++ (record { left = left_root; right = right_root; bound = get_or bounds set 0 }) ∷ [] → AppendsFirstLightest w bounds next set old new number
read_node w bounds next set right_set old middle all new left_root right_root number left right is_first is_number pushed =
    let left_count : length (joins_from bounds (next + length old) left.tree) ≡ inner_count left.tree = length-joins_from bounds (next + length old) left.tree in
    let middle_count : next + length middle ≡ next + length old + inner_count left.tree =
    omega (arith, left_count, ap length left.joins, length-append {A = Join} old (joins_from bounds (next + length old) left.tree)) in
    let all_count : next + length all ≡ next + length old + inner_count left.tree + inner_count right.tree =
    omega (arith, middle_count, ap length right.joins, length-append {A = Join} middle (joins_from bounds (next + length middle) right.tree), length-joins_from bounds (next + length middle) right.tree) in
    let whole : set ≡ leaf_bits left.tree + leaf_bits right.tree = sym (tree_set set (node left.tree right.tree) is_first.is_tree) in
    let right_joins : all ≡ middle ++ joins_from bounds (next + length old + inner_count left.tree) right.tree =
    right.joins ∙ ap (λ k. middle ++ joins_from bounds k right.tree) middle_count in
    let right_number : right_root ≡ root_number (next + length old + inner_count left.tree) right.tree = right.number ∙ ap (λ k. root_number k right.tree) middle_count in
    record {
      tree = node left.tree right.tree;
      is_first = is_first;
      joins = pushed
          ∙ rw (left.number, right_number, right_joins, left.joins, whole)
          (append_assoc (old ++ joins_from bounds (next + length old) left.tree) (joins_from bounds (next + length old + inner_count left.tree) right.tree) _
          ∙ append_assoc old (joins_from bounds (next + length old) left.tree) _
          ∙ ap (λ (s : List Join). old ++ s) (sym (append_assoc (joins_from bounds (next + length old) left.tree) (joins_from bounds (next + length old + inner_count left.tree) right.tree) _)));
      number = is_number ∙ all_count;
    }

-- ---- each side has few enough inner nodes to be numbered

pub room_left : (w : Weighing) (bounds table : List ℕ) (set end right_set count : ℕ) → set < end → HasLeastWeights w bounds table end → IsSplit set (set - right_set) right_set
    → ((tree : PlanTree) → IsTreeOver set tree → count + inner_count tree < greatest_entries) → (tree : PlanTree) → IsTreeOver (set - right_set) tree → count + inner_count tree < greatest_entries
room_left w bounds table set end right_set count h is_table split room tree is_tree =
    let other : IsLeastWeight w bounds right_set (get_or table right_set 0) = right_in_table w bounds table set end right_set (omega arith) is_table split in
    omega (arith, room (node tree other.tree) (node_over set right_set tree other.tree split is_tree other.is_tree))

pub room_right : (set right_set count : ℕ) (left : PlanTree) → IsTreeOver (set - right_set) left → IsSplit set (set - right_set) right_set
    → ((tree : PlanTree) → IsTreeOver set tree → count + inner_count tree < greatest_entries) → (tree : PlanTree) → IsTreeOver right_set tree → count + inner_count left + inner_count tree + 1 < greatest_entries
room_right set right_set count left left_tree split room tree is_tree =
    omega (arith, room (node left tree) (node_over set right_set left tree split left_tree is_tree))

count_after : (w : Weighing) (bounds : List ℕ) (next set : ℕ) (old new : List Join) (root : ℕ) → (read : AppendsFirstLightest w bounds next set old new root) → length new ≡ length old + inner_count read.tree
count_after w bounds next set old new root read =
    omega (arith, ap length read.joins, length-append {A = Join} old (joins_from bounds (next + length old) read.tree), length-joins_from bounds (next + length old) read.tree)

pub room_behind : (w : Weighing) (bounds : List ℕ) (next set right_set : ℕ) (old middle : List Join) (left_root : ℕ) → AppendsFirstLightest w bounds next (set - right_set) old middle left_root
    → IsSplit set (set - right_set) right_set → ((tree : PlanTree) → IsTreeOver set tree → length old + inner_count tree < greatest_entries)
    → (tree : PlanTree) → IsTreeOver right_set tree → length middle + inner_count tree < greatest_entries
room_behind w bounds next set right_set old middle left_root left split room tree is_tree =
    omega (arith, count_after w bounds next (set - right_set) old middle left_root left, room_right set right_set (length old) left.tree left.is_first.is_tree split room tree is_tree)

pub numbers_below_limit : (w : Weighing) (bounds : List ℕ) (next set right_set : ℕ) (old middle all : List Join) (left_root right_root : ℕ) → AppendsFirstLightest w bounds next (set - right_set) old middle left_root
    → AppendsFirstLightest w bounds next right_set middle all right_root → IsSplit set (set - right_set) right_set → ((tree : PlanTree) → IsTreeOver set tree → length old + inner_count tree < greatest_entries) → length all < greatest_entries
numbers_below_limit w bounds next set right_set old middle all left_root right_root left right split room =
    omega (
      arith,
      count_after w bounds next right_set middle all right_root right,
      room_behind w bounds next set right_set old middle left_root left split room right.tree right.is_first.is_tree,
    )

pub read_leaf : (w : Weighing) (bounds : List ℕ) (next set first : ℕ) (old : List Join) → IsFirstEntry set first → (all_but_first : ℕ) → IsWithoutFirst set all_but_first → all_but_first ≡ 0
    → AppendsFirstLightest w bounds next set old old first
read_leaf w bounds next set first old is_first all_but_first b none =
    let same : b.first ≡ first = one_first set b.first first b.is_first is_first in
    let alone : set - 2 ^ first ≡ 0 = ap (λ k. set - 2 ^ k) (sym same) ∙ sym b.others ∙ none in
    record {
      tree = leaf first;
      is_first = first_of_one w bounds set first is_first alone;
      joins = sym (append-nil old);
      number = refl;
    }

-- ---- the best tree over all entries

pub some_of_all : (n : ℕ) → 0 < n → 0 < full_set n
some_of_all zero some = absurd (omega arith)
some_of_all (suc n) some = omega (arith, power_of_next n, pow_pos n)

pub least_cost_from : (bounds table : List ℕ) (n least : ℕ) → 1 < n → length bounds ≡ 2 ^ n → HasLeastWeights weight.Greatest bounds table (length bounds)
    → least ≡ get_or table (length bounds - 1) 0 → IsLeastCost bounds n least
least_cost_from bounds table n least more size is_table is =
    let last : length bounds - 1 ≡ full_set n = omega arith in
    let whole : IsLeastWeight weight.Greatest bounds (full_set n) (get_or table (length bounds - 1) 0) =
    subst (λ k. IsLeastWeight weight.Greatest bounds k (get_or table (length bounds - 1) 0)) last
    (is_table (length bounds - 1) (omega (arith, last, some_of_all n (omega arith))) (omega (arith, pow_pos n))) in
    record {
      tree = whole.tree;
      is_tree = whole.is_tree;
      costs = cost_inside bounds n whole.tree more whole.is_tree ∙ sym (weighs_greatest bounds whole.tree) ∙ whole.weighs ∙ sym is;
      none_cheaper = λ other is_tree. omega (arith, is, whole.none_lighter other is_tree, weighs_greatest bounds other, cost_inside bounds n other more is_tree);
    }

-- weights saturate at 2^128 - 1, and a sum of bounds that are at most 2^59 is far below it
weighs_small : (bounds : List ℕ) (n least : ℕ) (tree : PlanTree) → n ≤ greatest_entries → least ≤ 2 ^ 59 → IsTreeOver (full_set n) tree → inner_greatest bounds tree ≤ least
    → (weight_of (weight.SumIfBoundsAtMost least) bounds tree ≡ inner_sum bounds tree) × (inner_sum bounds tree < 2 ^ 63)
weighs_small bounds n least tree few small is_tree low =
    let sum_is_small : inner_sum bounds tree < 2 ^ 63 = omega (arith, sum_at_most bounds tree (omega arith), count_of_all n tree is_tree) in
    (omega (arith, weighs_sum least bounds tree low, sum_is_small), sum_is_small)

found_is_light : (bounds : List ℕ) (n least : ℕ) → n ≤ greatest_entries → least ≤ 2 ^ 59 → (found : IsLeastCost bounds n least)
    → (weight_of (weight.SumIfBoundsAtMost least) bounds found.tree ≡ inner_sum bounds found.tree) × (inner_sum bounds found.tree < 2 ^ 63)
found_is_light bounds n least few small found =
    weighs_small bounds n least found.tree few small found.is_tree (omega (arith, greatest_at_most_cost bounds found.tree, found.costs))

pub sum_is_light : (bounds table : List ℕ) (n least : ℕ) → 0 < n → n ≤ greatest_entries → least ≤ 2 ^ 59 → IsLeastCost bounds n least → length bounds ≡ 2 ^ n
    → HasLeastWeights (weight.SumIfBoundsAtMost least) bounds table (length bounds) → get_or table (length bounds - 1) 0 < 2 ^ 128 - 1
sum_is_light bounds table n least some few small found size is_table =
    let last : length bounds - 1 ≡ full_set n = omega arith in
    let weighs : (weight_of (weight.SumIfBoundsAtMost least) bounds found.tree ≡ inner_sum bounds found.tree) × (inner_sum bounds found.tree < 2 ^ 63) =
    found_is_light bounds n least few small found in
    let lightest : IsLeastWeight (weight.SumIfBoundsAtMost least) bounds (length bounds - 1) (get_or table (length bounds - 1) 0) =
    is_table (length bounds - 1) (omega (arith, last, some_of_all n some)) (omega (arith, pow_pos n)) in
    omega (arith, lightest.none_lighter found.tree (subst (λ (k : ℕ). IsTreeOver k found.tree) (sym last) found.is_tree), weighs.0, weighs.1)

best_if_one_entry : (bounds : List ℕ) (tree : PlanTree) → IsTreeOver 1 tree → IsBest bounds 1 tree
best_if_one_entry bounds tree is_tree = record {
  is_tree = is_tree;
  none_cheaper = λ other other_tree. omega (arith, cost_is tree is_tree, cost_is other other_tree);
  none_smaller = λ other other_tree same. omega (arith, total_is tree is_tree, total_is other other_tree);
  none_earlier = λ other other_tree same equal before. not_before other other_tree before;
}
  where
    cost_is : (t : PlanTree) → IsTreeOver 1 t → cost bounds t ≡ get_or bounds 1 0
    cost_is (leaf entry) over = ap (λ k. get_or bounds k 0) (sym over)
    cost_is (node left right) over = absurd (no_split_of_one 0 (leaf_bits left) (leaf_bits right) over.0)

    total_is : (t : PlanTree) → IsTreeOver 1 t → total bounds t ≡ get_or bounds 1 0
    total_is (leaf entry) over = ap (λ k. get_or bounds k 0) (sym over)
    total_is (node left right) over = absurd (no_split_of_one 0 (leaf_bits left) (leaf_bits right) over.0)

    not_before : (other : PlanTree) → IsTreeOver 1 other → ¬ IsTreeBefore other tree
    not_before (leaf entry) over before = before
    not_before (node left right) over before = absurd (no_split_of_one 0 (leaf_bits left) (leaf_bits right) over.0)

best_if_more_entries : (bounds : List ℕ) (n least : ℕ) (tree : PlanTree) → 1 < n → n ≤ greatest_entries → least ≤ 2 ^ 59 → IsLeastCost bounds n least
    → IsFirstLightest (weight.SumIfBoundsAtMost least) bounds (full_set n) tree → IsBest bounds n tree × (cost bounds tree ≡ least)
best_if_more_entries bounds n least tree more few small found first = (best, costs)
  where
    within : inner_greatest bounds tree ≤ least
    within = elim (cases_lt least (inner_greatest bounds tree)) [
      | inl above ↦ (let weighs : (weight_of (weight.SumIfBoundsAtMost least) bounds found.tree ≡ inner_sum bounds found.tree) × (inner_sum bounds found.tree < 2 ^ 63) =
          found_is_light bounds n least few small found in
          absurd (omega (arith, first.none_lighter found.tree found.is_tree, weighs.0, weighs.1, weighs_most least bounds tree above)))
      | inr below ↦ below
    ]

    costs : cost bounds tree ≡ least
    costs = omega (arith, cost_inside bounds n tree more first.is_tree, within, found.none_cheaper tree first.is_tree)

    own : weight_of (weight.SumIfBoundsAtMost least) bounds tree ≡ total bounds tree
    own = omega (arith, (weighs_small bounds n least tree few small first.is_tree within).0, total_inside bounds n tree more first.is_tree)

    theirs : (other : PlanTree) → IsTreeOver (full_set n) other → cost bounds other ≡ cost bounds tree → weight_of (weight.SumIfBoundsAtMost least) bounds other ≡ total bounds other
    theirs other is_tree same =
        omega (arith, (weighs_small bounds n least other few small is_tree (omega (arith, costs, same, cost_inside bounds n other more is_tree))).0, total_inside bounds n other more is_tree)

    best : IsBest bounds n tree
    best = record {
      is_tree = first.is_tree;
      none_cheaper = λ other is_tree. omega (arith, costs, found.none_cheaper other is_tree);
      none_smaller = λ other is_tree same. omega (arith, own, theirs other is_tree same, first.none_lighter other is_tree);
      none_earlier = λ other is_tree same equal. first.none_earlier other is_tree (theirs other is_tree same ∙ equal ∙ sym own);
    }

best_of_first : (bounds : List ℕ) (n least : ℕ) (tree : PlanTree) → 0 < n → n ≤ greatest_entries → least ≤ 2 ^ 59 → IsLeastCost bounds n least
    → IsFirstLightest (weight.SumIfBoundsAtMost least) bounds (full_set n) tree → IsBest bounds n tree × (cost bounds tree ≡ least)
best_of_first bounds zero least tree some few small found first = absurd (omega arith)
best_of_first bounds (suc zero) least tree some few small found first =
    let best : IsBest bounds 1 tree = best_if_one_entry bounds tree first.is_tree in
    (best, omega (arith, best.none_cheaper found.tree found.is_tree, found.none_cheaper tree first.is_tree, found.costs))
best_of_first bounds (suc (suc n)) least tree some few small found first = best_if_more_entries bounds (suc (suc n)) least tree (omega arith) few small found first

pub joins_of_best : (bounds : List ℕ) (n least root : ℕ) (joins : List Join) → 0 < n → n ≤ greatest_entries → least ≤ 2 ^ 59 → IsLeastCost bounds n least → length bounds ≡ 2 ^ n
    → AppendsFirstLightest (weight.SumIfBoundsAtMost least) bounds n (length bounds - 1) [] joins root → AreOfBest bounds n least joins
joins_of_best bounds n least root joins some few small found size read =
    let last : length bounds - 1 ≡ full_set n = omega arith in
    let best : IsBest bounds n read.tree × (cost bounds read.tree ≡ least) =
    best_of_first bounds n least read.tree some few small found (subst (λ k. IsFirstLightest (weight.SumIfBoundsAtMost least) bounds k read.tree) last read.is_first) in
    let none_before : n + 0 ≡ n = omega arith in
    record {
      tree = read.tree;
      is_best = best.0;
      are_its = read.joins ∙ ap (λ k. joins_from bounds k read.tree) none_before;
      is_its = sym best.1;
    }

pub least_cost_alone : (bounds : List ℕ) → IsLeastCost bounds 1 (get_or bounds 1 0)
least_cost_alone bounds = record {
  tree = leaf 0;
  is_tree = refl;
  costs = refl;
  none_cheaper = λ other is_tree. at other is_tree;
}
  where
    at : (other : PlanTree) → IsTreeOver 1 other → get_or bounds 1 0 ≤ cost bounds other
    at (leaf entry) is_tree = omega (arith, ap (λ k. get_or bounds k 0) is_tree)
    at (node left right) is_tree = absurd (no_split_of_one 0 (leaf_bits left) (leaf_bits right) is_tree.0)
