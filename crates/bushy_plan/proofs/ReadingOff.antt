-- Take the first lightest split of a set, and over each of its two sides the first lightest tree. The node that joins these two trees is the first
-- lightest tree over the set.
use Rattle.std.proofs.Common.{◌≡◌, ℕ, ◌+◌, ◌-◌, ◌^◌, ◌<◌, ◌≤◌, List, get_or, ap, sym, ◌∙◌, subst, arith, inl, inr}
use Rattle.std.specs.Prelude.{◌≢◌, bit_and}
use Rattle.std.proofs.lemmas.Bool.{cases_lt, cases_order}
use Rattle.std.proofs.lemmas.Nat.{pow_pos}
use Rattle.entry_sets.proofs.Bits.{power_within}
use Rattle.bushy_plan.specs.declared.weight.Weighing.{Weighing}
use Rattle.bushy_plan.specs.declared.weight.Weighing.TheVariants as weight
use Rattle.bushy_plan.specs.BestTree.{IsTreeBefore}
use Rattle.bushy_plan.specs.PlanTrees.{IsFirstEntry, IsSplit, IsTreeOver, PlanTree, leaf, node, leaf_bits}
use Rattle.bushy_plan.specs.Splits.{IsWithoutFirst, IsFirstLightest, IsFirstLightestSplit, IsLeastWeight, HasLeastWeights, combined, weight_of, weight_through}
use Rattle.bushy_plan.proofs.Parts.{IsPart, is_part_of_itself, common_part, none_between, part_le}
use Rattle.bushy_plan.proofs.Splitting.{no_leaf, only_leaf, part_of_split, split_of_part, split_by_right, split_sum, tree_set}
use Rattle.bushy_plan.proofs.Lightest.{TreeWithRightSet, combined-beyond, combined-within, left_in_table, right_in_table, through_is_least, tree_through}

-- ---- the search for the first lightest split

record LightestSplit (w : Weighing) (bounds table : List ℕ) (set : ℕ) : Type 0 where
  right : ℕ
  is_split : IsSplit set (set - right) right
  lightest : weight_through w bounds table set right ≡ get_or table set 0

through_at_least : (w : Weighing) (bounds table : List ℕ) (set end right : ℕ) → set < end → HasLeastWeights w bounds table end → IsSplit set (set - right) right
    → get_or table set 0 ≤ weight_through w bounds table set right
through_at_least w bounds table set end right h is_table split =
    let through : TreeWithRightSet w bounds table set right =
    tree_through w bounds table set right split (left_in_table w bounds table set end right (omega arith) is_table split) (right_in_table w bounds table set end right (omega arith) is_table split) in
    let not_empty : 0 < set = omega (arith, split.some_left) in
    omega (arith, through.weighs, (is_table set not_empty h).none_lighter through.tree through.is_tree)

through_of_tree : (w : Weighing) (bounds table : List ℕ) (set end : ℕ) (left right : PlanTree) → set < end → HasLeastWeights w bounds table end → IsTreeOver set (node left right)
    → weight_of w bounds (node left right) ≡ get_or table set 0 → weight_through w bounds table set (leaf_bits right) ≡ get_or table set 0
through_of_tree w bounds table set end left right h is_table is_tree weighs =
    omega (
      arith,
      weighs,
      through_is_least w bounds table set end left right (omega arith) is_table is_tree,
      through_at_least w bounds table set end (leaf_bits right) h is_table (split_by_right set (leaf_bits left) (leaf_bits right) is_tree.0),
    )

some_lightest_split : (w : Weighing) (bounds table : List ℕ) (set end first : ℕ) → IsFirstEntry set first → 0 < set - 2 ^ first → set < end → HasLeastWeights w bounds table end → LightestSplit w bounds table set
some_lightest_split w bounds table set end first is_first more h is_table = at least.tree least.is_tree least.weighs
  where
    least : IsLeastWeight w bounds set (get_or table set 0)
    least = is_table set (omega arith) h

    at : (tree : PlanTree) → IsTreeOver set tree → weight_of w bounds tree ≡ get_or table set 0 → LightestSplit w bounds table set
    at (leaf entry) is_tree weighs = absurd (no_leaf set first entry is_first more is_tree)
    at (node left right) is_tree weighs = record {
      right = leaf_bits right;
      is_split = split_by_right set (leaf_bits left) (leaf_bits right) is_tree.0;
      lightest = through_of_tree w bounds table set end left right h is_table is_tree weighs;
    }

-- the right sets above `right` were tried, and none of their splits is as light as the array says
pub record NotFoundYet (w : Weighing) (bounds table : List ℕ) (set all_but_first right : ℕ) : Type 0 where
  pub is_part : IsPart right all_but_first
  pub not_empty : 0 < right
  pub none_above : (other : ℕ) → IsPart other all_but_first → right < other → weight_through w bounds table set other ≢ get_or table set 0

pub not_found_at_first : (w : Weighing) (bounds table : List ℕ) (set all_but_first : ℕ) → 0 < all_but_first → NotFoundYet w bounds table set all_but_first all_but_first
not_found_at_first w bounds table set all_but_first more = record {
  is_part = is_part_of_itself all_but_first;
  not_empty = more;
  none_above = λ other is_other h same. omega (arith, part_le other all_but_first is_other);
}

behind_part : (set all_but_first right : ℕ) → (b : IsWithoutFirst set all_but_first) → IsPart right all_but_first → IsPart right (set - 2 ^ b.first)
behind_part set all_but_first right b is_part = subst (λ (k : ℕ). IsPart right k) b.others is_part

part_behind : (set all_but_first right : ℕ) → (b : IsWithoutFirst set all_but_first) → IsSplit set (set - right) right → IsPart right all_but_first
part_behind set all_but_first right b split = subst (λ (k : ℕ). IsPart right k) (sym b.others) (part_of_split set b.first (set - right) right b.is_first split)

pub not_found_at_next : (w : Weighing) (bounds table : List ℕ) (set end all_but_first right : ℕ) → IsWithoutFirst set all_but_first → 0 < all_but_first → set < end → HasLeastWeights w bounds table end
    → NotFoundYet w bounds table set all_but_first right → weight_through w bounds table set right ≢ get_or table set 0 → NotFoundYet w bounds table set all_but_first (bit_and (right - 1) all_but_first)
not_found_at_next w bounds table set end all_but_first right b more h is_table looked isnt = record {
  is_part = common_part (right - 1) all_but_first;
  not_empty = elim (cases_order goal.right right) [
    | inl same ↦ absurd (isnt (ap (weight_through w bounds table set) (sym same) ∙ goal.lightest))
    | inr apart ↦ elim apart [
      | inl below ↦ omega (arith, none_between right all_but_first goal.right looked.is_part its_part below, goal.is_split.some_right)
      | inr above ↦ absurd (looked.none_above goal.right its_part above goal.lightest)
    ]
  ];
  none_above = λ other is_other above same. elim (cases_order other right) [
    | inl equal ↦ isnt (ap (weight_through w bounds table set) (sym equal) ∙ same)
    | inr apart ↦ elim apart [
      | inl below ↦ omega (arith, none_between right all_but_first other looked.is_part is_other below)
      | inr further ↦ looked.none_above other is_other further same
    ]
  ];
}
  where
    goal : LightestSplit w bounds table set
    goal = some_lightest_split w bounds table set end b.first b.is_first (omega (arith, b.others)) h is_table

    its_part : IsPart goal.right all_but_first
    its_part = part_behind set all_but_first goal.right b goal.is_split

pub found_is_first : (w : Weighing) (bounds table : List ℕ) (set all_but_first right : ℕ) → IsWithoutFirst set all_but_first → NotFoundYet w bounds table set all_but_first right
    → weight_through w bounds table set right ≡ get_or table set 0 → IsFirstLightestSplit w bounds table set right
found_is_first w bounds table set all_but_first right b looked is = record {
  is_split = split_of_part set b.first right b.is_first (behind_part set all_but_first right b looked.is_part) looked.not_empty;
  lightest = is;
  first = λ other split above. looked.none_above other (part_behind set all_but_first other b split) above;
}

pub right_below_set : (w : Weighing) (bounds table : List ℕ) (set all_but_first right : ℕ) → IsWithoutFirst set all_but_first → NotFoundYet w bounds table set all_but_first right → right < set
right_below_set w bounds table set all_but_first right b looked =
    omega (arith, part_le right all_but_first looked.is_part, b.others, power_within b.first set b.is_first.is_in, pow_pos b.first)

-- ---- the tree over the first lightest split is the first lightest tree

pub first_of_one : (w : Weighing) (bounds : List ℕ) (set first : ℕ) → IsFirstEntry set first → set - 2 ^ first ≡ 0 → IsFirstLightest w bounds set (leaf first)
first_of_one w bounds set first is_first none = record {
  is_tree = only_leaf set first is_first none;
  none_lighter = λ other is_tree. omega arith;
  none_earlier = λ other is_tree same before. not_before other is_tree before;
}
  where
    not_before : (other : PlanTree) → IsTreeOver set other → ¬ IsTreeBefore other (leaf first)
    not_before (leaf entry) is_tree before = before
    not_before (node left right) is_tree before = before

-- the bound of the set is at most `most`. This bound and the weights of both sides sum to the weight in the array
pub record Light (most : ℕ) (bounds table : List ℕ) (set right : ℕ) : Type 0 where
  pub bound : get_or bounds set 0 ≤ most
  pub sums : get_or bounds set 0 + get_or table (set - right) 0 + get_or table right 0 ≡ get_or table set 0
  pub left : get_or table (set - right) 0 < 2 ^ 128 - 1
  pub right_side : get_or table right 0 < 2 ^ 128 - 1

light_sums : (most bound left right whole : ℕ) → combined (weight.SumIfBoundsAtMost most) bound left right ≡ whole → whole < 2 ^ 128 - 1 → (bound ≤ most) × (bound + left + right ≡ whole)
light_sums most bound left right whole is below = elim (cases_lt most bound) [
  | inl beyond ↦ absurd (omega (arith, combined-beyond most bound left right beyond))
  | inr within ↦ (within, omega (arith, combined-within most bound left right within))
]

pub light_sides : (most : ℕ) (bounds table : List ℕ) (set right : ℕ) → weight_through (weight.SumIfBoundsAtMost most) bounds table set right ≡ get_or table set 0 → get_or table set 0 < 2 ^ 128 - 1
    → Light most bounds table set right
light_sides most bounds table set right is below =
    let sums : (get_or bounds set 0 ≤ most) × (get_or bounds set 0 + get_or table (set - right) 0 + get_or table right 0 ≡ get_or table set 0) =
    light_sums most (get_or bounds set 0) (get_or table (set - right) 0) (get_or table right 0) (get_or table set 0) is below in
    record { bound = sums.0; sums = sums.1; left = omega (arith, sums.1); right_side = omega (arith, sums.1) }

weighs_table : (w : Weighing) (bounds table : List ℕ) (set end : ℕ) (tree : PlanTree) → 0 < set → set < end → HasLeastWeights w bounds table end → IsFirstLightest w bounds set tree
    → weight_of w bounds tree ≡ get_or table set 0
weighs_table w bounds table set end tree not_empty h is_table is_first =
    let least : IsLeastWeight w bounds set (get_or table set 0) = is_table set not_empty h in
    omega (arith, least.weighs, least.none_lighter tree is_first.is_tree, is_first.none_lighter least.tree least.is_tree)

pub node_over : (set right_set : ℕ) (left right : PlanTree) → IsSplit set (set - right_set) right_set → IsTreeOver (set - right_set) left → IsTreeOver right_set right → IsTreeOver set (node left right)
node_over set right_set left right split left_tree right_tree =
    let left_is : leaf_bits left ≡ set - right_set = tree_set (set - right_set) left left_tree in
    let right_is : leaf_bits right ≡ right_set = tree_set right_set right right_tree in (
      subst (λ (k : ℕ). IsSplit set k (leaf_bits right)) (sym left_is) (subst (λ (k : ℕ). IsSplit set (set - right_set) k) (sym right_is) split),
      subst (λ (k : ℕ). IsTreeOver k left) (sym left_is) left_tree,
      subst (λ (k : ℕ). IsTreeOver k right) (sym right_is) right_tree,
    )

pub first_of_sides : (most : ℕ) (bounds table : List ℕ) (set end right_set : ℕ) (left right : PlanTree) → set < end → HasLeastWeights (weight.SumIfBoundsAtMost most) bounds table end
    → get_or table set 0 < 2 ^ 128 - 1 → IsFirstLightestSplit (weight.SumIfBoundsAtMost most) bounds table set right_set
    → IsFirstLightest (weight.SumIfBoundsAtMost most) bounds (set - right_set) left → IsFirstLightest (weight.SumIfBoundsAtMost most) bounds right_set right
    → IsFirstLightest (weight.SumIfBoundsAtMost most) bounds set (node left right)
first_of_sides most bounds table set end right_set left right h is_table is_light split first_left first_right = record {
  is_tree = is_tree;
  none_lighter = λ other other_tree. omega (arith, weighs, (is_table set not_empty h).none_lighter other other_tree);
  none_earlier = λ other other_tree same before. not_before other other_tree (same ∙ weighs) before;
}
  where
    w : Weighing
    w = weight.SumIfBoundsAtMost most

    not_empty : 0 < set
    not_empty = omega (arith, split.is_split.some_left)

    is_tree : IsTreeOver set (node left right)
    is_tree = node_over set right_set left right split.is_split first_left.is_tree first_right.is_tree

    left_set : leaf_bits left ≡ set - right_set
    left_set = tree_set (set - right_set) left first_left.is_tree

    right_is : leaf_bits right ≡ right_set
    right_is = tree_set right_set right first_right.is_tree

    left_weighs : weight_of (weight.SumIfBoundsAtMost most) bounds left ≡ get_or table (set - right_set) 0
    left_weighs = weighs_table (weight.SumIfBoundsAtMost most) bounds table (set - right_set) end left split.is_split.some_left (omega arith) is_table first_left

    right_weighs : weight_of (weight.SumIfBoundsAtMost most) bounds right ≡ get_or table right_set 0
    right_weighs = weighs_table (weight.SumIfBoundsAtMost most) bounds table right_set end right split.is_split.some_right (omega (arith, split.is_split.some_left)) is_table first_right

    weighs : weight_of (weight.SumIfBoundsAtMost most) bounds (node left right) ≡ get_or table set 0
    weighs =
        ap (λ k. combined (weight.SumIfBoundsAtMost most) (get_or bounds k 0) (weight_of (weight.SumIfBoundsAtMost most) bounds left) (weight_of (weight.SumIfBoundsAtMost most) bounds right)) (tree_set set (node left right) is_tree)
        ∙ ap (λ k. combined (weight.SumIfBoundsAtMost most) (get_or bounds set 0) k (weight_of (weight.SumIfBoundsAtMost most) bounds right)) left_weighs
        ∙ ap (λ k. combined (weight.SumIfBoundsAtMost most) (get_or bounds set 0) (get_or table (set - right_set) 0) k) right_weighs
        ∙ split.lightest

    sums : Light most bounds table set right_set
    sums = light_sides most bounds table set right_set split.lightest is_light

    -- the tree that is read off has the sides `left` and `right`, and another tree has `left'` and `right'`. Their sides can be compared
    sides_weigh : (left' right' : PlanTree) → IsTreeOver set (node left' right') → weight_of (weight.SumIfBoundsAtMost most) bounds (node left' right') ≡ get_or table set 0 → leaf_bits left' ≡ set - right_set
        → IsTreeOver (set - right_set) left' × IsTreeOver right_set right'
        × (weight_of (weight.SumIfBoundsAtMost most) bounds left' ≡ weight_of (weight.SumIfBoundsAtMost most) bounds left) × (weight_of (weight.SumIfBoundsAtMost most) bounds right' ≡ weight_of (weight.SumIfBoundsAtMost most) bounds right)
    sides_weigh left' right' other_tree equal left_same =
        let whole : leaf_bits left' + leaf_bits right' ≡ set = tree_set set (node left' right') other_tree in
        let right_same : leaf_bits right' ≡ right_set = omega (arith, split.is_split.some_left, split.is_split.some_right, whole, left_same) in
        let left_tree : IsTreeOver (set - right_set) left' = subst (λ (k : ℕ). IsTreeOver k left') left_same other_tree.1 in
        let right_tree : IsTreeOver right_set right' = subst (λ (k : ℕ). IsTreeOver k right') right_same other_tree.2 in
        let at_set : combined (weight.SumIfBoundsAtMost most) (get_or bounds set 0) (weight_of (weight.SumIfBoundsAtMost most) bounds left') (weight_of (weight.SumIfBoundsAtMost most) bounds right') ≡ get_or table set 0 =
        ap (λ k. combined (weight.SumIfBoundsAtMost most) (get_or bounds k 0) (weight_of (weight.SumIfBoundsAtMost most) bounds left') (weight_of (weight.SumIfBoundsAtMost most) bounds right')) (sym whole) ∙ equal in
        let other_sums : (get_or bounds set 0 ≤ most) × (get_or bounds set 0 + weight_of (weight.SumIfBoundsAtMost most) bounds left' + weight_of (weight.SumIfBoundsAtMost most) bounds right' ≡ get_or table set 0) =
        light_sums most (get_or bounds set 0) (weight_of (weight.SumIfBoundsAtMost most) bounds left') (weight_of (weight.SumIfBoundsAtMost most) bounds right') (get_or table set 0) at_set is_light in
        let left_no_lighter : weight_of (weight.SumIfBoundsAtMost most) bounds left ≤ weight_of (weight.SumIfBoundsAtMost most) bounds left' = first_left.none_lighter left' left_tree in
        let right_no_lighter : weight_of (weight.SumIfBoundsAtMost most) bounds right ≤ weight_of (weight.SumIfBoundsAtMost most) bounds right' = first_right.none_lighter right' right_tree in (
          left_tree,
          right_tree,
          omega (arith, other_sums.1, sums.sums, left_weighs, right_weighs, left_no_lighter, right_no_lighter),
          omega (arith, other_sums.1, sums.sums, left_weighs, right_weighs, left_no_lighter, right_no_lighter),
        )

    not_before : (other : PlanTree) → IsTreeOver set other → weight_of (weight.SumIfBoundsAtMost most) bounds other ≡ get_or table set 0 → ¬ IsTreeBefore other (node left right)
    not_before (leaf entry) other_tree equal before = before
    not_before (node left' right') other_tree equal before = elim before [
      | inl less ↦ split.first (leaf_bits right') (split_by_right set (leaf_bits left') (leaf_bits right') other_tree.0)
          (omega (arith, split_sum set (leaf_bits left') (leaf_bits right') other_tree.0, left_set, less))
          (through_of_tree (weight.SumIfBoundsAtMost most) bounds table set end left' right' h is_table other_tree equal)
      | inr here ↦ (let sides : IsTreeOver (set - right_set) left' × IsTreeOver right_set right'
          × (weight_of (weight.SumIfBoundsAtMost most) bounds left' ≡ weight_of (weight.SumIfBoundsAtMost most) bounds left) × (weight_of (weight.SumIfBoundsAtMost most) bounds right' ≡ weight_of (weight.SumIfBoundsAtMost most) bounds right) =
          sides_weigh left' right' other_tree equal (here.0 ∙ left_set) in
          elim here.1 [
            | inl left_before ↦ first_left.none_earlier left' sides.0 sides.2 left_before
            | inr right_here ↦ first_right.none_earlier right' sides.1 sides.3 right_here.1
          ])
    ]
