-- The least weight of a tree over a set follows from the least weights of trees over its subsets.
use Rattle.std.proofs.Common.{◌≡◌, ℕ, ◌+◌, ◌-◌, ◌^◌, ◌<◌, ◌≤◌, min, List, get_or, refl, ap, sym, ◌∙◌, subst, arith, inl, inr}
use Rattle.std.specs.Prelude.{◌⊎◌, bit_and}
use Rattle.std.proofs.lemmas.Bool.{cases_lt, cases_order, le-leb, lt-leb}
use Rattle.bushy_plan.specs.declared.weight.Weighing.{Weighing}
use Rattle.bushy_plan.specs.declared.weight.Weighing.TheVariants as weight
use Rattle.bushy_plan.specs.PlanTrees.{IsFirstEntry, IsSplit, IsTreeOver, PlanTree, leaf, node, leaf_bits}
use Rattle.bushy_plan.specs.Splits.{IsLeastWeight, HasLeastWeights, combined, weight_of, weight_through}
use Rattle.bushy_plan.proofs.Parts.{IsPart, is_part_of_itself, common_part, none_between, part_le}
use Rattle.bushy_plan.proofs.Splitting.{no_leaf, only_leaf, part_of_split, some_entries, split_of_part, split_right_le, tree_set}

pub combined-within : (most bound left right : ℕ) → bound ≤ most → combined (weight.SumIfBoundsAtMost most) bound left right ≡ min (bound + left + right) (2 ^ 128 - 1)
combined-within most bound left right h = rw (le-leb bound most h) refl

pub combined-beyond : (most bound left right : ℕ) → most < bound → combined (weight.SumIfBoundsAtMost most) bound left right ≡ 2 ^ 128 - 1
combined-beyond most bound left right h = rw (lt-leb bound most h) refl

pub combined-mono : (w : Weighing) (bound a b c d : ℕ) → a ≤ c → b ≤ d → combined w bound a b ≤ combined w bound c d
combined-mono weight.Greatest bound a b c d h k = omega arith
combined-mono (weight.SumIfBoundsAtMost most) bound a b c d h k = elim (cases_lt most bound) [
  | inl beyond ↦ omega (arith, combined-beyond most bound a b beyond, combined-beyond most bound c d beyond)
  | inr within ↦ omega (arith, combined-within most bound a b within, combined-within most bound c d within)
]

-- the right sets above `right` were tried. `least` is the least weight of a tree with one of these right sets, or 2^128 - 1 if none was tried
pub record LeastOfTried (w : Weighing) (bounds table : List ℕ) (set all_but_first right least : ℕ) : Type 0 where
  pub is_part : IsPart right all_but_first
  pub above : (other : ℕ) → IsPart other all_but_first → right < other → (least ≤ weight_through w bounds table set other) × (weight_through w bounds table set other < 2 ^ 128)
  pub found : (least ≡ 2 ^ 128 - 1) ⊎ ((other : ℕ) × IsPart other all_but_first × (0 < other) × (weight_through w bounds table set other ≡ least))

pub tried_none : (w : Weighing) (bounds table : List ℕ) (set all_but_first : ℕ) → LeastOfTried w bounds table set all_but_first all_but_first (2 ^ 128 - 1)
tried_none w bounds table set all_but_first = record {
  is_part = is_part_of_itself all_but_first;
  above = λ other is_other h. absurd (omega (arith, part_le other all_but_first is_other));
  found = inl refl;
}

pub tried_more : (w : Weighing) (bounds table : List ℕ) (set all_but_first right least through : ℕ) → LeastOfTried w bounds table set all_but_first right least → 0 < right
    → through ≡ weight_through w bounds table set right → through < 2 ^ 128 → LeastOfTried w bounds table set all_but_first (bit_and (right - 1) all_but_first) (min least through)
tried_more w bounds table set all_but_first right least through tried some is fits = record {
  is_part = common_part (right - 1) all_but_first;
  above = λ other is_other h. elim (cases_order other right) [
    | inl same ↦ (let this : weight_through w bounds table set other ≡ through = ap (weight_through w bounds table set) same ∙ sym is in
        (omega arith, omega arith))
    | inr apart ↦ elim apart [
      | inl below ↦ absurd (omega (arith, none_between right all_but_first other tried.is_part is_other below))
      | inr above ↦ (let before : (least ≤ weight_through w bounds table set other) × (weight_through w bounds table set other < 2 ^ 128) = tried.above other is_other above in
          (omega arith, before.1))
    ]
  ];
  found = elim (cases_lt through least) [
    | inl lighter ↦ (let is_min : min least through ≡ through = omega arith in inr (right, tried.is_part, some, sym is ∙ sym is_min))
    | inr heavier ↦ (let is_min : min least through ≡ least = omega arith in
        subst (λ (v : ℕ). (v ≡ 2 ^ 128 - 1) ⊎ ((other : ℕ) × IsPart other all_but_first × (0 < other) × (weight_through w bounds table set other ≡ v))) (sym is_min) tried.found)
  ];
}

pub least_of_one : (w : Weighing) (bounds : List ℕ) (set first : ℕ) → IsFirstEntry set first → set - 2 ^ first ≡ 0 → IsLeastWeight w bounds set 0
least_of_one w bounds set first is_first none = record {
  tree = leaf first;
  is_tree = only_leaf set first is_first none;
  weighs = refl;
  none_lighter = λ other is_tree. omega arith;
}

-- a tree over `set` that has this right set and the weight in the array
pub record TreeWithRightSet (w : Weighing) (bounds table : List ℕ) (set right : ℕ) : Type 0 where
  pub tree : PlanTree
  pub is_tree : IsTreeOver set tree
  pub weighs : weight_of w bounds tree ≡ weight_through w bounds table set right

pub tree_through : (w : Weighing) (bounds table : List ℕ) (set right : ℕ) → IsSplit set (set - right) right
    → IsLeastWeight w bounds (set - right) (get_or table (set - right) 0) → IsLeastWeight w bounds right (get_or table right 0) → TreeWithRightSet w bounds table set right
tree_through w bounds table set right split left_side right_side =
    let left_set : leaf_bits left_side.tree ≡ set - right = tree_set (set - right) left_side.tree left_side.is_tree in
    let right_set : leaf_bits right_side.tree ≡ right = tree_set right right_side.tree right_side.is_tree in
    let whole : leaf_bits left_side.tree + leaf_bits right_side.tree ≡ set = omega (arith, left_set, right_set, split_right_le set (set - right) right split) in
    record {
      tree = node left_side.tree right_side.tree;
      is_tree = (
        subst (λ (k : ℕ). IsSplit set k (leaf_bits right_side.tree)) (sym left_set) (subst (λ (k : ℕ). IsSplit set (set - right) k) (sym right_set) split),
        subst (λ (k : ℕ). IsTreeOver k left_side.tree) (sym left_set) left_side.is_tree,
        subst (λ (k : ℕ). IsTreeOver k right_side.tree) (sym right_set) right_side.is_tree,
      );
      weighs = ap (λ k. combined w (get_or bounds k 0) (weight_of w bounds left_side.tree) (weight_of w bounds right_side.tree)) whole
          ∙ ap (λ k. combined w (get_or bounds set 0) k (weight_of w bounds right_side.tree)) left_side.weighs
          ∙ ap (λ k. combined w (get_or bounds set 0) (get_or table (set - right) 0) k) right_side.weighs;
    }

pub through_is_least : (w : Weighing) (bounds table : List ℕ) (set end : ℕ) (left right : PlanTree) → set ≤ end → HasLeastWeights w bounds table end → IsTreeOver set (node left right)
    → weight_through w bounds table set (leaf_bits right) ≤ weight_of w bounds (node left right)
through_is_least w bounds table set end left right h is_table is_tree =
    let whole : leaf_bits left + leaf_bits right ≡ set = tree_set set (node left right) is_tree in
    let left_set : set - leaf_bits right ≡ leaf_bits left = omega arith in
    let left_least : get_or table (leaf_bits left) 0 ≤ weight_of w bounds left =
    (is_table (leaf_bits left) (some_entries left) (omega (arith, some_entries right))).none_lighter left is_tree.1 in
    let right_least : get_or table (leaf_bits right) 0 ≤ weight_of w bounds right =
    (is_table (leaf_bits right) (some_entries right) (omega (arith, some_entries left))).none_lighter right is_tree.2 in
    omega (
      arith,
      combined-mono w (get_or bounds set 0) (get_or table (set - leaf_bits right) 0) (get_or table (leaf_bits right) 0) (weight_of w bounds left) (weight_of w bounds right)
          (omega (arith, left_least, ap (λ k. get_or table k 0) left_set)) right_least,
      ap (λ k. combined w (get_or bounds k 0) (weight_of w bounds left) (weight_of w bounds right)) whole,
    )

pub left_in_table : (w : Weighing) (bounds table : List ℕ) (set end right : ℕ) → set ≤ end → HasLeastWeights w bounds table end → IsSplit set (set - right) right
    → IsLeastWeight w bounds (set - right) (get_or table (set - right) 0)
left_in_table w bounds table set end right h is_table split =
    is_table (set - right) split.some_left (omega (arith, split.some_right, split.some_left))

pub right_in_table : (w : Weighing) (bounds table : List ℕ) (set end right : ℕ) → set ≤ end → HasLeastWeights w bounds table end → IsSplit set (set - right) right
    → IsLeastWeight w bounds right (get_or table right 0)
right_in_table w bounds table set end right h is_table split =
    is_table right split.some_right (omega (arith, split.some_left, split.some_right))

pub least_of_tried : (w : Weighing) (bounds table : List ℕ) (set first least : ℕ) → IsFirstEntry set first → 0 < set - 2 ^ first → HasLeastWeights w bounds table set
    → LeastOfTried w bounds table set (set - 2 ^ first) 0 least → IsLeastWeight w bounds set least
least_of_tried w bounds table set first least is_first more is_table tried = elim tried.found [
  | inl heaviest ↦ (let its : (least ≤ weight_through w bounds table set (set - 2 ^ first)) × (weight_through w bounds table set (set - 2 ^ first) < 2 ^ 128) =
      tried.above (set - 2 ^ first) (is_part_of_itself (set - 2 ^ first)) more in
      made (set - 2 ^ first) (is_part_of_itself (set - 2 ^ first)) more (omega (arith, its.0, its.1, heaviest)))
  | inr one ↦ made one.0 one.1 one.2 one.3
]
  where
    none_lighter : (other : PlanTree) → IsTreeOver set other → least ≤ weight_of w bounds other
    none_lighter (leaf entry) is_tree = absurd (no_leaf set first entry is_first more is_tree)
    none_lighter (node left right) is_tree =
        omega (
          arith,
          (tried.above (leaf_bits right) (part_of_split set first (leaf_bits left) (leaf_bits right) is_first is_tree.0) (some_entries right)).0,
          through_is_least w bounds table set set left right (omega arith) is_table is_tree,
        )

    made : (right : ℕ) → IsPart right (set - 2 ^ first) → 0 < right → weight_through w bounds table set right ≡ least → IsLeastWeight w bounds set least
    made right is_part some is =
        let split : IsSplit set (set - right) right = split_of_part set first right is_first is_part some in
        let through : TreeWithRightSet w bounds table set right =
        tree_through w bounds table set right split (left_in_table w bounds table set set right (omega arith) is_table split) (right_in_table w bounds table set set right (omega arith) is_table split) in
        record {
          tree = through.tree;
          is_tree = through.is_tree;
          weighs = through.weighs ∙ is;
          none_lighter = none_lighter;
        }
