-- For each left-deep order there is a join tree of no greater cost.
use Rattle.std.proofs.Common.{◌≡◌, ℕ, ◌+◌, ◌*◌, ◌-◌, ◌^◌, ◌<◌, ◌≤◌, max, List, [], ◌∷◌, get_or, refl, ap, sym, ◌∙◌, subst, arith, inl, inr}
use Rattle.std.specs.Prelude.{bit_and, bit_or}
use Rattle.std.specs.Int.{bit_at}
use Rattle.std.proofs.lemmas.Bool.{cases_eq, cases_order}
use Rattle.std.proofs.lemmas.Nat.{or_disjoint, pow_pos}
use Rattle.std.proofs.lemmas.Nat.Bits.{and_pow, bit_at_or, bit_at-lt, bit_at-pow_other}
use Rattle.entry_sets.proofs.Bits.{bit_without_other, bit_without_same, power_within}
use Rattle.order_search.specs.Orders.{greatest, cost as left_deep_cost}
use Rattle.order_search.specs.Ways.{IsWay}
use Rattle.order_search.proofs.Prefixes.{cost_is, levels_after}
use Rattle.order_search.proofs.WholeWays.{way_from_order}
use Rattle.plans.specs.LeftDeep.{IsOrder}
use Rattle.bushy_plan.specs.BestTree.{full_set, cost, inner_greatest}
use Rattle.bushy_plan.specs.PlanTrees.{IsFirstEntry, IsSplit, IsTreeOver, PlanTree, leaf, node, leaf_bits}
use Rattle.bushy_plan.proofs.Splitting.{first_of_power, one_first, some_entries, tree_set}

pub bit_with : (set x entry : ℕ) → bit_at set x ≡ 0 → bit_at (set + 2 ^ x) entry ≡ bit_at set entry + bit_at (2 ^ x) entry
bit_with set x entry out =
    let none : bit_and set (2 ^ x) ≡ 0 = omega (arith, and_pow set x, ap (λ k. k * 2 ^ x) out) in
    let combined : bit_at (bit_or set (2 ^ x)) entry ≡ bit_at (set + 2 ^ x) entry = ap (λ k. bit_at k entry) (or_disjoint set (2 ^ x) none) in
    elim (cases_eq entry x) [
      | inl same ↦ omega (arith, combined, bit_at_or set (2 ^ x) entry, ap (bit_at set) same, out)
      | inr apart ↦ omega (arith, combined, bit_at_or set (2 ^ x) entry, bit_at-pow_other x entry apart)
    ]

first_of_both : (set left right a b : ℕ) → ((entry : ℕ) → bit_at left entry + bit_at right entry ≡ bit_at set entry) → IsFirstEntry left a → IsFirstEntry right b → a < b → IsFirstEntry set a
first_of_both set left right a b apart first_a first_b h = record {
  is_in = omega (arith, apart a, first_a.is_in, bit_at-lt set a);
  none_before = λ entry below. omega (arith, apart entry, first_a.none_before entry below, first_b.none_before entry (omega arith));
}

pub tree_first : (set : ℕ) (tree : PlanTree) → IsTreeOver set tree → (first : ℕ) × IsFirstEntry set first
tree_first set (leaf entry) is_tree = (entry, subst (λ (k : ℕ). IsFirstEntry k entry) (sym is_tree) (first_of_power entry))
tree_first set (node left right) is_tree =
    let a : (first : ℕ) × IsFirstEntry (leaf_bits left) first = tree_first (leaf_bits left) left is_tree.1 in
    let b : (first : ℕ) × IsFirstEntry (leaf_bits right) first = tree_first (leaf_bits right) right is_tree.2 in
    elim (cases_order a.0 b.0) [
      | inl same ↦ absurd (omega (arith, is_tree.0.apart a.0, a.1.is_in, b.1.is_in, ap (bit_at (leaf_bits right)) same, bit_at-lt set a.0))
      | inr apart ↦ elim apart [
        | inl below ↦ (a.0, first_of_both set (leaf_bits left) (leaf_bits right) a.0 b.0 is_tree.0.apart a.1 b.1 below)
        | inr above ↦ (b.0, first_of_both set (leaf_bits right) (leaf_bits left) b.0 a.0 (λ entry. omega (arith, is_tree.0.apart entry)) b.1 a.1 above)
      ]
    ]

pub split_with_first : (set left right a b : ℕ) → ((entry : ℕ) → bit_at left entry + bit_at right entry ≡ bit_at set entry) → 0 < left → 0 < right
    → IsFirstEntry left a → IsFirstEntry right b → a < b → IsSplit set left right
split_with_first set left right a b apart some_left some_right first_a first_b h = record {
  apart = apart;
  some_left = some_left;
  some_right = some_right;
  first_left = λ first is_first. ap (bit_at left) (one_first set first a is_first (first_of_both set left right a b apart first_a first_b h)) ∙ first_a.is_in;
}

-- a tree with one more entry joined to it. `grown` has its sides swapped where needed, so that the set's first entry is on the left. Swapping sides
-- doesn't change the bounds
record TreeWithEntry (bounds : List ℕ) (set : ℕ) (tree : PlanTree) : Type 0 where
  grown : PlanTree
  is_tree : IsTreeOver set grown
  greatest_of : inner_greatest bounds grown ≡ max (get_or bounds set 0) (inner_greatest bounds tree)
  cost_of : cost bounds grown ≡ inner_greatest bounds grown

tree_with_entry : (bounds : List ℕ) (placed x : ℕ) (tree : PlanTree) → IsTreeOver placed tree → bit_at placed x ≡ 0 → TreeWithEntry bounds (placed + 2 ^ x) tree
tree_with_entry bounds placed x tree is_tree out = elim (cases_order first.0 x) [
  | inl same ↦ absurd (omega (arith, first.1.is_in, ap (bit_at placed) same, out))
  | inr apart ↦ elim apart [
    | inl below ↦ record {
      grown = node tree (leaf x);
      is_tree = (
        subst (λ (k : ℕ). IsSplit (placed + 2 ^ x) k (2 ^ x)) (sym set_is)
            (split_with_first (placed + 2 ^ x) placed (2 ^ x) first.0 x (λ entry. sym (bit_with placed x entry out)) some (pow_pos x) first.1 (first_of_power x) below),
        itself,
        refl,
      );
      greatest_of = omega (arith, ap (λ k. get_or bounds (k + 2 ^ x) 0) set_is);
      cost_of = refl;
    }
    | inr above ↦ record {
      grown = node (leaf x) tree;
      is_tree = (
        subst (λ (k : ℕ). IsSplit (placed + 2 ^ x) (2 ^ x) k) (sym set_is)
            (split_with_first (placed + 2 ^ x) (2 ^ x) placed x first.0 (λ entry. omega (arith, bit_with placed x entry out)) (pow_pos x) some (first_of_power x) first.1 above),
        refl,
        itself,
      );
      greatest_of = omega (arith, ap (λ k. get_or bounds k 0) turned);
      cost_of = refl;
    }
  ]
]
  where
    first : (first : ℕ) × IsFirstEntry placed first
    first = tree_first placed tree is_tree

    set_is : leaf_bits tree ≡ placed
    set_is = tree_set placed tree is_tree

    some : 0 < placed
    some = omega (arith, some_entries tree, set_is)

    itself : IsTreeOver (leaf_bits tree) tree
    itself = subst (λ (k : ℕ). IsTreeOver k tree) (sym set_is) is_tree

    turned : 2 ^ x + leaf_bits tree ≡ placed + 2 ^ x
    turned = omega (arith, set_is)

record TreeWithinCost (bounds : List ℕ) (set most : ℕ) : Type 0 where
  tree : PlanTree
  is_tree : IsTreeOver set tree
  within_cost : cost bounds tree ≤ most

tree_along_way : (bounds : List ℕ) (all placed left most : ℕ) (entries : List ℕ) (tree : PlanTree) → IsTreeOver placed tree → cost bounds tree ≤ most → inner_greatest bounds tree ≤ most
    → placed + left ≡ all → ((entry : ℕ) → bit_at placed entry + bit_at left entry ≤ 1) → IsWay left entries → greatest (levels_after bounds placed entries) ≤ most → TreeWithinCost bounds all most
tree_along_way bounds all placed left most [] tree is_tree within_cost low whole apart way levels = record {
  tree = tree;
  is_tree = subst (λ (k : ℕ). IsTreeOver k tree) (omega (arith, whole, way)) is_tree;
  within_cost = within_cost;
}
tree_along_way bounds all placed left most (x ∷ entries) tree is_tree within_cost low whole apart way levels =
    tree_along_way bounds all (placed + 2 ^ x) (left - 2 ^ x) most entries more.grown more.is_tree (omega (arith, more.cost_of, more.greatest_of)) (omega (arith, more.greatest_of))
    (omega (arith, whole, power_within x left way.0)) still_apart way.1 (omega arith)
  where
    out : bit_at placed x ≡ 0
    out = omega (arith, apart x, way.0)

    more : TreeWithEntry bounds (placed + 2 ^ x) tree
    more = tree_with_entry bounds placed x tree is_tree out

    still_apart : (entry : ℕ) → bit_at (placed + 2 ^ x) entry + bit_at (left - 2 ^ x) entry ≤ 1
    still_apart entry = elim (cases_eq entry x) [
      | inl same ↦ omega (arith, ap (bit_at (left - 2 ^ x)) same, bit_without_same x left way.0, bit_at-lt (placed + 2 ^ x) entry)
      | inr other ↦ omega (arith, bit_with placed x entry out, bit_at-pow_other x entry other, bit_without_other x left entry way.0 other, apart entry)
    ]

tree_of_way : (bounds : List ℕ) (all most : ℕ) (order : List ℕ) → 0 < all → IsWay all order → greatest (levels_after bounds 0 order) ≤ most → TreeWithinCost bounds all most
tree_of_way bounds all most [] some way levels = absurd (omega arith)
tree_of_way bounds all most (x ∷ entries) some way levels =
    tree_along_way bounds all (2 ^ x) (all - 2 ^ x) most entries (leaf x) refl (omega (arith, ap (λ k. get_or bounds k 0) none)) (omega arith) (omega (arith, power_within x all way.0)) apart way.1 (omega (arith, ap (λ k. greatest (levels_after bounds k entries)) none))
  where
    none : 0 + 2 ^ x ≡ 2 ^ x
    none = omega arith

    apart : (entry : ℕ) → bit_at (2 ^ x) entry + bit_at (all - 2 ^ x) entry ≤ 1
    apart entry = elim (cases_eq entry x) [
      | inl same ↦ omega (arith, ap (bit_at (all - 2 ^ x)) same, bit_without_same x all way.0, bit_at-lt (2 ^ x) entry)
      | inr other ↦ omega (arith, bit_at-pow_other x entry other, bit_at-lt (all - 2 ^ x) entry)
    ]

pub no_dearer : (bounds : List ℕ) (n least : ℕ) → 0 < full_set n → ((other : PlanTree) → IsTreeOver (full_set n) other → least ≤ cost bounds other)
    → (order : List ℕ) → IsOrder n order → least ≤ left_deep_cost bounds order
no_dearer bounds n least some none_cheaper order is_order =
    let within_cost : TreeWithinCost bounds (full_set n) (left_deep_cost bounds order) =
    tree_of_way bounds (full_set n) (left_deep_cost bounds order) order some (way_from_order n order is_order) (omega (arith, cost_is bounds order)) in
    omega (arith, none_cheaper within_cost.tree within_cost.is_tree, within_cost.within_cost)
