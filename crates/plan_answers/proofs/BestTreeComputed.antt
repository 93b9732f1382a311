-- `best_tree` computes the best tree.
use Rattle.std.proofs.Common.{◌≡◌, ℕ, ◌<◌, ◌≤◌, Bool, true, false, eqb, ltb, List, [], ◌∷◌, Some, refl, ap, sym, subst, arith, inl, inr}
use Rattle.std.specs.Prelude.{◌⊎◌, ◌&&◌, ◌||◌, not, find, unwrap_or}
use Rattle.std.specs.List.{AllByRecursion as Each, list_all}
use Rattle.std.proofs.lemmas.Bool.{and_from, and_parts, both_ways, cases_Bool, cases_lt, eq-eqb, eqb-true, false_from_ne_true, lt-ltb, ltb-true, not-true, not_from_false, or_cases, or_left, or_right}
use Rattle.plan_answers.proofs.AllOrders.{each_so}
use Rattle.bushy_plan.specs.BestTree.{IsTreeBefore, IsBest, full_set, cost, total}
use Rattle.bushy_plan.specs.PlanTrees.{IsTreeOver, PlanTree, leaf, node, leaf_bits}
use Rattle.bushy_plan.proofs.SomeBest.{some_best}
use Rattle.plan_answers.specs.AllTrees.{all_trees, best_tree, is_before, is_no_worse, is_same}
use Rattle.plan_answers.proofs.AllTreesListed.{at_tree, listed_are_trees}

-- ---- tests that compare two trees

same_is_equal : (a b : PlanTree) → is_same a b ≡ true → a ≡ b
same_is_equal (leaf a) (leaf b) h = ap leaf (eqb-true a b h)
same_is_equal (leaf a) (node left right) h = absurd (both_ways false refl h)
same_is_equal (node left right) (leaf b) h = absurd (both_ways false refl h)
same_is_equal (node left right) (node left' right') h =
    let parts : (is_same left left' ≡ true) × (is_same right right' ≡ true) = and_parts (is_same left left') (is_same right right') h in
    let lefts : left ≡ left' = same_is_equal left left' parts.0 in
    let rights : right ≡ right' = same_is_equal right right' parts.1 in
    rw (lefts, rights) refl

same_itself : (tree : PlanTree) → is_same tree tree ≡ true
same_itself (leaf entry) = eq-eqb entry entry refl
same_itself (node left right) = and_from (is_same left left) (is_same right right) (same_itself left) (same_itself right)

abbrev second_decides : PlanTree → PlanTree → PlanTree → PlanTree → Bool
second_decides a b c d = is_before a b || (is_same a b && is_before c d)

before_if_test : (a b : PlanTree) → is_before a b ≡ true → IsTreeBefore a b
before_if_test (leaf a) b h = absurd (both_ways false refl h)
before_if_test (node left right) (leaf b) h = absurd (both_ways false refl h)
before_if_test (node left right) (node left' right') h = elim (or_cases (ltb (leaf_bits left) (leaf_bits left')) (eqb (leaf_bits left) (leaf_bits left') && second_decides left left' right right') h) [
  | inl less ↦ inl (ltb-true (leaf_bits left) (leaf_bits left') less)
  | inr here ↦ (let parts : (eqb (leaf_bits left) (leaf_bits left') ≡ true) × (second_decides left left' right right' ≡ true) = and_parts (eqb (leaf_bits left) (leaf_bits left')) (second_decides left left' right right') here in
      inr (
        eqb-true (leaf_bits left) (leaf_bits left') parts.0,
        elim (or_cases (is_before left left') (is_same left left' && is_before right right') parts.1) [
          | inl first ↦ inl (before_if_test left left' first)
          | inr second ↦ (let both : (is_same left left' ≡ true) × (is_before right right' ≡ true) = and_parts (is_same left left') (is_before right right') second in
              inr (same_is_equal left left' both.0, before_if_test right right' both.1))
        ],
      ))
]

test_if_before : (a b : PlanTree) → IsTreeBefore a b → is_before a b ≡ true
test_if_before (leaf a) b h = absurd h
test_if_before (node left right) (leaf b) h = absurd h
test_if_before (node left right) (node left' right') h = elim h [
  | inl less ↦ or_left (ltb (leaf_bits left) (leaf_bits left')) (eqb (leaf_bits left) (leaf_bits left') && second_decides left left' right right') (lt-ltb (leaf_bits left) (leaf_bits left') less)
  | inr here ↦ or_right (ltb (leaf_bits left) (leaf_bits left')) (eqb (leaf_bits left) (leaf_bits left') && second_decides left left' right right')
      (and_from (eqb (leaf_bits left) (leaf_bits left')) (second_decides left left' right right') (eq-eqb (leaf_bits left) (leaf_bits left') here.0) (elim here.1 [
        | inl first ↦ or_left (is_before left left') (is_same left left' && is_before right right') (test_if_before left left' first)
        | inr second ↦ or_right (is_before left left') (is_same left left' && is_before right right')
            (and_from (is_same left left') (is_before right right') (subst (λ (t : PlanTree). is_same left t ≡ true) second.0 (same_itself left)) (test_if_before right right' second.1))
      ]))
]

worse_or_equal_if_test : (c d s t : ℕ) (behind : Bool) → (ltb c d || (eqb c d && (ltb s t || (eqb s t && behind)))) ≡ true
    → (c < d) ⊎ ((c ≡ d) × ((s < t) ⊎ ((s ≡ t) × (behind ≡ true))))
worse_or_equal_if_test c d s t behind h = elim (or_cases (ltb c d) (eqb c d && (ltb s t || (eqb s t && behind))) h) [
  | inl below ↦ inl (ltb-true c d below)
  | inr same ↦ (let parts : (eqb c d ≡ true) × ((ltb s t || (eqb s t && behind)) ≡ true) = and_parts (eqb c d) (ltb s t || (eqb s t && behind)) same in
      inr (
        eqb-true c d parts.0,
        elim (or_cases (ltb s t) (eqb s t && behind) parts.1) [
          | inl smaller ↦ inl (ltb-true s t smaller)
          | inr equal ↦ (let both : (eqb s t ≡ true) × (behind ≡ true) = and_parts (eqb s t) behind equal in inr (eqb-true s t both.0, both.1))
        ],
      ))
]

test_if_no_worse : (c d s t : ℕ) (behind : Bool) → c ≤ d → (d ≡ c → s ≤ t) → (d ≡ c → t ≡ s → behind ≡ true) → (ltb c d || (eqb c d && (ltb s t || (eqb s t && behind)))) ≡ true
test_if_no_worse c d s t behind cheaper smaller earlier = elim (cases_lt c d) [
  | inl below ↦ or_left (ltb c d) (eqb c d && (ltb s t || (eqb s t && behind))) (lt-ltb c d below)
  | inr above ↦ or_right (ltb c d) (eqb c d && (ltb s t || (eqb s t && behind)))
      (and_from (eqb c d) (ltb s t || (eqb s t && behind)) (eq-eqb c d (omega arith)) (elim (cases_lt s t) [
        | inl less ↦ or_left (ltb s t) (eqb s t && behind) (lt-ltb s t less)
        | inr more ↦ or_right (ltb s t) (eqb s t && behind)
            (and_from (eqb s t) behind (eq-eqb s t (omega (arith, smaller (omega arith)))) (earlier (omega arith) (omega (arith, smaller (omega arith)))))
      ]))
]

-- ---- the first tree in a list that passes a test

record IsFirst (P : PlanTree → Type 0) (test : PlanTree → Bool) (xs : List PlanTree) (x : PlanTree) : Type 0 where
  found : find test xs ≡ Some x
  is : P x
  passes : test x ≡ true

first_of : (P : PlanTree → Type 0) (test : PlanTree → Bool) (xs : List PlanTree) → Each P xs → (Each (λ x. test x ≡ false) xs → ⊥) → (x : PlanTree) × IsFirst P test xs x
first_of P test [] each not_all_fail = absurd (not_all_fail tt)
first_of P test (x ∷ xs) each not_all_fail = elim (cases_Bool (test x)) [
  | inl passes ↦ (x, record { found = rw passes refl; is = each.0; passes = passes })
  | inr fails ↦ (let first : (y : PlanTree) × IsFirst P test xs y = first_of P test xs each.1 (λ none. not_all_fail (fails, none)) in
      (first.0, record { found = rw fails first.1.found; is = first.1.is; passes = first.1.passes }))
]

all_true : (test : PlanTree → Bool) (xs : List PlanTree) → Each (λ x. test x ≡ true) xs → list_all test xs ≡ true
all_true test [] h = refl
all_true test (x ∷ xs) h = and_from (test x) (list_all test xs) h.0 (all_true test xs h.1)

each_true : (test : PlanTree → Bool) (xs : List PlanTree) → list_all test xs ≡ true → Each (λ x. test x ≡ true) xs
each_true test [] h = tt
each_true test (x ∷ xs) h = let parts : (test x ≡ true) × (list_all test xs ≡ true) = and_parts (test x) (list_all test xs) h in (parts.0, each_true test xs parts.1)

-- ---- the computed tree is best

module _ (bounds : List ℕ) (n : ℕ) (not_empty : 0 < n) where
  abbrev test : PlanTree → Bool
  test tree = list_all (λ other. is_no_worse bounds tree other) (all_trees n)

  best_passes : (best : PlanTree) → IsBest bounds n best → test best ≡ true
  best_passes best is =
      all_true (λ other. is_no_worse bounds best other) (all_trees n)
      (each_so (IsTreeOver (full_set n)) (λ other. is_no_worse bounds best other ≡ true)
      (λ other over. test_if_no_worse (cost bounds best) (cost bounds other) (total bounds best) (total bounds other) (not (is_before other best))
      (is.none_cheaper other over) (is.none_smaller other over)
      (λ costs totals. not_from_false (is_before other best) (false_from_ne_true (is_before other best) (λ before. is.none_earlier other over costs totals (before_if_test other best before)))))
      (all_trees n) (listed_are_trees n))

  some_passes : Each (λ tree. test tree ≡ false) (all_trees n) → ⊥
  some_passes none =
      let best : (tree : PlanTree) × IsBest bounds n tree = some_best bounds n not_empty in
      both_ways (test best.0) (at_tree n (λ tree. test tree ≡ false) best.0 not_empty none best.1.is_tree) (best_passes best.0 best.1)

  by_cost : (x : PlanTree) → test x ≡ true → (other : PlanTree) → IsTreeOver (full_set n) other
      → (cost bounds x < cost bounds other) ⊎ ((cost bounds x ≡ cost bounds other)
      × ((total bounds x < total bounds other) ⊎ ((total bounds x ≡ total bounds other) × (not (is_before other x) ≡ true))))
  by_cost x passes other over =
      worse_or_equal_if_test (cost bounds x) (cost bounds other) (total bounds x) (total bounds other) (not (is_before other x))
      (at_tree n (λ tree. is_no_worse bounds x tree ≡ true) other not_empty (each_true (λ tree. is_no_worse bounds x tree) (all_trees n) passes) over)

  first_is_best : (x : PlanTree) → IsTreeOver (full_set n) x → test x ≡ true → IsBest bounds n x
  first_is_best x is passes = record {
    is_tree = is;
    none_cheaper = λ other over. elim (by_cost x passes other over) [
      | inl below ↦ omega arith
      | inr same ↦ omega (arith, same.0)
    ];
    none_smaller = λ other over costs. elim (by_cost x passes other over) [
      | inl below ↦ absurd (omega arith)
      | inr same ↦ elim same.1 [
        | inl less ↦ omega arith
        | inr equal ↦ omega (arith, equal.0)
      ]
    ];
    none_earlier = λ other over costs totals before. elim (by_cost x passes other over) [
      | inl below ↦ omega (arith, below, costs)
      | inr same ↦ elim same.1 [
        | inl less ↦ omega (arith, less, totals)
        | inr equal ↦ both_ways (is_before other x) (not-true (is_before other x) equal.1) (test_if_before other x before)
      ]
    ];
  }

  pub best_computed : IsBest bounds n (best_tree bounds n)
  unfolding best_tree
  best_computed =
      let first : (x : PlanTree) × IsFirst (IsTreeOver (full_set n)) test (all_trees n) x = first_of (IsTreeOver (full_set n)) test (all_trees n) (listed_are_trees n) some_passes in
      subst (IsBest bounds n) (sym (ap (λ found. unwrap_or found (leaf 0)) first.1.found)) (first_is_best first.0 first.1.is first.1.passes)
