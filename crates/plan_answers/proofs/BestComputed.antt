-- The computed order is the best order.
use Rattle.std.proofs.Common.{◌≡◌, ℕ, ◌<◌, ◌≤◌, Bool, true, false, eqb, ltb, leb, List, [], ◌∷◌, Some, refl, ap, sym, subst, arith, inl, inr}
use Rattle.std.specs.Prelude.{◌⊎◌, ◌&&◌, ◌||◌, find, unwrap_or}
use Rattle.std.specs.List.{AllByRecursion as Each, list_all}
use Rattle.std.proofs.lemmas.Bool.{and_from, and_parts, both_ways, cases_Bool, cases_lt, eq-eqb, eqb-true, le-leb, leb-true, lt-ltb, ltb-true, or_cases, or_left, or_right}
use Rattle.plans.specs.LeftDeep.{IsOrder}
use Rattle.order_search.specs.Orders.{IsBest, IsNotAfter, cost, total}
use Rattle.order_search.proofs.SomeBest.{some_best}
use Rattle.plan_answers.specs.BestOrder.{all_orders, best_order, is_no_worse}
use Rattle.plan_answers.proofs.AllOrders.{AreSorted, all_in_order, at_order, each_so, listed_are_orders}

-- ---- the first list that passes a test

not_after_itself : (x : List ℕ) → IsNotAfter x x
not_after_itself [] = tt
not_after_itself (entry ∷ x) = inr (refl, not_after_itself x)

record IsFirst (P : List ℕ → Type 0) (test : List ℕ → Bool) (xs : List (List ℕ)) (x : List ℕ) : Type 0 where
  found : find test xs ≡ Some x
  is : P x
  passes : test x ≡ true
  before : Each (λ y. test y ≡ true → IsNotAfter x y) xs

first_behind : (P : List ℕ → Type 0) (test : List ℕ → Bool) (x : List ℕ) (xs : List (List ℕ)) (y : List ℕ) → test x ≡ false → IsFirst P test xs y → IsFirst P test (x ∷ xs) y
first_behind P test x xs y fails first = record {
  found = rw fails first.found;
  is = first.is;
  passes = first.passes;
  before = ((λ passes. absurd (both_ways (test x) fails passes)), first.before);
}

first_of : (P : List ℕ → Type 0) (test : List ℕ → Bool) (xs : List (List ℕ)) → Each P xs → AreSorted xs → (Each (λ x. test x ≡ false) xs → ⊥) → (x : List ℕ) × IsFirst P test xs x
first_of P test [] each in_order some = absurd (some tt)
first_of P test (x ∷ xs) each in_order some = elim (cases_Bool (test x)) [
  | inl passes ↦ (
    x,
    record {
      found = rw passes refl;
      is = each.0;
      passes = passes;
      before = ((λ same. not_after_itself x), each_so (IsNotAfter x) (λ y. test y ≡ true → IsNotAfter x y) (λ y after also. after) xs in_order.0);
    },
  )
  | inr fails ↦ (let first : (y : List ℕ) × IsFirst P test xs y = first_of P test xs each.1 in_order.1 (λ none. some (fails, none)) in
      (first.0, first_behind P test x xs first.0 fails first.1))
]

-- ---- tests of all elements of a list

all_true : (test : List ℕ → Bool) (xs : List (List ℕ)) → Each (λ x. test x ≡ true) xs → list_all test xs ≡ true
all_true test [] h = refl
all_true test (x ∷ xs) h = and_from (test x) (list_all test xs) h.0 (all_true test xs h.1)

each_true : (test : List ℕ → Bool) (xs : List (List ℕ)) → list_all test xs ≡ true → Each (λ x. test x ≡ true) xs
each_true test [] h = tt
each_true test (x ∷ xs) h = let parts : (test x ≡ true) × (list_all test xs ≡ true) = and_parts (test x) (list_all test xs) h in (parts.0, each_true test xs parts.1)

from_test : (c d s t : ℕ) → (ltb c d || (eqb c d && leb s t)) ≡ true → (c < d) ⊎ ((c ≡ d) × (s ≤ t))
from_test c d s t h = elim (or_cases (ltb c d) (eqb c d && leb s t) h) [
  | inl below ↦ inl (ltb-true c d below)
  | inr same ↦ (let parts : (eqb c d ≡ true) × (leb s t ≡ true) = and_parts (eqb c d) (leb s t) same in
      inr (eqb-true c d parts.0, leb-true s t parts.1))
]

to_test : (c d s t : ℕ) → c ≤ d → (d ≡ c → s ≤ t) → (ltb c d || (eqb c d && leb s t)) ≡ true
to_test c d s t cheaper smaller = elim (cases_lt c d) [
  | inl below ↦ or_left (ltb c d) (eqb c d && leb s t) (lt-ltb c d below)
  | inr above ↦ or_right (ltb c d) (eqb c d && leb s t) (and_from (eqb c d) (leb s t) (eq-eqb c d (omega arith)) (le-leb s t (smaller (omega arith))))
]

-- ---- the computed order is best

module _ (bounds : List ℕ) (n : ℕ) where
  abbrev test : List ℕ → Bool
  test order = list_all (λ other. is_no_worse bounds order other) (all_orders n)

  best_passes : (best : List ℕ) → IsBest bounds n best → test best ≡ true
  best_passes best is =
      all_true (λ other. is_no_worse bounds best other) (all_orders n)
      (each_so (IsOrder n) (λ other. is_no_worse bounds best other ≡ true)
      (λ other order. to_test (cost bounds best) (cost bounds other) (total bounds best) (total bounds other) (is.none_cheaper other order) (is.none_smaller other order))
      (all_orders n) (listed_are_orders n))

  some_passes : Each (λ order. test order ≡ false) (all_orders n) → ⊥
  some_passes none =
      let best : (order : List ℕ) × IsBest bounds n order = some_best bounds n in
      both_ways (test best.0) (at_order (λ order. test order ≡ false) n none best.0 best.1.is_order) (best_passes best.0 best.1)

  no_worse : (x : List ℕ) → test x ≡ true → (other : List ℕ) → IsOrder n other → is_no_worse bounds x other ≡ true
  no_worse x passes = at_order (λ other. is_no_worse bounds x other ≡ true) n (each_true (λ other. is_no_worse bounds x other) (all_orders n) passes)

  by_cost : (x : List ℕ) → test x ≡ true → (other : List ℕ) → IsOrder n other → (cost bounds x < cost bounds other) ⊎ ((cost bounds x ≡ cost bounds other) × (total bounds x ≤ total bounds other))
  by_cost x passes other order = from_test (cost bounds x) (cost bounds other) (total bounds x) (total bounds other) (no_worse x passes other order)

  equal_passes : (x other : List ℕ) → test x ≡ true → cost bounds other ≡ cost bounds x → total bounds other ≡ total bounds x → test other ≡ true
  equal_passes x other passes costs totals =
      all_true (λ y. is_no_worse bounds other y) (all_orders n)
      (each_so (λ y. is_no_worse bounds x y ≡ true) (λ y. is_no_worse bounds other y ≡ true) (λ y so. rw (costs, totals) so)
      (all_orders n) (each_true (λ y. is_no_worse bounds x y) (all_orders n) passes))

  first_is_best : (x : List ℕ) → IsFirst (IsOrder n) test (all_orders n) x → IsBest bounds n x
  first_is_best x first = record {
    is_order = first.is;
    none_cheaper = λ other order. elim (by_cost x first.passes other order) [
      | inl below ↦ omega arith
      | inr same ↦ omega (arith, same.0)
    ];
    none_smaller = λ other order costs. elim (by_cost x first.passes other order) [
      | inl below ↦ absurd (omega arith)
      | inr same ↦ same.1
    ];
    none_earlier = λ other order costs totals.
        at_order (λ y. test y ≡ true → IsNotAfter x y) n first.before other order (equal_passes x other first.passes costs totals);
  }

  pub best_computed : IsBest bounds n (best_order bounds n)
  unfolding best_order
  best_computed =
      let first : (x : List ℕ) × IsFirst (IsOrder n) test (all_orders n) x = first_of (IsOrder n) test (all_orders n) (listed_are_orders n) (all_in_order n) some_passes in
      subst (IsBest bounds n) (sym (ap (λ found. unwrap_or found []) first.1.found)) (first_is_best first.0 first.1)
