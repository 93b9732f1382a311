-- Which of two orders is no worse than the other. The lower cost decides; if the costs are equal, the smaller sum; if the sums are equal too, the
-- lexicographic order.
use Rattle.std.proofs.Common.{◌≡◌, ℕ, ◌<◌, ◌≤◌, List, [], ◌∷◌, refl, sym, ◌∙◌, arith, inl, inr}
use Rattle.std.specs.Prelude.{◌⊎◌}
use Rattle.std.proofs.lemmas.Bool.{cases_order}
use Rattle.order_search.specs.Orders.{IsBest, IsLeastCost, IsNotAfter, cost, total}
use Rattle.plans.specs.LeftDeep.{IsOrder}

abbrev pub LowerThen : (List ℕ → ℕ) → (List ℕ → List ℕ → Type 0) → List ℕ → List ℕ → Type 0
LowerThen f Then a b = (f a < f b) ⊎ ((f a ≡ f b) × Then a b)

lower_then_total : (f : List ℕ → ℕ) (Then : List ℕ → List ℕ → Type 0) (a b : List ℕ) → Then a b ⊎ Then b a → LowerThen f Then a b ⊎ LowerThen f Then b a
lower_then_total f Then a b either = elim (cases_order (f a) (f b)) [
  | inl same ↦ elim either [
    | inl p ↦ inl (inr (same, p))
    | inr q ↦ inr (inr (sym same, q))
  ]
  | inr apart ↦ elim apart [
    | inl below ↦ inl (inl below)
    | inr above ↦ inr (inl above)
  ]
]

lower_then_transitive : (f : List ℕ → ℕ) (Then : List ℕ → List ℕ → Type 0) (a b c : List ℕ) → (Then a b → Then b c → Then a c) → LowerThen f Then a b → LowerThen f Then b c → LowerThen f Then a c
lower_then_transitive f Then a b c both p q = elim p [
  | inl below ↦ elim q [
    | inl further ↦ inl (omega arith)
    | inr same ↦ inl (omega (arith, same.0))
  ]
  | inr here ↦ elim q [
    | inl further ↦ inl (omega (arith, here.0))
    | inr same ↦ inr (here.0 ∙ same.0, both here.1 same.1)
  ]
]

pub lexical_total : (a b : List ℕ) → IsNotAfter a b ⊎ IsNotAfter b a
lexical_total [] b = inl tt
lexical_total (x ∷ a) [] = inr tt
lexical_total (x ∷ a) (y ∷ b) = elim (cases_order x y) [
  | inl same ↦ elim (lexical_total a b) [
    | inl p ↦ inl (inr (same, p))
    | inr q ↦ inr (inr (sym same, q))
  ]
  | inr apart ↦ elim apart [
    | inl below ↦ inl (inl below)
    | inr above ↦ inr (inl above)
  ]
]

pub lexical_transitive : (a b c : List ℕ) → IsNotAfter a b → IsNotAfter b c → IsNotAfter a c
lexical_transitive [] b c p q = tt
lexical_transitive (x ∷ a) [] c p q = absurd p
lexical_transitive (x ∷ a) (y ∷ b) [] p q = absurd q
lexical_transitive (x ∷ a) (y ∷ b) (z ∷ c) p q = elim p [
  | inl below ↦ elim q [
    | inl further ↦ inl (omega arith)
    | inr same ↦ inl (omega (arith, same.0))
  ]
  | inr here ↦ elim q [
    | inl further ↦ inl (omega (arith, here.0))
    | inr same ↦ inr (here.0 ∙ same.0, lexical_transitive a b c here.1 same.1)
  ]
]

abbrev pub NoWorse : List ℕ → List ℕ → List ℕ → Type 0
NoWorse bounds = LowerThen (cost bounds) (LowerThen (total bounds) IsNotAfter)

pub is_total : (bounds a b : List ℕ) → NoWorse bounds a b ⊎ NoWorse bounds b a
is_total bounds a b = lower_then_total (cost bounds) (LowerThen (total bounds) IsNotAfter) a b (lower_then_total (total bounds) IsNotAfter a b (lexical_total a b))

pub is_transitive : (bounds a b c : List ℕ) → NoWorse bounds a b → NoWorse bounds b c → NoWorse bounds a c
is_transitive bounds a b c p q = lower_then_transitive (cost bounds) (LowerThen (total bounds) IsNotAfter) a b c (lower_then_transitive (total bounds) IsNotAfter a b c (lexical_transitive a b c)) p q

pub is_reflexive : (bounds a : List ℕ) → NoWorse bounds a a
is_reflexive bounds a = elim (is_total bounds a a) [
  | inl p ↦ p
  | inr q ↦ q
]

cost_at_most : (bounds a b : List ℕ) → NoWorse bounds a b → cost bounds a ≤ cost bounds b
cost_at_most bounds a b p = elim p [
  | inl below ↦ omega arith
  | inr same ↦ omega (arith, same.0)
]

then_sum : (bounds a b : List ℕ) → NoWorse bounds a b → cost bounds b ≡ cost bounds a → LowerThen (total bounds) IsNotAfter a b
then_sum bounds a b p equal = elim p [
  | inl below ↦ absurd (omega arith)
  | inr same ↦ same.1
]

pub best_of : (bounds : List ℕ) (n : ℕ) (best : List ℕ) → IsOrder n best → ((other : List ℕ) → IsOrder n other → NoWorse bounds best other) → IsBest bounds n best
best_of bounds n best is_order no_worse = record {
  is_order = is_order;
  none_cheaper = λ other other_order. cost_at_most bounds best other (no_worse other other_order);
  none_smaller = λ other other_order same. elim (then_sum bounds best other (no_worse other other_order) same) [
    | inl below ↦ omega arith
    | inr equal ↦ omega (arith, equal.0)
  ];
  none_earlier = λ other other_order same equal. elim (then_sum bounds best other (no_worse other other_order) same) [
    | inl below ↦ absurd (omega arith)
    | inr also ↦ also.1
  ];
}

pub least_of_best : (bounds : List ℕ) (n : ℕ) (best : List ℕ) → IsBest bounds n best → IsLeastCost bounds n (cost bounds best)
least_of_best bounds n best is_best = record {
  order = best;
  is_order = is_best.is_order;
  costs = refl;
  none_cheaper = is_best.none_cheaper;
}
