-- There is at most one best order, and at most one result.
use Rattle.std.proofs.Common.{◌≡◌, ℕ, ◌^◌, ◌≤◌, List, [], ◌∷◌, refl, ap, sym, arith, inl, inr}
use Rattle.std.specs.Prelude.{◌⊎◌}
use Rattle.order_search.specs.Causes.{IsCause, IsCauseOf}
use Rattle.order_search.specs.Orders.{IsBest, IsLeastCost, IsNotAfter, cost, total}
use Rattle.order_search.specs.declared.refusal.PlanError.{PlanError}
use Rattle.order_search.specs.declared.refusal.PlanError.TheVariants as error

same_from_both : (a b : List ℕ) → IsNotAfter a b → IsNotAfter b a → a ≡ b
same_from_both [] [] p q = refl
same_from_both [] (y ∷ b) p q = absurd q
same_from_both (x ∷ a) [] p q = absurd p
same_from_both (x ∷ a) (y ∷ b) p q = elim p [
  | inl before ↦ elim q [
    | inl behind ↦ absurd (omega arith)
    | inr same ↦ absurd (omega (arith, same.0))
  ]
  | inr here ↦ elim q [
    | inl behind ↦ absurd (omega (arith, here.0))
    | inr same ↦ rw (here.0, same_from_both a b here.1 same.1) refl
  ]
]

pub one_best : (bounds : List ℕ) (n : ℕ) (a b : List ℕ) → IsBest bounds n a → IsBest bounds n b → a ≡ b
one_best bounds n a b p q =
    let costs : cost bounds b ≡ cost bounds a = omega (arith, p.none_cheaper b q.is_order, q.none_cheaper a p.is_order) in
    let totals : total bounds b ≡ total bounds a = omega (arith, p.none_smaller b q.is_order costs, q.none_smaller a p.is_order (sym costs)) in
    same_from_both a b (p.none_earlier b q.is_order costs totals) (q.none_earlier a p.is_order (sym costs) (sym totals))

one_least : (bounds : List ℕ) (n a b : ℕ) → IsLeastCost bounds n a → IsLeastCost bounds n b → a ≡ b
one_least bounds n a b p q = omega (arith, p.none_cheaper q.order q.is_order, q.none_cheaper p.order p.is_order, p.costs, q.costs)

-- ---- at most one refusal, for any predicate `IsLeast`

pub none_refused : (IsLeast : ℕ → Type 0) (budget cost : ℕ) (e : PlanError) → budget ≤ 2 ^ 59 → cost ≤ budget → ((least : ℕ) → IsLeast least → least ≤ cost) → IsCauseOf IsLeast budget e → e ≡ error.NoMemory
none_refused IsLeast budget cost (error.Budget least) within_limit within below cause = absurd (omega (arith, below least cause.0))
none_refused IsLeast budget cost error.PastBits within_limit within below cause = absurd (omega (arith, below cause.0 cause.1))
none_refused IsLeast budget cost error.NoMemory within_limit within below cause = refl

pub one_refusal : (IsLeast : ℕ → Type 0) (budget : ℕ) (e f : PlanError) → ((a b : ℕ) → IsLeast a → IsLeast b → a ≡ b) → IsCauseOf IsLeast budget e → IsCauseOf IsLeast budget f → (e ≡ error.NoMemory) ⊎ ((f ≡ error.NoMemory) ⊎ (e ≡ f))
one_refusal IsLeast budget error.NoMemory f one p q = inl refl
one_refusal IsLeast budget (error.Budget a) error.NoMemory one p q = inr (inl refl)
one_refusal IsLeast budget error.PastBits error.NoMemory one p q = inr (inl refl)
one_refusal IsLeast budget (error.Budget a) (error.Budget b) one p q = inr (inr (ap error.Budget (one a b p.0 q.0)))
one_refusal IsLeast budget (error.Budget a) error.PastBits one p q = absurd (omega (arith, one a q.0 p.0 q.1))
one_refusal IsLeast budget error.PastBits (error.Budget b) one p q = absurd (omega (arith, one p.0 b p.1 q.0))
one_refusal IsLeast budget error.PastBits error.PastBits one p q = inr (inr refl)

-- ---- at most one refusal of a search for orders

pub accepted : (bounds : List ℕ) (n budget : ℕ) (best : List ℕ) (e : PlanError) → budget ≤ 2 ^ 59 → IsBest bounds n best → cost bounds best ≤ budget → IsCause bounds n budget e → e ≡ error.NoMemory
accepted bounds n budget best e within_limit is_best within cause =
    none_refused (IsLeastCost bounds n) budget (cost bounds best) e within_limit within (λ least is. omega (arith, is.none_cheaper best is_best.is_order)) cause

pub refused : (bounds : List ℕ) (n budget : ℕ) (e f : PlanError) → IsCause bounds n budget e → IsCause bounds n budget f → (e ≡ error.NoMemory) ⊎ ((f ≡ error.NoMemory) ⊎ (e ≡ f))
refused bounds n budget e f p q = one_refusal (IsLeastCost bounds n) budget e f (one_least bounds n) p q
