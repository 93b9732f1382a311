-- A test that goes through all orders and that the prover can compute. It proves the best order in small examples.
use Rattle.std.proofs.Common.{◌≡◌, ℕ, zero, suc, ◌-◌, ◌^◌, ◌<◌, Bool, true, false, eqb, leb, cond, List, [], ◌∷◌, ◌++◌, refl, ap, sym, ◌∙◌, subst, eq-eqb, arith, inl, inr}
use Rattle.std.specs.Prelude.{◌⊎◌}
use Rattle.std.specs.Int.{bit_at}
use Rattle.std.proofs.lemmas.Bool.{cases_eq, cases_lt, false≢true, le-leb, lt-leb}
use Rattle.std.proofs.lemmas.List.{append_assoc, append-nil}
use Rattle.std.proofs.lemmas.Nat.{pow_pos}
use Rattle.order_search.specs.Orders.{IsBest, IsNotAfter, cost, total}
use Rattle.order_search.specs.Ways.{IsWay}
use Rattle.order_search.proofs.Bits.{set_is_empty, size_below, size-none, size-whole, size-without}
use Rattle.entry_sets.proofs.Bits.{entry_below, set_without_is_less}
use Rattle.order_search.proofs.NoWorse.{NoWorse, best_of}
use Rattle.order_search.proofs.WholeWays.{order_from_way, way_from_order}

-- ---- a test of all ways through a set of entries below n

abbrev pub each_below : ℕ → (ℕ → Bool) → Bool
each_below zero test = true
each_below (suc n) test = cond (test n) (each_below n test) false

abbrev pub each_way : ℕ → ℕ → (List ℕ → Bool) → ℕ → List ℕ → Bool
each_way zero n test left front = test front
each_way (suc size) n test left front = each_below n (λ entry. cond (eqb (bit_at left entry) 1) (each_way size n test (left - 2 ^ entry) (front ++ entry ∷ [])) true)

pub both_true : (a b : Bool) → cond a b false ≡ true → (a ≡ true) × (b ≡ true)
both_true true b h = (refl, h)
both_true false b h = absurd (false≢true h)

at_entry : (n : ℕ) (test : ℕ → Bool) (entry : ℕ) → each_below n test ≡ true → entry < n → test entry ≡ true
at_entry zero test entry h below = absurd (omega arith)
at_entry (suc n) test entry h below = elim (cases_eq entry n) [
  | inl same ↦ subst (λ (k : ℕ). test k ≡ true) (sym same) (both_true (test n) (each_below n test) h).0
  | inr apart ↦ at_entry n test entry (both_true (test n) (each_below n test) h).1 (omega arith)
]

true_if_bit : (bit : ℕ) (b : Bool) → bit ≡ 1 → cond (eqb bit 1) b true ≡ true → b ≡ true
true_if_bit bit b is h = rw (eq-eqb bit 1 is) at h

at_way : (size n : ℕ) (test : List ℕ → Bool) (left : ℕ) (front way : List ℕ) → left < 2 ^ n → size_below n left ≡ size → each_way size n test left front ≡ true → IsWay left way → test (front ++ way) ≡ true
at_way zero n test left front [] fits none h is_way = rw (append-nil front) h
at_way zero n test left front (entry ∷ entries) fits none h is_way = absurd (omega (arith, set_without_is_less left entry is_way.0, set_is_empty n left fits none))
at_way (suc size) n test left front [] fits some h is_way = absurd (omega (arith, size-none n, ap (size_below n) is_way))
at_way (suc size) n test left front (entry ∷ entries) fits some h is_way =
    let below : entry < n = entry_below n left entry fits is_way.0 in
    let behind : each_way size n test (left - 2 ^ entry) (front ++ entry ∷ []) ≡ true =
    true_if_bit (bit_at left entry) (each_way size n test (left - 2 ^ entry) (front ++ entry ∷ [])) is_way.0
    (at_entry n (λ e. cond (eqb (bit_at left e) 1) (each_way size n test (left - 2 ^ e) (front ++ e ∷ [])) true) entry h below) in
    let whole : test ((front ++ entry ∷ []) ++ entries) ≡ true =
    at_way size n test (left - 2 ^ entry) (front ++ entry ∷ []) entries (omega arith) (omega (arith, size-without n entry left below is_way.0)) behind is_way.1 in
    subst (λ (s : List ℕ). test s ≡ true) (append_assoc front (entry ∷ []) entries) whole

-- ---- a test that one order is no worse than another

abbrev pub first_test : ℕ → ℕ → Bool → Bool
first_test m n behind = cond (leb n m) (cond (leb m n) behind false) true

pub first_from_test : (m n : ℕ) (behind : Bool) → first_test m n behind ≡ true → (m < n) ⊎ ((m ≡ n) × (behind ≡ true))
first_from_test m n behind h = elim (cases_lt m n) [
  | inl below ↦ inl below
  | inr not_below ↦ (let inner : cond (leb m n) behind false ≡ true = rw (le-leb n m not_below) at h in
      let parts : (leb m n ≡ true) × (behind ≡ true) = both_true (leb m n) behind inner in
      elim (cases_lt n m) [
        | inl above ↦ absurd (false≢true (sym (lt-leb m n above) ∙ parts.0))
        | inr not_above ↦ inr (omega arith, parts.1)
      ])
]

abbrev pub not_after : List ℕ → List ℕ → Bool
not_after [] b = true
not_after (x ∷ a) [] = false
not_after (x ∷ a) (y ∷ b) = first_test x y (not_after a b)

not_after_from_test : (a b : List ℕ) → not_after a b ≡ true → IsNotAfter a b
not_after_from_test [] b h = tt
not_after_from_test (x ∷ a) [] h = absurd (false≢true h)
not_after_from_test (x ∷ a) (y ∷ b) h = elim (first_from_test x y (not_after a b) h) [
  | inl below ↦ inl below
  | inr same ↦ inr (same.0, not_after_from_test a b same.1)
]

abbrev pub no_worse : List ℕ → List ℕ → List ℕ → Bool
no_worse bounds a b = first_test (cost bounds a) (cost bounds b) (first_test (total bounds a) (total bounds b) (not_after a b))

no_worse_from_test : (bounds a b : List ℕ) → no_worse bounds a b ≡ true → NoWorse bounds a b
no_worse_from_test bounds a b h = elim (first_from_test (cost bounds a) (cost bounds b) (first_test (total bounds a) (total bounds b) (not_after a b)) h) [
  | inl below ↦ inl below
  | inr same ↦ elim (first_from_test (total bounds a) (total bounds b) (not_after a b) same.1) [
    | inl below ↦ inr (same.0, inl below)
    | inr equal ↦ inr (same.0, inr (equal.0, not_after_from_test a b equal.1))
  ]
]

pub best_by_test : (bounds : List ℕ) (n : ℕ) (best : List ℕ) → IsWay (2 ^ n - 1) best → each_way n n (λ other. no_worse bounds best other) (2 ^ n - 1) [] ≡ true → IsBest bounds n best
best_by_test bounds n best way tested =
    best_of bounds n best (order_from_way n best way)
    (λ other is_order. no_worse_from_test bounds best other
    (at_way n n (λ (s : List ℕ). no_worse bounds best s) (2 ^ n - 1) [] other (omega (arith, pow_pos n)) (size-whole n) tested (way_from_order n other is_order)))
