-- `find` returns an element that is in the list and passes the test. In a range, it returns the first number that passes.
use Rattle.std.proofs.Common.{◌≡◌, ℕ, zero, suc, ◌+◌, ◌<◌, ◌≤◌, Bool, true, false, List, [], ◌∷◌, None, Some, find, refl, ap, sym, ◌∙◌, inl, inr, arith}
use Rattle.std.specs.List.{Contains, range_with_len}
use Rattle.std.proofs.lemmas.Bool.{cases_Bool, cases_eq}

-- ---- the element that is found is in the list and passes the test

contains_later : {X : Type 0} (x y : X) (xs : List X) → Contains xs y → Contains (x ∷ xs) y
contains_later x y xs has = (suc has.0, omega (arith, has.1), has.2)

pub found_in : {X : Type 0} (p : X → Bool) (xs : List X) (x : X) → find p xs ≡ Some x → Contains xs x × (p x ≡ true)
found_in p [] x e = absurd (cc)
found_in p (y ∷ xs) x e = elim (cases_Bool (p y)) [
  | inl t ↦ (let is : Some y ≡ Some x = rw t at e in let same : y ≡ x = cc in ((0, omega arith, same), ap p (sym same) ∙ t))
  | inr n ↦ (let rest : find p xs ≡ Some x = rw n at e in let found = found_in p xs x rest in (contains_later y x xs found.0, found.1))
]

-- ---- the first number of a range that passes the test

pub first_found : (p : ℕ → Bool) (a n i : ℕ) → a ≤ i → i < a + n → ((k : ℕ) → a ≤ k → k < i → p k ≡ false) → p i ≡ true → find p (range_with_len a n) ≡ Some i
first_found p a zero i low high before here = absurd (omega arith)
first_found p a (suc n) i low high before here = elim (cases_eq a i) [
  | inl same ↦ (let it : p a ≡ true = ap p same ∙ here in rw it (ap Some same))
  | inr apart ↦ (let not_yet : p a ≡ false = before a (omega arith) (omega (arith, low, apart)) in
      rw not_yet (first_found p (a + 1) n i (omega (arith, low, apart)) (omega arith) (λ k from to. before k (omega (arith, from)) to) here))
]

pub none_found : (p : ℕ → Bool) (a n : ℕ) → ((k : ℕ) → a ≤ k → k < a + n → p k ≡ false) → find p (range_with_len a n) ≡ None
none_found p a zero none = refl
none_found p a (suc n) none =
    let not_here : p a ≡ false = none a (omega arith) (omega arith) in
    rw not_here (none_found p (a + 1) n (λ k from to. none k (omega (arith, from)) (omega (arith, to))))
