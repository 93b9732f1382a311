-- `last_place` finds the index of the last element that passes a test. So the leaf of a value is found among the cuts.
use Rattle.std.proofs.Common.{◌≡◌, ℕ, zero, suc, ◌+◌, ◌<◌, ◌≤◌, Bool, true, false, cond, not, ltb, List, [], ◌∷◌, ◌++◌, length, get_or, take, length-take, refl, ap, sym, ◌∙◌, arith, inl, inr}
use Rattle.std.specs.List.{list_any}
use Rattle.std.proofs.lemmas.Bool.{cases_Bool, cases_lt, cond_both, false≢true, or_cases, lt-ltb, le-ltb, or_parts}
use Rattle.std.proofs.lemmas.List.Folds.{list_any-append}
use Rattle.std.proofs.lemmas.List.{take_more, take_all}
use Rattle.std.proofs.Math.Bool.{or-true, or-false}
use Rattle.cond_stats.specs.Leaves.{last_place}

any-mono : (p q : ℕ → Bool) → ((x : ℕ) → p x ≡ true → q x ≡ true) → (xs : List ℕ) → list_any p xs ≡ true → list_any q xs ≡ true
any-mono p q weaker [] h = absurd (false≢true h)
any-mono p q weaker (x ∷ xs) h = elim (or_cases (p x) (list_any p xs) h) [
  | inl here ↦ rw (weaker x here) refl
  | inr there ↦ (let later : list_any q xs ≡ true = any-mono p q weaker xs there in rw later (or-true (q x)))
]

pub last_place-mono : (p q : ℕ → Bool) → ((x : ℕ) → p x ≡ true → q x ≡ true) → (xs : List ℕ) → last_place p xs ≤ last_place q xs
last_place-mono p q weaker [] = omega arith
last_place-mono p q weaker (x ∷ xs) = elim (cases_Bool (list_any p xs)) [
  | inl e ↦ (let there : list_any q xs ≡ true = any-mono p q weaker xs e in
      rw (e, there) (omega (arith, last_place-mono p q weaker xs)))
  | inr e ↦ rw e (omega arith)
]

pub last_place-within : (p : ℕ → Bool) (xs : List ℕ) (n : ℕ) → length xs ≤ suc n → last_place p xs ≤ n
last_place-within p [] n short = omega arith
last_place-within p (x ∷ []) n short = omega arith
last_place-within p (x ∷ (y ∷ xs)) zero short = absurd (omega arith)
last_place-within p (x ∷ (y ∷ xs)) (suc n) short = cond_both (list_any p (y ∷ xs)) (suc (last_place p (y ∷ xs))) 0 (λ m. m ≤ suc n)
    (λ e. omega (arith, last_place-within p (y ∷ xs) n (omega arith))) (λ e. omega arith)

pub last_place-push : (p : ℕ → Bool) (xs : List ℕ) (x : ℕ) → last_place p (xs ++ x ∷ []) ≡ cond (p x) (length xs) (last_place p xs)
last_place-push p [] x = cond_both {A = ℕ} (p x) 0 0 (λ n. 0 ≡ n) (λ e. refl) (λ e. refl)
last_place-push p (y ∷ ys) x = elim (cases_Bool (p x)) [
  | inl e ↦ (let there : list_any p (ys ++ x ∷ []) ≡ true = list_any-append p ys (x ∷ []) ∙ rw e (or-true (list_any p ys)) in
      let rest : last_place p (ys ++ x ∷ []) ≡ length ys = rw e at (last_place-push p ys x) in
      rw (there, rest, e) refl)
  | inr e ↦ (let same : list_any p (ys ++ x ∷ []) ≡ list_any p ys = list_any-append p ys (x ∷ []) ∙ rw e (or-false (list_any p ys)) in
      let rest : last_place p (ys ++ x ∷ []) ≡ last_place p ys = rw e at (last_place-push p ys x) in
      rw (same, rest, e) refl)
]

any-place : (p : ℕ → Bool) (xs : List ℕ) → list_any p xs ≡ true → (i : ℕ) × (i < length xs) × (p (get_or xs i 0) ≡ true)
any-place p [] h = absurd (false≢true h)
any-place p (x ∷ xs) h = elim (or_cases (p x) (list_any p xs) h) [
  | inl here ↦ (0, omega arith, here)
  | inr there ↦ (let rest = any-place p xs there in (suc rest.0, omega (arith, rest.1), rest.2))
]

none-place : (p : ℕ → Bool) (xs : List ℕ) (i : ℕ) → list_any p xs ≡ false → i < length xs → p (get_or xs i 0) ≡ false
none-place p [] i h within = absurd (omega arith)
none-place p (x ∷ xs) zero h within = (or_parts (p x) (list_any p xs) h).0
none-place p (x ∷ xs) (suc i) h within = none-place p xs i (or_parts (p x) (list_any p xs) h).1 (omega arith)

ltb-suc : (a b : ℕ) → ltb (suc a) (suc b) ≡ ltb a b
ltb-suc a b = elim (cases_lt a b) [
  | inl h ↦ lt-ltb (suc a) (suc b) (omega arith) ∙ sym (lt-ltb a b h)
  | inr h ↦ le-ltb (suc a) (suc b) (omega arith) ∙ sym (le-ltb a b h)
]

pub last_place-below : (p : ℕ → Bool) (xs : List ℕ) (a : ℕ) → 0 < a → a < length xs → ((i : ℕ) → a ≤ i → i < length xs → p (get_or xs i 0) ≡ true → p (get_or xs a 0) ≡ true)
    → ltb (last_place p xs) a ≡ not (p (get_or xs a 0))
last_place-below p [] a some within down = absurd (omega arith)
last_place-below p (x ∷ xs) zero some within down = absurd (omega arith)
last_place-below p (x ∷ xs) (suc zero) some within down = elim (cases_Bool (list_any p xs)) [
  | inl e ↦ (let place = any-place p xs e in
      let it : p (get_or xs 0 0) ≡ true = down (suc place.0) (omega arith) (omega (arith, place.1)) place.2 in
      rw (e, it) (le-ltb (suc (last_place p xs)) 1 (omega arith)))
  | inr e ↦ (let it : p (get_or xs 0 0) ≡ false = none-place p xs 0 e (omega arith) in rw (e, it) refl)
]
last_place-below p (x ∷ xs) (suc (suc a)) some within down = elim (cases_Bool (list_any p xs)) [
  | inl e ↦ rw e (ltb-suc (last_place p xs) (suc a)
      ∙ last_place-below p xs (suc a) (omega arith) (omega arith) (λ i from to passes. down (suc i) (omega arith) (omega arith) passes))
  | inr e ↦ (let it : p (get_or xs (suc a) 0) ≡ false = none-place p xs (suc a) e (omega arith) in rw (e, it) (lt-ltb 0 (suc (suc a)) (omega arith)))
]

pub last_place_step : (p : ℕ → Bool) (xs : List ℕ) (i leaf next : ℕ) (passes : Bool) → i < length xs → leaf ≡ last_place p (take i xs) → passes ≡ p (get_or xs i 0)
    → next ≡ cond passes i leaf → next ≡ last_place p (take (i + 1) xs)
last_place_step p xs i leaf next passes within before is moved =
    moved ∙ ap (λ b. cond b i leaf) is ∙ ap (λ n. cond (p (get_or xs i 0)) i n) before
    ∙ ap (λ n. cond (p (get_or xs i 0)) n (last_place p (take i xs))) (sym min-left) ∙ sym (last_place-push p (take i xs) (get_or xs i 0)) ∙ ap (last_place p) (sym (take_more xs i 0 within))
  where
    min-left : length (take i xs) ≡ i
    min-left = omega (arith, length-take i xs)

pub last_place_of_all : (p : ℕ → Bool) (xs : List ℕ) (i leaf : ℕ) → length xs ≤ i → leaf ≡ last_place p (take i xs) → leaf ≡ last_place p xs
last_place_of_all p xs i leaf end is = is ∙ ap (last_place p) (take_all i xs end)
