-- A sum or a count over a list equals a sum over the list's indices, and a sum over the list's different keys.
use Rattle.std.proofs.Common.{Bool, List, [], ap, arith, cond, eqb, false, get_or, inl, inr, length, refl, suc, sym, true, zero, ℕ, ◌*◌, ◌+◌, ◌<◌, ◌∙◌, ◌∷◌, ◌≡◌, ◌≤◌}
use Rattle.std.proofs.Math.Nat.{add-mul, one-mul, zero-mul}
use Rattle.std.proofs.lemmas.Bool.{cases_Bool, eqb-false, eqb-true, false≢true, ne_eqb}
use Rattle.std.proofs.lemmas.List.Sums.{length-filter, sum_by-cons}
use Rattle.std.proofs.lemmas.Map.Keys.{IsDistinct-cons, IsDistinct-head, IsDistinct-tail}
use Rattle.std.specs.List.{AllByRecursion, IsDistinct, count_by, filter, range_with_len, sum_by}
use Rattle.degree_sequences.proofs.Counting.{IsDistinct-filter, IsDistinct-nil, count_by-is_in, all_if_true_of_any, is_in, is_in-filter, sum_by-both, sum_by-nothing, weaken_each}
use Rattle.degree_sequences.specs.Degrees.{degree}

pub one_weight : (f : ℕ → ℕ) (x : ℕ) (D : List ℕ) → IsDistinct eqb D → is_in D x ≡ true → sum_by (λ d. cond (eqb x d) (f d) 0) D ≡ f x
one_weight f x [] apart h = absurd (false≢true h)
one_weight f x (d ∷ D) apart h =
    let t : ℕ → ℕ = λ d. cond (eqb x d) (f d) 0 in
    let parts : sum_by t (d ∷ D) ≡ t d + sum_by t D = sum_by-cons t d D in
    elim (cases_Bool (eqb x d)) [
      | inl e ↦ (let same : x ≡ d = eqb-true x d e in
          let here : t d ≡ f x = rw (e, same) refl in
          let others : AllByRecursion (λ y. eqb x y ≡ false) D = rw same (IsDistinct-head eqb d D apart) in
          let none : sum_by t D ≡ 0 = sum_by-nothing t D (weaken_each (λ y. eqb x y ≡ false) (λ y. t y ≡ 0) (λ y no_y. rw no_y refl) D others) in
          omega (arith, parts, here, none))
      | inr e ↦ (let here : t d ≡ 0 = rw e refl in
          let there : is_in D x ≡ true = rw e at h in
          omega (arith, parts, here, one_weight f x D (IsDistinct-tail eqb d D apart) there))
    ]

pub sum_by-keys : (w : ℕ → ℕ) (D : List ℕ) → IsDistinct eqb D → (L : List ℕ) → AllByRecursion (λ x. is_in D x ≡ true) L
    → sum_by w L ≡ sum_by (λ d. degree L d * w d) D
sum_by-keys w D apart [] h = sym (sum_by-nothing (λ d. 0 * w d) D (all_if_true_of_any (λ d. 0 * w d ≡ 0) (λ d. zero-mul (w d)) D))
sum_by-keys w D apart (x ∷ L) h =
    let f : ℕ → ℕ = λ d. degree (x ∷ L) d * w d in
    let now : ℕ → ℕ = λ d. cond (eqb x d) (w d) 0 in
    let later : ℕ → ℕ = λ d. degree L d * w d in
    let at_d : (d : ℕ) → f d ≡ now d + later d = λ d.
    ap (λ n. n * w d) (sum_by-cons (λ y. cond (eqb y d) 1 0) x L) ∙ add-mul (cond (eqb x d) 1 0) (degree L d) (w d) ∙
    ap (λ n. n + degree L d * w d) (times (eqb x d) (w d)) in
    omega (arith, sum_by-cons w x L, sum_by-both f now later at_d D, one_weight w x D apart h.0, sum_by-keys w D apart L h.1)
  where
    times : (b : Bool) (n : ℕ) → cond b 1 0 * n ≡ cond b n 0
    times true n = one-mul n
    times false n = zero-mul n

pub sum_by-shift : (h : ℕ → ℕ) (a n : ℕ) → sum_by h (range_with_len (a + 1) n) ≡ sum_by (λ i. h (suc i)) (range_with_len a n)
sum_by-shift h a zero = refl
sum_by-shift h a (suc n) =
    let e : a + 1 ≡ suc a = omega arith in
    omega (arith, ap h e, sum_by-cons h (a + 1) (range_with_len (a + 1 + 1) n), sum_by-cons (λ i. h (suc i)) a (range_with_len (a + 1) n), sum_by-shift h (a + 1) n)

pub sum_by-places : (f : ℕ → ℕ) (xs : List ℕ) → sum_by f xs ≡ sum_by (λ i. f (get_or xs i 0)) (range_with_len 0 (length xs))
sum_by-places f [] = refl
sum_by-places f (x ∷ xs) =
    omega (
      arith,
      sum_by-cons f x xs,
      sum_by-cons (λ i. f (get_or (x ∷ xs) i 0)) 0 (range_with_len 1 (length xs)),
      sum_by-shift (λ i. f (get_or (x ∷ xs) i 0)) 0 (length xs),
      sum_by-places f xs,
    )

pub is_in-range : (a n i : ℕ) → a ≤ i → i < a + n → is_in (range_with_len a n) i ≡ true
is_in-range a zero i h k = absurd (omega arith)
is_in-range a (suc n) i h k = elim (cases_Bool (eqb i a)) [
  | inl e ↦ rw e refl
  | inr e ↦ (let ne : i ≡ a → ⊥ = eqb-false i a e in rw e (is_in-range (a + 1) n i (omega arith) (omega arith)))
]

pub All-above : (n a b : ℕ) → a < b → AllByRecursion (λ y. eqb a y ≡ false) (range_with_len b n)
All-above zero a b h = tt
All-above (suc n) a b h = (ne_eqb a b (λ e. omega arith), All-above n a (b + 1) (omega arith))

pub IsDistinct-range : (a n : ℕ) → IsDistinct eqb (range_with_len a n)
IsDistinct-range a zero = IsDistinct-nil
IsDistinct-range a (suc n) = IsDistinct-cons eqb a (range_with_len (a + 1) n) (All-above n a (a + 1) (omega arith)) (IsDistinct-range (a + 1) n)

pub All-range : (a n m : ℕ) → a + n ≤ m → AllByRecursion (λ i. i < m) (range_with_len a n)
All-range a zero m h = tt
All-range a (suc n) m h = (omega arith, All-range (a + 1) n m (omega arith))

pub count_by-passing : (p : ℕ → Bool) (xs : List ℕ) → AllByRecursion (λ x. p x ≡ true) xs → count_by p xs ≡ length xs
count_by-passing p [] h = refl
count_by-passing p (x ∷ xs) h =
    let here : cond {A = ℕ} (p x) 1 0 ≡ 1 = rw h.0 refl in
    omega (arith, here, sum_by-cons (λ y. cond (p y) 1 0) x xs, count_by-passing p xs h.1)

pub length-le-members : (A D : List ℕ) → IsDistinct eqb A → AllByRecursion (λ a. is_in D a ≡ true) A → length A ≤ length D
length-le-members A D apart inside = omega (arith, count_by-passing (is_in D) A inside, count_by-is_in A apart D)

pub count_by-le-places : (p : ℕ → Bool) (n : ℕ) (A : List ℕ) → IsDistinct eqb A → AllByRecursion (λ a. a < n) A → count_by p A ≤ count_by p (range_with_len 0 n)
count_by-le-places p n A apart below =
    let R : List ℕ = range_with_len 0 n in
    omega (
      arith,
      length-filter p A,
      length-filter p R,
      length-le-members (filter p A) (filter p R) (IsDistinct-filter p A apart) (inside A below),
    )
  where
    inside : (A : List ℕ) → AllByRecursion (λ a. a < n) A → AllByRecursion (λ a. is_in (filter p (range_with_len 0 n)) a ≡ true) (filter p A)
    inside [] h = tt
    inside (a ∷ A) h = elim (cases_Bool (p a)) [
      | inl e ↦ rw e (is_in-filter p (range_with_len 0 n) a e (is_in-range 0 n a (omega arith) (omega (arith, h.0))), inside A h.1)
      | inr e ↦ rw e (inside A h.1)
    ]

pub none_weight : (f : ℕ → ℕ) (x : ℕ) (A : List ℕ) → is_in A x ≡ false → sum_by (λ a. cond (eqb x a) (f a) 0) A ≡ 0
none_weight f x [] h = refl
none_weight f x (a ∷ A) h = elim (cases_Bool (eqb x a)) [
  | inl e ↦ absurd (false≢true (sym (rw e at h)))
  | inr e ↦ (let here : cond {A = ℕ} (eqb x a) (f a) 0 ≡ 0 = rw e refl in
      let there : is_in A x ≡ false = rw e at h in
      omega (arith, here, sum_by-cons (λ a. cond (eqb x a) (f a) 0) a A, none_weight f x A there))
]

pub key_weight : (n : ℕ) (x : ℕ) (A : List ℕ) → IsDistinct eqb A → sum_by (λ a. cond (eqb x a) n 0) A ≡ cond (is_in A x) n 0
key_weight n x A apart = elim (cases_Bool (is_in A x)) [
  | inl e ↦ one_weight (λ a. n) x A apart e ∙ sym (rw e refl)
  | inr e ↦ none_weight (λ a. n) x A e ∙ sym (rw e refl)
]

pub count_by-degree : (L A : List ℕ) → IsDistinct eqb A → count_by (is_in A) L ≡ sum_by (degree L) A
count_by-degree [] A apart = sym (sum_by-nothing (λ a. 0) A (all_if_true_of_any (λ a. 0 ≡ 0) (λ a. refl) A))
count_by-degree (x ∷ L) A apart =
    omega (
      arith,
      sum_by-cons (λ y. cond (is_in A y) 1 0) x L,
      key_weight 1 x A apart,
      count_by-degree L A apart,
      sum_by-both (degree (x ∷ L)) (λ a. cond (eqb x a) 1 0) (degree L) (λ a. sum_by-cons (λ y. cond (eqb y a) 1 0) x L) A,
    )
