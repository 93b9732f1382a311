-- How many elements of a list pass a test, as a sum over the list's different keys.
use Rattle.std.proofs.Common.{Bool, List, [], ap, arith, cond, eqb, false, inl, inr, length, map, not, refl, subst, sym, true, ℕ, ◌+◌, ◌||◌, ◌∙◌, ◌∷◌, ◌≡◌, ◌≤◌}
use Rattle.std.proofs.lemmas.Bool.{cases_Bool, cond_both, eq-eqb, eqb-false, eqb-true, false≢true, ne_eqb}
use Rattle.std.proofs.lemmas.List.Sums.{sum_by-cons}
use Rattle.std.proofs.lemmas.Map.Keys.{IsDistinct-cons, IsDistinct-head, IsDistinct-tail}
use Rattle.std.specs.List.{AllByRecursion, IsDistinct, count_by, filter, list_any, sum_by}
use Rattle.degree_sequences.specs.Degrees.{degree, different}

pub sum_by-both : (f g h : ℕ → ℕ) → ((x : ℕ) → f x ≡ g x + h x) → (xs : List ℕ) → sum_by f xs ≡ sum_by g xs + sum_by h xs
sum_by-both f g h e [] = refl
sum_by-both f g h e (x ∷ xs) =
    omega (arith, e x, sum_by-both f g h e xs, sum_by-cons f x xs, sum_by-cons g x xs, sum_by-cons h x xs)

pub sum_by-both-le : (f g h : ℕ → ℕ) → ((x : ℕ) → f x ≤ g x + h x) → (xs : List ℕ) → sum_by f xs ≤ sum_by g xs + sum_by h xs
sum_by-both-le f g h e [] = omega arith
sum_by-both-le f g h e (x ∷ xs) =
    omega (arith, e x, sum_by-both-le f g h e xs, sum_by-cons f x xs, sum_by-cons g x xs, sum_by-cons h x xs)

pub sum_by-nothing : (f : ℕ → ℕ) (xs : List ℕ) → AllByRecursion (λ x. f x ≡ 0) xs → sum_by f xs ≡ 0
sum_by-nothing f [] h = refl
sum_by-nothing f (x ∷ xs) h = omega (arith, sum_by-cons f x xs, h.0, sum_by-nothing f xs h.1)

pub sum_by-same : (f g : ℕ → ℕ) → ((x : ℕ) → f x ≡ g x) → (xs : List ℕ) → sum_by f xs ≡ sum_by g xs
sum_by-same f g e [] = refl
sum_by-same f g e (x ∷ xs) = omega (arith, e x, sum_by-cons f x xs, sum_by-cons g x xs, sum_by-same f g e xs)

pub sum_by-filter : (p : ℕ → Bool) (f : ℕ → ℕ) (A : List ℕ) → sum_by (λ i. cond (p i) (f i) 0) A ≡ sum_by f (filter p A)
sum_by-filter p f [] = refl
sum_by-filter p f (a ∷ A) = elim (cases_Bool (p a)) [
  | inl e ↦ (let here : cond {A = ℕ} (p a) (f a) 0 ≡ f a = rw e refl in
      let kept : filter p (a ∷ A) ≡ a ∷ filter p A = rw e refl in
      omega (arith, here, ap (sum_by f) kept, sum_by-cons (λ i. cond (p i) (f i) 0) a A, sum_by-cons f a (filter p A), sum_by-filter p f A))
  | inr e ↦ (let here : cond {A = ℕ} (p a) (f a) 0 ≡ 0 = rw e refl in
      let kept : filter p (a ∷ A) ≡ filter p A = rw e refl in
      omega (arith, here, ap (sum_by f) kept, sum_by-cons (λ i. cond (p i) (f i) 0) a A, sum_by-filter p f A))
]

pub sum_by-map : (f : ℕ → ℕ) (h : ℕ → ℕ) (A : List ℕ) → sum_by f (map h A) ≡ sum_by (λ a. f (h a)) A
sum_by-map f h [] = refl
sum_by-map f h (a ∷ A) = omega (arith, sum_by-cons f (h a) (map h A), sum_by-cons (λ a. f (h a)) a A, sum_by-map f h A)

pub all_if_true_of_any : (Q : ℕ → Type 0) → ((x : ℕ) → Q x) → (xs : List ℕ) → AllByRecursion Q xs
all_if_true_of_any Q h [] = tt
all_if_true_of_any Q h (x ∷ xs) = (h x, all_if_true_of_any Q h xs)

pub weaken_each : (Q R : ℕ → Type 0) → ((x : ℕ) → Q x → R x) → (xs : List ℕ) → AllByRecursion Q xs → AllByRecursion R xs
weaken_each Q R h [] k = tt
weaken_each Q R h (x ∷ xs) k = (h x k.0, weaken_each Q R h xs k.1)

abbrev pub is_in : List ℕ → ℕ → Bool
is_in D x = list_any (λ d. eqb x d) D

pub same_cond : (b : Bool) (n : ℕ) → cond b n n ≡ n
same_cond true n = refl
same_cond false n = refl

pub none_equal_count : (q : ℕ → Bool) (x : ℕ) (D : List ℕ) → AllByRecursion (λ y. eqb x y ≡ false) D
    → sum_by (λ d. cond (q d) (cond (eqb x d) 1 0) 0) D ≡ 0
none_equal_count q x D h = sum_by-nothing (λ d. cond (q d) (cond (eqb x d) 1 0) 0) D
    (weaken_each (λ y. eqb x y ≡ false) (λ d. cond (q d) (cond (eqb x d) 1 0) 0 ≡ 0) (λ y e. rw e (same_cond (q y) 0)) D h)

pub one_equal_count : (q : ℕ → Bool) (x : ℕ) (D : List ℕ) → IsDistinct eqb D → is_in D x ≡ true
    → sum_by (λ d. cond (q d) (cond (eqb x d) 1 0) 0) D ≡ cond (q x) 1 0
one_equal_count q x [] apart h = absurd (false≢true h)
one_equal_count q x (d ∷ D) apart h =
    let f : ℕ → ℕ = λ d. cond (q d) (cond (eqb x d) 1 0) 0 in
    let parts : sum_by f (d ∷ D) ≡ f d + sum_by f D = sum_by-cons f d D in
    elim (cases_Bool (eqb x d)) [
      | inl e ↦ (let same : x ≡ d = eqb-true x d e in
          let here : f d ≡ cond (q x) 1 0 = rw (e, same) refl in
          let others : AllByRecursion (λ y. eqb x y ≡ false) D = rw same (IsDistinct-head eqb d D apart) in
          omega (arith, parts, here, none_equal_count q x D others))
      | inr e ↦ (let here : f d ≡ 0 = rw e (same_cond (q d) 0) in
          let there : is_in D x ≡ true = rw e at h in
          omega (arith, parts, here, one_equal_count q x D (IsDistinct-tail eqb d D apart) there))
    ]

pub count_by-keys : (q : ℕ → Bool) (D : List ℕ) → IsDistinct eqb D → (L : List ℕ) → AllByRecursion (λ x. is_in D x ≡ true) L
    → count_by q L ≡ sum_by (λ d. cond (q d) (degree L d) 0) D
count_by-keys q D apart [] h = sym (sum_by-nothing (λ d. cond (q d) 0 0) D (all_if_true_of_any (λ d. cond (q d) 0 0 ≡ 0) (λ d. same_cond (q d) 0) D))
count_by-keys q D apart (x ∷ L) h =
    let f : ℕ → ℕ = λ d. cond (q d) (degree (x ∷ L) d) 0 in
    let now : ℕ → ℕ = λ d. cond (q d) (cond (eqb x d) 1 0) 0 in
    let later : ℕ → ℕ = λ d. cond (q d) (degree L d) 0 in
    let at : (d : ℕ) → f d ≡ now d + later d = λ d.
    elim (q d) as (λ b. cond b (degree (x ∷ L) d) 0 ≡ cond b (cond (eqb x d) 1 0) 0 + cond b (degree L d) 0) [
      | true ↦ sum_by-cons (λ y. cond (eqb y d) 1 0) x L
      | false ↦ refl
    ] in
    omega (arith, sum_by-cons (λ y. cond (q y) 1 0) x L, sum_by-both f now later at D, one_equal_count q x D apart h.0, count_by-keys q D apart L h.1)

pub is_in-filter : (p : ℕ → Bool) (D : List ℕ) (x : ℕ) → p x ≡ true → is_in D x ≡ true → is_in (filter p D) x ≡ true
is_in-filter p [] x px h = h
is_in-filter p (d ∷ D) x px h = elim (cases_Bool (eqb x d)) [
  | inl e ↦ (let same : p d ≡ true = subst (λ (k : ℕ). p k ≡ true) (eqb-true x d e) px in rw (same, e) refl)
  | inr e ↦ (let there : is_in D x ≡ true = rw e at h in
      cond_both (p d) (d ∷ filter p D) (filter p D) (λ s. is_in s x ≡ true) (λ t. rw e (is_in-filter p D x px there)) (λ t. is_in-filter p D x px there))
]

pub All-filter : (Q : ℕ → Type 0) (p : ℕ → Bool) (D : List ℕ) → AllByRecursion Q D → AllByRecursion Q (filter p D)
All-filter Q p [] h = tt
All-filter Q p (d ∷ D) h = cond_both (p d) (d ∷ filter p D) (filter p D) (AllByRecursion Q) (λ t. (h.0, All-filter Q p D h.1)) (λ t. All-filter Q p D h.1)

pub IsDistinct-filter : (p : ℕ → Bool) (D : List ℕ) → IsDistinct eqb D → IsDistinct eqb (filter p D)
IsDistinct-filter p [] h = h
IsDistinct-filter p (d ∷ D) h = cond_both (p d) (d ∷ filter p D) (filter p D) (IsDistinct eqb)
    (λ t. IsDistinct-cons eqb d (filter p D) (All-filter (λ y. eqb d y ≡ false) p D (IsDistinct-head eqb d D h)) (IsDistinct-filter p D (IsDistinct-tail eqb d D h)))
    (λ t. IsDistinct-filter p D (IsDistinct-tail eqb d D h))

pub none_equal_kept : (x : ℕ) (D : List ℕ) → AllByRecursion (λ y. eqb x y ≡ false) (filter (λ y. not (eqb y x)) D)
none_equal_kept x [] = tt
none_equal_kept x (d ∷ D) = elim (cases_Bool (eqb d x)) [
  | inl e ↦ rw e (none_equal_kept x D)
  | inr e ↦ (let turned : eqb x d ≡ false = ne_eqb x d (λ same. eqb-false d x e (sym same)) in rw e (turned, none_equal_kept x D))
]

pub IsDistinct-nil : IsDistinct eqb []
unfolding IsDistinct
IsDistinct-nil = tt

pub IsDistinct-different : (L : List ℕ) → IsDistinct eqb (different L)
IsDistinct-different [] = IsDistinct-nil
IsDistinct-different (x ∷ L) = IsDistinct-cons eqb x (filter (λ y. not (eqb y x)) (different L)) (none_equal_kept x (different L)) (IsDistinct-filter (λ y. not (eqb y x)) (different L) (IsDistinct-different L))

pub is_in-different : (L : List ℕ) → AllByRecursion (λ x. is_in (different L) x ≡ true) L
is_in-different [] = tt
is_in-different (y ∷ L) = (
  rw (eq-eqb y y refl) refl,
  weaken_each (λ x. is_in (different L) x ≡ true) (λ x. is_in (different (y ∷ L)) x ≡ true)
      (λ x h. elim (cases_Bool (eqb x y)) [
        | inl e ↦ rw e refl
        | inr e ↦ rw e (is_in-filter (λ z. not (eqb z y)) (different L) x (rw e refl) h)
      ]) L (is_in-different L),
)

pub count_by-one : (D : List ℕ) → IsDistinct eqb D → (a : ℕ) → count_by (λ d. eqb d a) D ≤ 1
count_by-one [] apart a = omega arith
count_by-one (d ∷ D) apart a =
    let parts : count_by (λ d. eqb d a) (d ∷ D) ≡ cond (eqb d a) 1 0 + count_by (λ d. eqb d a) D = sum_by-cons (λ d. cond (eqb d a) 1 0) d D in
    elim (cases_Bool (eqb d a)) [
      | inl e ↦ (let here : cond {A = ℕ} (eqb d a) 1 0 ≡ 1 = rw e refl in
          let none : count_by (λ d. eqb d a) D ≡ 0 = sum_by-nothing (λ d. cond (eqb d a) 1 0) D
          (weaken_each (λ y. eqb d y ≡ false) (λ y. cond (eqb y a) 1 0 ≡ 0)
          (λ y no. let differs : eqb y a ≡ false = ne_eqb y a (λ same. eqb-false d y no (eqb-true d a e ∙ sym same)) in rw differs refl)
          D (IsDistinct-head eqb d D apart)) in
          omega arith)
      | inr e ↦ (let here : cond {A = ℕ} (eqb d a) 1 0 ≡ 0 = rw e refl in omega (arith, count_by-one D (IsDistinct-tail eqb d D apart) a))
    ]

pub count_by-is_in : (D : List ℕ) → IsDistinct eqb D → (A : List ℕ) → count_by (is_in A) D ≤ length A
count_by-is_in D apart [] = omega (arith, sum_by-nothing (λ d. 0) D (all_if_true_of_any (λ d. 0 ≡ 0) (λ d. refl) D))
count_by-is_in D apart (a ∷ A) =
    let f : ℕ → ℕ = λ d. cond (is_in (a ∷ A) d) 1 0 in
    let g : ℕ → ℕ = λ d. cond (eqb d a) 1 0 in
    let h : ℕ → ℕ = λ d. cond (is_in A d) 1 0 in
    let at : (d : ℕ) → f d ≤ g d + h d = λ d.
    elim (eqb d a) as (λ b. cond (b || is_in A d) 1 0 ≤ cond b 1 0 + cond (is_in A d) 1 0) [
      | true ↦ omega arith
      | false ↦ omega arith
    ] in
    omega (arith, sum_by-both-le f g h at D, count_by-one D apart a, count_by-is_in D apart A)

pub all-count : (L : List ℕ) → count_by (λ x. true) L ≡ length L
all-count [] = refl
all-count (x ∷ L) = omega (arith, sum_by-cons (λ (y : ℕ). 1) x L, all-count L)
