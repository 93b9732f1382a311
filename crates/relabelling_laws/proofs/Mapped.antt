-- A function f replaces the numbers of a list. Suppose that a test or a function gives the same for a number and its new number. Then filters,
-- counts, different numbers and degrees of the two lists correspond. P is a property of all numbers of the list.
use Rattle.std.proofs.Common.{◌≡◌, ℕ, Bool, cond, not, eqb, List, [], ◌∷◌, map, refl, ap, sym, ◌∙◌, arith, inl, inr}
use Rattle.std.specs.List.{AllByRecursion, count_by, filter, list_any, prefix_len, position_or_len}
use Rattle.std.proofs.lemmas.Bool.{cases_Bool, eqb-true, eqb-false, eq-eqb, ne_eqb}
use Rattle.std.proofs.lemmas.List.Sums.{sum_by-cons}
use Rattle.degree_sequences.specs.Degrees.{degree, different, sorted_descending, degree_list}
use Rattle.degree_sequences.proofs.Counting.{All-filter}

pub map-mapped : {X Y Z : Type 0} (P : X → Type 0) (f : X → Y) (h : X → Z) (k : Y → Z) → ((x : X) → P x → k (f x) ≡ h x)
    → (xs : List X) → AllByRecursion P xs → map k (map f xs) ≡ map h xs
map-mapped P f h k alike [] all = refl
map-mapped P f h k alike (x ∷ xs) all = rw (alike x all.0, map-mapped P f h k alike xs all.1) refl

pub filter-mapped : {X Y : Type 0} (P : X → Type 0) (f : X → Y) (p : X → Bool) (q : Y → Bool) → ((x : X) → P x → q (f x) ≡ p x)
    → (xs : List X) → AllByRecursion P xs → filter q (map f xs) ≡ map f (filter p xs)
filter-mapped P f p q alike [] all = refl
filter-mapped P f p q alike (x ∷ xs) all = elim (cases_Bool (p x)) [
  | inl e ↦ rw (alike x all.0, e, filter-mapped P f p q alike xs all.1) refl
  | inr e ↦ rw (alike x all.0, e, filter-mapped P f p q alike xs all.1) refl
]

pub any-mapped : {X Y : Type 0} (P : X → Type 0) (f : X → Y) (p : X → Bool) (q : Y → Bool) → ((x : X) → P x → q (f x) ≡ p x)
    → (xs : List X) → AllByRecursion P xs → list_any q (map f xs) ≡ list_any p xs
any-mapped P f p q alike [] all = refl
any-mapped P f p q alike (x ∷ xs) all = rw (alike x all.0, any-mapped P f p q alike xs all.1) refl

pub prefix_len-mapped : {X Y : Type 0} (P : X → Type 0) (f : X → Y) (p : X → Bool) (q : Y → Bool) → ((x : X) → P x → q (f x) ≡ p x)
    → (xs : List X) → AllByRecursion P xs → prefix_len q (map f xs) ≡ prefix_len p xs
prefix_len-mapped P f p q alike [] all = refl
prefix_len-mapped P f p q alike (x ∷ xs) all = rw (alike x all.0, prefix_len-mapped P f p q alike xs all.1) refl

pub count-mapped : {X Y : Type 0} (P : X → Type 0) (f : X → Y) (p : X → Bool) (q : Y → Bool) → ((x : X) → P x → q (f x) ≡ p x)
    → (xs : List X) → AllByRecursion P xs → count_by q (map f xs) ≡ count_by p xs
count-mapped P f p q alike [] all = refl
count-mapped P f p q alike (x ∷ xs) all =
    let here : cond {A = ℕ} (q (f x)) 1 0 ≡ cond (p x) 1 0 = ap (λ (b : Bool). cond {A = ℕ} b 1 0) (alike x all.0) in
    omega (
      arith,
      here,
      count-mapped P f p q alike xs all.1,
      sum_by-cons (λ y. cond (q y) 1 0) (f x) (map f xs),
      sum_by-cons (λ y. cond (p y) 1 0) x xs,
    )

abbrev pub KeepsEqual : (ℕ → Type 0) → (ℕ → ℕ) → Type 0
KeepsEqual P f = (a b : ℕ) → P a → P b → eqb (f a) (f b) ≡ eqb a b

pub keeps_equal : (P : ℕ → Type 0) (f : ℕ → ℕ) → ((a b : ℕ) → P a → P b → f a ≡ f b → a ≡ b) → KeepsEqual P f
keeps_equal P f tells a b ha hb = elim (cases_Bool (eqb a b)) [
  | inl e ↦ eq-eqb (f a) (f b) (ap f (eqb-true a b e)) ∙ sym e
  | inr e ↦ ne_eqb (f a) (f b) (λ same. eqb-false a b e (tells a b ha hb same)) ∙ sym e
]

pub All-different : (P : ℕ → Type 0) (xs : List ℕ) → AllByRecursion P xs → AllByRecursion P (different xs)
All-different P [] all = tt
All-different P (x ∷ xs) all = (all.0, All-filter P (λ other. not (eqb other x)) (different xs) (All-different P xs all.1))

module _ (P : ℕ → Type 0) (f : ℕ → ℕ) (keeps : KeepsEqual P f) where
  pub degree-mapped : (xs : List ℕ) → AllByRecursion P xs → (a : ℕ) → P a → degree (map f xs) (f a) ≡ degree xs a
  degree-mapped xs all a ha = count-mapped P f (λ key. eqb key a) (λ key. eqb key (f a)) (λ x hx. keeps x a hx ha) xs all

  pub place-mapped : (xs : List ℕ) → AllByRecursion P xs → (a : ℕ) → P a
      → position_or_len (λ other. eqb other (f a)) (map f xs) ≡ position_or_len (λ other. eqb other a) xs
  place-mapped xs all a ha =
      prefix_len-mapped P f (λ other. not (eqb other a)) (λ other. not (eqb other (f a))) (λ x hx. ap not (keeps x a hx ha)) xs all

  pub different-mapped : (xs : List ℕ) → AllByRecursion P xs → different (map f xs) ≡ map f (different xs)
  different-mapped [] all = refl
  different-mapped (x ∷ xs) all =
      ap (λ (s : List ℕ). f x ∷ filter (λ other. not (eqb other (f x))) s) (different-mapped xs all.1)
      ∙ ap (λ (s : List ℕ). f x ∷ s) (filter-mapped P f (λ other. not (eqb other x)) (λ other. not (eqb other (f x)))
      (λ other h. ap not (keeps other x h all.0)) (different xs) (All-different P xs all.1))

  pub degree_list-mapped : (xs : List ℕ) → AllByRecursion P xs → degree_list (map f xs) ≡ degree_list xs
  degree_list-mapped xs all =
      ap (λ (s : List ℕ). sorted_descending (map (degree (map f xs)) s)) (different-mapped xs all)
      ∙ ap sorted_descending (map-mapped P f (degree xs) (degree (map f xs)) (degree-mapped xs all) (different xs) (All-different P xs all))
