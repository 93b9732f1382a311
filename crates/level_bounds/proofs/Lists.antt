-- Which elements the lists that `map`, `filter` and `filter_map` make contain.
use Rattle.std.proofs.Common.{◌≡◌, ℕ, zero, suc, ◌+◌, ◌<◌, ◌≤◌, Bool, true, eqb, List, [], ◌∷◌, map, refl, ap, sym, ◌∙◌, subst, arith, ◌⊎◌, inl, inr, Option, Some, None}
use Rattle.std.specs.List.{AllByRecursion, Contains, cons_option, filter, filter_map, list_all, list_any, range_with_len}
use Rattle.std.proofs.lemmas.Bool.{cases_Bool, cases_eq, eqb-true, eq-eqb, false≢true, and_parts}
use Rattle.std.proofs.lemmas.List.{get_or-map, length-map}
use Rattle.entry_sets.proofs.Listing.{in_front_or_rest, in_front, in_rest, not_in_empty}

-- ---- what is true of all members

module _ {X : Type 0} (P : X → Type 0) where
  pub at_member : (xs : List X) → AllByRecursion P xs → (x : X) → Contains xs x → P x
  at_member [] h x k = absurd (not_in_empty x k)
  at_member (y ∷ xs) h x k = elim (in_front_or_rest y xs x k) [
    | inl later ↦ at_member xs h.1 x later
    | inr is ↦ subst P (sym is) h.0
  ]

  pub from_members : (xs : List X) → ((x : X) → Contains xs x → P x) → AllByRecursion P xs
  from_members [] h = tt
  from_members (x ∷ xs) h = (h x (in_front x xs x refl), from_members xs (λ y k. h y (in_rest x xs y k)))

-- ---- members of a list that `map` makes

module _ {X Y : Type 0} (f : X → Y) where
  pub in_map : (xs : List X) (x : X) → Contains xs x → Contains (map f xs) (f x)
  in_map xs x k = (k.0, omega (arith, k.1, length-map xs f), get_or-map f xs k.0 x (f x) k.1 ∙ ap f k.2)

  pub from_map : (xs : List X) (y : Y) → Contains (map f xs) y → (x : X) × Contains xs x × (y ≡ f x)
  from_map [] y k = absurd (not_in_empty y k)
  from_map (x ∷ xs) y k = elim (in_front_or_rest (f x) (map f xs) y k) [
    | inl later ↦ (let found : (z : X) × Contains xs z × (y ≡ f z) = from_map xs y later in (found.0, in_rest x xs found.0 found.1, found.2))
    | inr is ↦ (x, in_front x xs x refl, is)
  ]

pub map_of_map : {X Y Z : Type 0} (f : Y → Z) (g : X → Y) (h : X → Z) → ((x : X) → f (g x) ≡ h x) → (xs : List X) → map f (map g xs) ≡ map h xs
map_of_map f g h same [] = refl
map_of_map f g h same (x ∷ xs) = rw (same x, map_of_map f g h same xs) refl

pub map_same_on_members : {Y : Type 0} (f g : ℕ → Y) (xs : List ℕ) → ((x : ℕ) → Contains xs x → f x ≡ g x) → map f xs ≡ map g xs
map_same_on_members f g [] h = refl
map_same_on_members f g (x ∷ xs) h = rw (h x (in_front x xs x refl), map_same_on_members f g xs (λ y k. h y (in_rest x xs y k))) refl

pub same_at : (f g : ℕ → ℕ) (xs : List ℕ) → map f xs ≡ map g xs → (x : ℕ) → Contains xs x → f x ≡ g x
same_at f g [] same x k = absurd (not_in_empty x k)
same_at f g (y ∷ ys) same x k = elim (in_front_or_rest y ys x k) [
  | inr is ↦ (let first : f y ≡ g y = cc in rw is first)
  | inl later ↦ (let rest : map f ys ≡ map g ys = cc in same_at f g ys rest x later)
]

-- ---- members of a list that `filter` makes

module _ {X : Type 0} (p : X → Bool) where
  pub in_filter : (xs : List X) (x : X) → Contains xs x → p x ≡ true → Contains (filter p xs) x
  in_filter [] x k h = absurd (not_in_empty x k)
  in_filter (y ∷ xs) x k h = elim (in_front_or_rest y xs x k) [
    | inl later ↦ elim (cases_Bool (p y)) [
      | inl t ↦ rw t (in_rest y (filter p xs) x (in_filter xs x later h))
      | inr n ↦ rw n (in_filter xs x later h)
    ]
    | inr is ↦ (let t : p y ≡ true = ap p (sym is) ∙ h in rw t (in_front y (filter p xs) x is))
  ]

  pub from_filter : (xs : List X) (x : X) → Contains (filter p xs) x → Contains xs x × (p x ≡ true)
  from_filter [] x k = absurd (not_in_empty x k)
  from_filter (y ∷ xs) x k = elim (cases_Bool (p y)) [
    | inl t ↦ (let kept : Contains (y ∷ filter p xs) x = rw t at k in elim (in_front_or_rest y (filter p xs) x kept) [
      | inl later ↦ (let rest : Contains xs x × (p x ≡ true) = from_filter xs x later in (in_rest y xs x rest.0, rest.1))
      | inr is ↦ (in_front y xs x is, ap p is ∙ t)
    ])
    | inr n ↦ (let left : Contains (filter p xs) x = rw n at k in let rest : Contains xs x × (p x ≡ true) = from_filter xs x left in (in_rest y xs x rest.0, rest.1))
  ]

  pub all_filtered : (P : X → Type 0) (xs : List X) → AllByRecursion P xs → AllByRecursion P (filter p xs)
  all_filtered P xs h = from_members P (filter p xs) (λ x k. at_member P xs h x (from_filter xs x k).0)

-- ---- members of a list that `filter_map` makes

module _ {Y : Type 0} (y : Y) where
  in_rest_of_option : (o : Option Y) (rest : List Y) → Contains rest y → Contains (cons_option o rest) y
  in_rest_of_option None rest k = k
  in_rest_of_option (Some v) rest k = in_rest v rest y k

  in_option_or_rest : (o : Option Y) (rest : List Y) → Contains (cons_option o rest) y → (o ≡ Some y) ⊎ Contains rest y
  in_option_or_rest None rest k = inr k
  in_option_or_rest (Some v) rest k = elim (in_front_or_rest v rest y k) [ inl later ↦ inr later | inr is ↦ inl (ap Some (sym is)) ]

module _ {X Y : Type 0} (h : X → Option Y) where
  pub in_filter_map : (xs : List X) (x : X) (y : Y) → Contains xs x → h x ≡ Some y → Contains (filter_map h xs) y
  in_filter_map [] x y k e = absurd (not_in_empty x k)
  in_filter_map (z ∷ xs) x y k e = elim (in_front_or_rest z xs x k) [
    | inl later ↦ in_rest_of_option y (h z) (filter_map h xs) (in_filter_map xs x y later e)
    | inr is ↦ (let here : h z ≡ Some y = ap h (sym is) ∙ e in rw here (in_front y (filter_map h xs) y refl))
  ]

  pub from_filter_map : (xs : List X) (y : Y) → Contains (filter_map h xs) y → (x : X) × Contains xs x × (h x ≡ Some y)
  from_filter_map [] y k = absurd (not_in_empty y k)
  from_filter_map (x ∷ xs) y k = elim (in_option_or_rest y (h x) (filter_map h xs) k) [
    | inl here ↦ (x, in_front x xs x refl, here)
    | inr later ↦ (let found : (z : X) × Contains xs z × (h z ≡ Some y) = from_filter_map xs y later in (found.0, in_rest x xs found.0 found.1, found.2))
  ]

-- ---- the tests `list_all` and `list_any`

pub all_true : {X : Type 0} (p : X → Bool) (xs : List X) → list_all p xs ≡ true → (x : X) → Contains xs x → p x ≡ true
all_true p [] h x k = absurd (not_in_empty x k)
all_true p (y ∷ xs) h x k =
    let parts : (p y ≡ true) × (list_all p xs ≡ true) = and_parts (p y) (list_all p xs) h in
    elim (in_front_or_rest y xs x k) [ inl later ↦ all_true p xs parts.1 x later | inr is ↦ ap p is ∙ parts.0 ]

pub true_for_all : {X : Type 0} (p : X → Bool) (xs : List X) → ((x : X) → Contains xs x → p x ≡ true) → list_all p xs ≡ true
true_for_all p [] h = refl
true_for_all p (x ∷ xs) h = rw (h x (in_front x xs x refl), true_for_all p xs (λ y k. h y (in_rest x xs y k))) refl

abbrev pub is_in : List ℕ → ℕ → Bool
is_in xs x = list_any (λ e. eqb x e) xs

pub test_of_member : (xs : List ℕ) (x : ℕ) → Contains xs x → is_in xs x ≡ true
test_of_member [] x k = absurd (not_in_empty x k)
test_of_member (y ∷ xs) x k = elim (cases_Bool (eqb x y)) [
  | inl t ↦ rw t refl
  | inr n ↦ elim (in_front_or_rest y xs x k) [
    | inl later ↦ rw n (test_of_member xs x later)
    | inr is ↦ absurd (false≢true (sym n ∙ eq-eqb x y is))
  ]
]

pub in_from_test : (xs : List ℕ) (x : ℕ) → is_in xs x ≡ true → Contains xs x
in_from_test [] x h = absurd (false≢true h)
in_from_test (y ∷ xs) x h = elim (cases_Bool (eqb x y)) [
  | inl t ↦ in_front y xs x (eqb-true x y t)
  | inr n ↦ in_rest y xs x (in_from_test xs x (rw n at h))
]

-- ---- ranges

pub in_range : (a n x : ℕ) → a ≤ x → x < a + n → Contains (range_with_len a n) x
in_range a zero x low high = absurd (omega arith)
in_range a (suc n) x low high = elim (cases_eq x a) [
  | inl same ↦ in_front a (range_with_len (a + 1) n) x same
  | inr apart ↦ in_rest a (range_with_len (a + 1) n) x (in_range (a + 1) n x (omega arith) (omega arith))
]

pub range_within : (a n x : ℕ) → Contains (range_with_len a n) x → (a ≤ x) × (x < a + n)
range_within a zero x k = absurd (not_in_empty x k)
range_within a (suc n) x k = elim (in_front_or_rest a (range_with_len (a + 1) n) x k) [
  | inl later ↦ (let rest : (a + 1 ≤ x) × (x < a + 1 + n) = range_within (a + 1) n x later in (omega (arith, rest.0), omega (arith, rest.1)))
  | inr is ↦ (omega (arith, is), omega (arith, is))
]
