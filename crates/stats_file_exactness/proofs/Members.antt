-- If a member of a list passes a test, `find` returns some member. Each member of a list that is made from other lists is a member of one of these.
use Rattle.std.proofs.Common.{◌≡◌, ℕ, Bool, true, not, eqb, List, [], ◌∷◌, Some, refl, ap, sym, ◌∙◌, inl, inr}
use Rattle.std.specs.Prelude.{find}
use Rattle.std.specs.List.{Contains, filter, flat_map, list_any}
use Rattle.std.proofs.lemmas.Bool.{cases_Bool, false≢true}
use Rattle.std.proofs.lemmas.List.Elements.{Contains-append_cases}
use Rattle.degree_sequences.specs.Degrees.{different}
use Rattle.entry_sets.proofs.Listing.{in_front, not_in_empty, in_rest, in_front_or_rest}
use Rattle.level_bounds.proofs.Lists.{from_filter}

pub find_some : {X : Type 0} (p : X → Bool) (xs : List X) (x : X) → Contains xs x → p x ≡ true → (y : X) × (find p xs ≡ Some y)
find_some p [] x has passes = absurd (not_in_empty x has)
find_some p (y ∷ xs) x has passes = elim (cases_Bool (p y)) [
  | inl t ↦ (y, rw t refl)
  | inr n ↦ elim (in_front_or_rest y xs x has) [
    | inl later ↦ (let found = find_some p xs x later passes in (found.0, rw n found.1))
    | inr is ↦ absurd (false≢true (sym n ∙ ap p (sym is) ∙ passes))
  ]
]

pub any_true : {X : Type 0} (p : X → Bool) (xs : List X) (x : X) → Contains xs x → p x ≡ true → list_any p xs ≡ true
any_true p [] x has passes = absurd (not_in_empty x has)
any_true p (y ∷ xs) x has passes = elim (cases_Bool (p y)) [
  | inl t ↦ rw t refl
  | inr n ↦ elim (in_front_or_rest y xs x has) [
    | inl later ↦ rw n (any_true p xs x later passes)
    | inr is ↦ absurd (false≢true (sym n ∙ ap p (sym is) ∙ passes))
  ]
]

pub any_passes : {X : Type 0} (p : X → Bool) (xs : List X) → list_any p xs ≡ true → (x : X) × Contains xs x × (p x ≡ true)
any_passes p [] h = absurd (false≢true h)
any_passes p (y ∷ xs) h = elim (cases_Bool (p y)) [
  | inl t ↦ (y, in_front y xs y refl, t)
  | inr n ↦ (let later : list_any p xs ≡ true = rw n at h in
      let found = any_passes p xs later in (found.0, in_rest y xs found.0 found.1, found.2))
]

pub from_lists : {X Y : Type 0} (f : X → List Y) (xs : List X) (y : Y) → Contains (flat_map f xs) y → (x : X) × Contains xs x × Contains (f x) y
from_lists f [] y has = absurd (not_in_empty y has)
from_lists f (x ∷ xs) y has = elim (Contains-append_cases (f x) (flat_map f xs) y has) [
  | inl here ↦ (x, in_front x xs x refl, here)
  | inr later ↦ (let found = from_lists f xs y later in (found.0, in_rest x xs found.0 found.1, found.2))
]

pub from_different : (keys : List ℕ) (key : ℕ) → Contains (different keys) key → Contains keys key
from_different [] key has = absurd (not_in_empty key has)
from_different (first ∷ keys) key has = elim (in_front_or_rest first (filter (λ other. not (eqb other first)) (different keys)) key has) [
  | inl later ↦ in_rest first keys key (from_different keys key (from_filter (λ other. not (eqb other first)) (different keys) key later).0)
  | inr is ↦ in_front first keys key is
]
