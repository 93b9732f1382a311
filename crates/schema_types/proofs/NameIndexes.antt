-- The index of a name in a list (`index_of_name`): how it changes when a name is added at the end, and that it is less than the list's length.
use Rattle.std.proofs.Common.{◌≡◌, ℕ, ◌+◌, ◌<◌, Bool, true, false, cond, ◌||◌, List, [], ◌∷◌, ◌++◌, length, Option, Some, None, is_some, is_none, refl, sym, ◌∙◌, ap, subst, inl, inr, arith}
use Rattle.std.proofs.lemmas.Bool.{cases_Bool}
use Rattle.std.specs.Option.{option_map}
use Rattle.std.specs.Str.{bytes_eq}
use Rattle.std.proofs.lemmas.Slice.Eq.{bytes_eq-Decides}
use Rattle.schema_types.specs.Names.{index_of_name, index_after_push}
use Rattle.schema_types.specs.Offences.{is_one_of}

or_last_shift : (o : Option ℕ) (count : ℕ) (same : Bool) → option_map (λ place. place + 1) (index_after_push o count same) ≡ index_after_push (option_map (λ place. place + 1) o) (count + 1) same
or_last_shift (Some place) count same = refl
or_last_shift None count true = refl
or_last_shift None count false = refl

or_last_cond : (b : Bool) (o : Option ℕ) (count : ℕ) (same : Bool) → cond b (Some 0) (option_map (λ place. place + 1) (index_after_push o count same)) ≡ index_after_push (cond b (Some 0) (option_map (λ place. place + 1) o)) (count + 1) same
or_last_cond true o count same = refl
or_last_cond false o count same = or_last_shift o count same

pub index_of_name-append : (names : List (List ℕ)) (last name : List ℕ) → index_of_name (names ++ last ∷ []) name ≡ index_after_push (index_of_name names name) (length names) (bytes_eq name last)
unfolding index_of_name
index_of_name-append [] last name = refl
index_of_name-append (other ∷ names) last name =
    let count : length (other ∷ names) ≡ length names + 1 = omega arith in
    rw count (ap (λ o. cond (bytes_eq name other) (Some 0) (option_map (λ place. place + 1) o)) (index_of_name-append names last name)
    ∙ or_last_cond (bytes_eq name other) (index_of_name names name) (length names) (bytes_eq name last))

same_tests : (a b : Bool) → (a ≡ true → b ≡ true) → (b ≡ true → a ≡ true) → a ≡ b
same_tests true true f g = refl
same_tests true false f g = sym (f refl)
same_tests false true f g = g refl
same_tests false false f g = refl

pub bytes_eq-comm : (a b : List ℕ) → bytes_eq a b ≡ bytes_eq b a
bytes_eq-comm a b = same_tests (bytes_eq a b) (bytes_eq b a)
    (λ e. (bytes_eq-Decides b a).1 (sym ((bytes_eq-Decides a b).0 e)))
    (λ e. (bytes_eq-Decides a b).1 (sym ((bytes_eq-Decides b a).0 e)))

not_last : (o : Option ℕ) (last : ℕ) → o ≡ index_after_push o last false
not_last (Some place) last = refl
not_last None last = refl

is_last : (o : Option ℕ) (last : ℕ) → is_none o ≡ true → Some last ≡ index_after_push o last true
is_last (Some place) last none = cc
is_last None last none = refl

pub place_added : (f : List ℕ → Option ℕ) (name other : List ℕ) (last : ℕ) → is_none (f name) ≡ true → cond (bytes_eq name other) (Some last) (f other) ≡ index_after_push (f other) last (bytes_eq other name)
place_added f name other last none = elim (cases_Bool (bytes_eq name other)) [
  | inl e ↦
      let same : bytes_eq other name ≡ true = sym (bytes_eq-comm name other) ∙ e in
      rw (e, same) (is_last (f other) last (subst (λ (n : List ℕ). is_none (f n) ≡ true) ((bytes_eq-Decides name other).0 e) none))
  | inr e ↦
      let other_one : bytes_eq other name ≡ false = sym (bytes_eq-comm name other) ∙ e in
      rw (e, other_one) (not_last (f other) last)
]

pub place_pushed : (old new : List (List ℕ)) (last name : List ℕ) (count : ℕ) (before after : Option ℕ) → new ≡ old ++ last ∷ [] → count ≡ length old → before ≡ index_of_name old name → after ≡ index_after_push before count (bytes_eq name last) → after ≡ index_of_name new name
place_pushed old new last name count before after grown counted stood stands = cc (index_of_name-append old last name)

pub is_one_of_by_index : (names : List (List ℕ)) (name : List ℕ) → is_some (index_of_name names name) ≡ is_one_of name names
unfolding index_of_name
is_one_of_by_index [] name = refl
is_one_of_by_index (other ∷ names) name = by_test (bytes_eq name other) (index_of_name names name) (is_one_of name names) (is_one_of_by_index names name)
  where
    by_test : (same : Bool) (place : Option ℕ) (stands : Bool) → is_some place ≡ stands → is_some (cond same (Some 0) (option_map (λ n. n + 1) place)) ≡ (same || stands)
    by_test true place stands e = refl
    by_test false (Some place) stands e = e
    by_test false None stands e = e

pub place_of_within : (names : List (List ℕ)) (name : List ℕ) (place : ℕ) → index_of_name names name ≡ Some place → place < length names
unfolding index_of_name
place_of_within [] name place e = cc
place_of_within (other ∷ names) name place e = by_test (bytes_eq name other) (index_of_name names name) (place_of_within names name) e
  where
    by_test : (same : Bool) (o : Option ℕ) → ((p : ℕ) → o ≡ Some p → p < length names) → cond same (Some 0) (option_map (λ n. n + 1) o) ≡ Some place → place < length (other ∷ names)
    by_test true o inside h = let p : 0 ≡ place = cc in omega (arith, p)
    by_test false None inside h = cc
    by_test false (Some n) inside h = let p : n + 1 ≡ place = cc in omega (arith, p, inside n refl)
