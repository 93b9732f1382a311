-- All elements of `xs ++ ys` have a property exactly if all elements of `xs` and all elements of `ys` have it.
use Rattle.std.proofs.Common.{◌≡◌, ◌⊎◌, inl, inr, ℕ, zero, suc, ◌<◌, List, [], ◌∷◌, ◌++◌, length, length-append, get_or, map, refl, ap, sym, subst, ◌∙◌, arith, Option, Some}
use Rattle.std.specs.Prelude.{All, AllPairs, slice_get}
use Rattle.std.proofs.lemmas.List.{get_or_append_left}
use Rattle.std.proofs.lemmas.Option.{get_or_from_slice_get, slice_get-get_or, slice_get_within}

pub all_left : {X : Type 0} (P : X → Type 0) (xs ys : List X) → All P (xs ++ ys) → All P xs
all_left P xs ys h k d lt =
    let len = length-append xs ys in
    subst P (get_or_append_left xs ys d k lt) (h k d (omega arith))

pub at_seam : {X : Type 0} (xs : List X) (y : X) (ys : List X) (d : X) → get_or (xs ++ y ∷ ys) (length xs) d ≡ y
at_seam [] y ys d = refl
at_seam (x ∷ xs) y ys d = at_seam xs y ys d

pub all_at_seam : {X : Type 0} (P : X → Type 0) (xs : List X) (y : X) (ys : List X) → All P (xs ++ y ∷ ys) → P y
all_at_seam P xs y ys h =
    let len = length-append xs (y ∷ ys) in
    subst P (at_seam xs y ys y) (h (length xs) y (omega arith))

pub all_pushed : {X : Type 0} (P : X → Type 0) (xs : List X) (y : X) → All P xs → P y → All P (xs ++ y ∷ [])
all_pushed P [] y h here zero d lt = here
all_pushed P [] y h here (suc k) d lt = absurd (omega arith)
all_pushed P (x ∷ xs) y h here zero d lt = h 0 d (omega arith)
all_pushed P (x ∷ xs) y h here (suc k) d lt = all_pushed P xs y (λ j e less. h (suc j) e (omega arith)) here k d (omega arith)

pub pairs_front : {X : Type 0} (R : X → X → Type 0) (xs ys : List X) → AllPairs R (xs ++ ys) → AllPairs R xs
pairs_front R xs ys h i j d less lt =
    let len = length-append xs ys in
    let at_i : i < length xs = omega arith in
    subst (λ x. R x (get_or xs j d)) (get_or_append_left xs ys d i at_i)
    (subst (λ y. R (get_or (xs ++ ys) i d) y) (get_or_append_left xs ys d j lt) (h i j d less (omega arith)))

pub pairs_at_seam : {X : Type 0} (R : X → X → Type 0) (xs : List X) (y : X) (ys : List X) → AllPairs R (xs ++ y ∷ ys) → All (λ x. R x y) xs
pairs_at_seam R xs y ys h k d lt =
    let len = length-append xs (y ∷ ys) in
    subst (λ x. R x y) (get_or_append_left xs (y ∷ ys) d k lt)
    (subst (λ z. R (get_or (xs ++ y ∷ ys) k d) z) (at_seam xs y ys d) (h k (length xs) d lt (omega arith)))

pub get_at_seam : {X : Type 0} (xs : List X) (y : X) (ys : List X) → slice_get (xs ++ y ∷ ys) (length xs) ≡ Some y
get_at_seam xs y ys =
    let len = length-append xs (y ∷ ys) in
    slice_get-get_or (xs ++ y ∷ ys) (length xs) y (omega arith) ∙ ap Some (at_seam xs y ys y)

pub all_at : {X : Type 0} (P : X → Type 0) (xs : List X) (i : ℕ) (x : X) → All P xs → slice_get xs i ≡ Some x → P x
all_at P xs i x h is = subst P (get_or_from_slice_get xs i x x is) (h i x (slice_get_within xs i x is))

pub both_some_same : {X : Type 0} (x y : X) (a : Option X) → a ≡ Some x → a ≡ Some y → x ≡ y
both_some_same x y a e f = cc

pub map_length : {X Y : Type 0} (f : X → Y) (xs : List X) → length (map f xs) ≡ length xs
map_length f [] = refl
map_length f (x ∷ xs) = ap suc (map_length f xs)

pub get_map : {X Y : Type 0} (f : X → Y) (xs : List X) (i : ℕ) (x : X) → slice_get xs i ≡ Some x → slice_get (map f xs) i ≡ Some (f x)
get_map f [] i x is = absurd (cc)
get_map f (z ∷ xs) zero x is = let same : z ≡ x = cc in ap (λ y. Some (f y)) same
get_map f (z ∷ xs) (suc i) x is = get_map f xs i x is

pub map_get : {X Y : Type 0} (f : X → Y) (xs : List X) (i : ℕ) (y : Y) → slice_get (map f xs) i ≡ Some y → (x : X) × (slice_get xs i ≡ Some x) × (f x ≡ y)
map_get f [] i y is = absurd (cc)
map_get f (z ∷ xs) zero y is = let same : f z ≡ y = cc in (z, refl, same)
map_get f (z ∷ xs) (suc i) y is = map_get f xs i y is

-- ---- lines that begin with one line for each element of a list

pub record FromMap {X : Type 0} (f : X → List ℕ) (xs : List X) (line : List ℕ) (more after : List (List ℕ)) : Type 0 where
  pub head : X
  pub rest : List X
  pub xs_are : xs ≡ head ∷ rest
  pub line_is : line ≡ f head
  pub more_are : more ≡ map f rest ++ after

pub first_line_of : {X : Type 0} (f : X → List ℕ) (xs : List X) (line : List ℕ) (more after : List (List ℕ)) → line ∷ more ≡ map f xs ++ after
    → FromMap f xs line more after ⊎ ((xs ≡ []) × (line ∷ more ≡ after))
first_line_of f [] line more after e = inr (refl, e)
first_line_of f (x ∷ xs) line more after e = inl (record { head = x; rest = xs; xs_are = refl; line_is = cc; more_are = cc })

pub append_empty : {X : Type 0} (xs ys : List X) → [] ≡ xs ++ ys → (xs ≡ []) × (ys ≡ [])
append_empty [] ys e = (refl, sym e)
append_empty (x ∷ xs) ys e = absurd (cc)
