-- A check walks a list and returns the first offence. f gives the offences of an element, and may look at the elements before it.
use Rattle.std.proofs.Common.{◌≡◌, ℕ, suc, ◌+◌, ◌<◌, List, [], ◌∷◌, ◌++◌, length, get_or, take, drop, Err, refl, sym, ◌∙◌, ap, append_assoc}
use Rattle.std.proofs.Math.Seq.{drop-cons}
use Rattle.std.proofs.lemmas.List.{take-append-drop, append-nil, take_more}
use Rattle.schema_types.proofs.Flat.{first-append}
use Rattle.schema_types.specs.declared.errors.SchemaError.{SchemaError}
use Rattle.schema_types.specs.declared.errors.SchemaError.TheVariants as error
use Rattle.schema_types.specs.Finds.{IsNameCheckOf}
use Rattle.schema_types.specs.Names.{flat_map_with_earlier, flat_map_with_all_earlier}

flat_map_with_earlier-append : {X : Type 0} (f : List X → X → List ℕ) (earlier xs ys : List X) → flat_map_with_earlier f earlier (xs ++ ys) ≡ flat_map_with_earlier f earlier xs ++ flat_map_with_earlier f (earlier ++ xs) ys
unfolding flat_map_with_earlier
flat_map_with_earlier-append f earlier [] ys = rw append-nil refl
flat_map_with_earlier-append f earlier (x ∷ xs) ys =
    ap (λ found. f earlier x ++ found) (rw (append_assoc earlier (x ∷ []) xs) at (flat_map_with_earlier-append f (earlier ++ x ∷ []) xs ys))
    ∙ sym (append_assoc (f earlier x) (flat_map_with_earlier f (earlier ++ x ∷ []) xs) (flat_map_with_earlier f (earlier ++ x ∷ xs) ys))

with_earlier_cons : {X : Type 0} (f : List X → X → List ℕ) (earlier : List X) (x : X) (rest : List X) → flat_map_with_earlier f earlier (x ∷ rest) ≡ f earlier x ++ flat_map_with_earlier f (earlier ++ x ∷ []) rest
unfolding flat_map_with_earlier
with_earlier_cons f earlier x rest = refl

pub check_none : {X : Type 0} (f : List X → X → List ℕ) → flat_map_with_all_earlier f [] ≡ []
unfolding flat_map_with_earlier
check_none f = refl

check_at : {X : Type 0} (f : List X → X → List ℕ) (xs : List X) (i : ℕ) (x : X) → i < length xs → x ≡ get_or xs i x → flat_map_with_all_earlier f (take i xs) ≡ [] → (rest : List ℕ) × (flat_map_with_all_earlier f xs ≡ f (take i xs) x ++ rest)
check_at f xs i x within here clean =
    let cut : xs ≡ take i xs ++ (x ∷ drop (suc i) xs) = sym (take-append-drop i xs) ∙ ap (λ tail. take i xs ++ tail) (drop-cons xs i x within ∙ ap (λ y. y ∷ drop (suc i) xs) (sym here)) in
    let parts : flat_map_with_all_earlier f xs ≡ flat_map_with_all_earlier f (take i xs) ++ (f (take i xs) x ++ flat_map_with_earlier f (take i xs ++ x ∷ []) (drop (suc i) xs)) =
    ap (flat_map_with_all_earlier f) cut ∙ flat_map_with_earlier-append f [] (take i xs) (x ∷ drop (suc i) xs) ∙ ap (λ found. flat_map_with_all_earlier f (take i xs) ++ found) (with_earlier_cons f (take i xs) x (drop (suc i) xs)) in
    (flat_map_with_earlier f (take i xs ++ x ∷ []) (drop (suc i) xs), rw clean at parts)

pub check_more : {X : Type 0} (f : List X → X → List ℕ) (xs : List X) (i : ℕ) (x : X) → i < length xs → x ≡ get_or xs i x → flat_map_with_all_earlier f (take i xs) ≡ [] → f (take i xs) x ≡ [] → flat_map_with_all_earlier f (take (i + 1) xs) ≡ []
unfolding flat_map_with_earlier
check_more f xs i x within here clean none =
    let longer : take (i + 1) xs ≡ take i xs ++ x ∷ [] = take_more xs i x within ∙ ap (λ y. take i xs ++ y ∷ []) (sym here) in
    let parts : flat_map_with_all_earlier f (take (i + 1) xs) ≡ flat_map_with_all_earlier f (take i xs) ++ (f (take i xs) x ++ flat_map_with_earlier f (take i xs ++ x ∷ []) []) =
    ap (flat_map_with_all_earlier f) longer ∙ flat_map_with_earlier-append f [] (take i xs) (x ∷ []) ∙ ap (λ found. flat_map_with_all_earlier f (take i xs) ++ found) (with_earlier_cons f (take i xs) x []) in
    rw (clean, none) at parts

pub check_first : {X : Type 0} (f : List X → X → List ℕ) (xs : List X) (i : ℕ) (x : X) (e : SchemaError) → i < length xs → x ≡ get_or xs i x → flat_map_with_all_earlier f (take i xs) ≡ [] → IsNameCheckOf {A = Unit {0}} (Err e) (f (take i xs) x) → IsNameCheckOf {A = Unit {0}} (Err e) (flat_map_with_all_earlier f xs)
check_first f xs i x (error.Name at) within here clean found = let t = check_at f xs i x within here clean in rw t.1 (first-append (f (take i xs) x) t.0 at found)
check_first f xs i x error.NoMemory within here clean found = tt
check_first f xs i x (error.Syntax at) within here clean found = found
check_first f xs i x (error.Nullable at) within here clean found = found
check_first f xs i x (error.Limit which n) within here clean found = found
