-- A check walks a list and returns the first byte offset or number that it finds. f lists the offsets or numbers of an element.
use Rattle.std.proofs.Common.{◌≡◌, ℕ, suc, ◌+◌, ◌<◌, List, [], ◌∷◌, ◌++◌, length, get_or, take, drop, Option, Some, None, Err, refl, sym, ◌∙◌, ap}
use Rattle.std.specs.List.{flat_map}
use Rattle.std.specs.Option.{option_map, unwrap_or}
use Rattle.std.proofs.Math.Seq.{drop-cons}
use Rattle.std.proofs.lemmas.List.{take-append-drop, take_more}
use Rattle.std.proofs.lemmas.List.Concat.{flat_map-append}
use Rattle.ll_grammars.specs.declared.lexeme.Lexeme.{Lexeme}
use Rattle.schema_types.specs.declared.errors.LimitKind.{LimitKind}
use Rattle.schema_types.specs.declared.errors.SchemaError.{SchemaError}
use Rattle.schema_types.specs.declared.errors.SchemaError.TheVariants as error
use Rattle.schema_types.specs.Finds.{FindsNullable, FindsAbove}
use Rattle.schema_types.specs.Names.{first, names_of}
use Rattle.schema_types.specs.Refusals.{key_names, in_64_bits}

pub first-append : (front rest : List ℕ) (at : ℕ) → first front ≡ Some at → first (front ++ rest) ≡ Some at
first-append [] rest at e = cc
first-append (x ∷ front) rest at e = e

first-map-append : (g : ℕ → ℕ) (front rest : List ℕ) (at : ℕ) → option_map g (first front) ≡ Some at → option_map g (first (front ++ rest)) ≡ Some at
first-map-append g [] rest at e = cc
first-map-append g (x ∷ front) rest at e = e

pub flat_more : {X : Type 0} (f : X → List ℕ) (xs : List X) (i : ℕ) (x : X) → i < length xs → x ≡ get_or xs i x → flat_map f (take i xs) ≡ [] → f x ≡ [] → flat_map f (take (i + 1) xs) ≡ []
flat_more f xs i x within here clean none =
    let longer : take (i + 1) xs ≡ take i xs ++ x ∷ [] = take_more xs i x within ∙ ap (λ y. take i xs ++ y ∷ []) (sym here) in
    rw (longer, flat_map-append f (take i xs) (x ∷ []), clean, none) refl

flat_at : {X : Type 0} (f : X → List ℕ) (xs : List X) (i : ℕ) (x : X) → i < length xs → x ≡ get_or xs i x → flat_map f (take i xs) ≡ [] → flat_map f xs ≡ f x ++ flat_map f (drop (suc i) xs)
flat_at f xs i x within here clean =
    let cut : xs ≡ take i xs ++ (x ∷ drop (suc i) xs) = sym (take-append-drop i xs) ∙ ap (λ tail. take i xs ++ tail) (drop-cons xs i x within ∙ ap (λ y. y ∷ drop (suc i) xs) (sym here)) in
    ap (flat_map f) cut ∙ flat_map-append f (take i xs) (x ∷ drop (suc i) xs) ∙ ap (λ front. front ++ (f x ++ flat_map f (drop (suc i) xs))) clean

pub nullable_first : {X : Type 0} (f : X → List ℕ) (xs : List X) (i : ℕ) (x : X) (e : SchemaError) → i < length xs → x ≡ get_or xs i x → flat_map f (take i xs) ≡ [] → FindsNullable {A = Unit {0}} (Err e) (f x) → FindsNullable {A = Unit {0}} (Err e) (flat_map f xs)
nullable_first f xs i x (error.Nullable at) within here clean found = rw (flat_at f xs i x within here clean) (first-append (f x) (flat_map f (drop (suc i) xs)) at found)
nullable_first f xs i x error.NoMemory within here clean found = tt
nullable_first f xs i x (error.Syntax at) within here clean found = found
nullable_first f xs i x (error.Name at) within here clean found = found
nullable_first f xs i x (error.Limit which n) within here clean found = found

pub above_first : {X : Type 0} (limit : LimitKind) (f : X → List ℕ) (xs : List X) (i : ℕ) (x : X) (e : SchemaError) → i < length xs → x ≡ get_or xs i x → flat_map f (take i xs) ≡ [] → FindsAbove {A = Unit {0}} limit (Err e) (f x) → FindsAbove {A = Unit {0}} limit (Err e) (flat_map f xs)
above_first limit f xs i x (error.Limit which n) within here clean found =
    (found.0, rw (flat_at f xs i x within here clean) (first-map-append in_64_bits (f x) (flat_map f (drop (suc i) xs)) n found.1))
above_first limit f xs i x error.NoMemory within here clean found = tt
above_first limit f xs i x (error.Syntax at) within here clean found = found
above_first limit f xs i x (error.Name at) within here clean found = found
above_first limit f xs i x (error.Nullable at) within here clean found = found

pub key_is : (text : List ℕ) (key : Option (List Lexeme)) → unwrap_or (option_map (names_of text) key) [] ≡ key_names text key
key_is text None = refl
key_is text (Some key) = refl
