-- Steps of the loop that looks for a table's primary key: the first primary key that an element declares.
use Rattle.std.proofs.Common.{◌≡◌, ℕ, suc, ◌+◌, ◌<◌, true, false, List, [], ◌∷◌, ◌++◌, length, get_or, take, drop, is_some, refl, sym, ◌∙◌, ap}
use Rattle.std.specs.List.{flat_map}
use Rattle.std.specs.Option.{option_map}
use Rattle.std.proofs.Math.Seq.{drop-cons}
use Rattle.std.proofs.lemmas.List.{take-append-drop, take_more}
use Rattle.std.proofs.lemmas.List.Concat.{flat_map-append}
use Rattle.schema_types.specs.Names.{first}

none_first : {A B : Type 0} (g : A → B) (xs : List A) → is_some (option_map g (first xs)) ≡ false → xs ≡ []
none_first g [] e = refl
none_first g (x ∷ xs) e = cc

some_first : {A B : Type 0} (g : A → B) (front rest : List A) → is_some (option_map g (first front)) ≡ true → option_map g (first (front ++ rest)) ≡ option_map g (first front)
some_first g [] rest e = cc
some_first g (x ∷ xs) rest e = refl

pub no_key : {X A B : Type 0} (f : X → List A) (g : A → B) (xs : List X) (i : ℕ) (x : X) → flat_map f (take i xs) ≡ [] → i < length xs → x ≡ get_or xs i x → is_some (option_map g (first (f x))) ≡ false → flat_map f (take (i + 1) xs) ≡ []
no_key f g xs i x none within here last =
    let longer : take (i + 1) xs ≡ take i xs ++ x ∷ [] = take_more xs i x within ∙ ap (λ y. take i xs ++ y ∷ []) (sym here) in
    rw (longer, flat_map-append f (take i xs) (x ∷ []), none, none_first g (f x) last) refl

pub key_found : {X A B : Type 0} (f : X → List A) (g : A → B) (xs : List X) (i : ℕ) (x : X) → flat_map f (take i xs) ≡ [] → i < length xs → x ≡ get_or xs i x → is_some (option_map g (first (f x))) ≡ true → option_map g (first (f x)) ≡ option_map g (first (flat_map f xs))
key_found f g xs i x none within here found =
    let cut : xs ≡ take i xs ++ (x ∷ drop (suc i) xs) = sym (take-append-drop i xs) ∙ ap (λ tail. take i xs ++ tail) (drop-cons xs i x within ∙ ap (λ y. y ∷ drop (suc i) xs) (sym here)) in
    let whole : flat_map f xs ≡ f x ++ flat_map f (drop (suc i) xs) = ap (flat_map f) cut ∙ flat_map-append f (take i xs) (x ∷ drop (suc i) xs) ∙ ap (λ front. front ++ (f x ++ flat_map f (drop (suc i) xs))) none in
    sym (ap (λ all. option_map g (first all)) whole ∙ some_first g (f x) (flat_map f (drop (suc i) xs)) found)
