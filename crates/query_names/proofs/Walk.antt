-- Lemmas for loops over lists of a syntax tree: the remaining items, and the offences of these items.
use Rattle.std.proofs.Common.{◌≡◌, ℕ, add-one, ◌+◌, ◌<◌, List, [], ◌∷◌, ◌++◌, length, map, take, drop, get_or, Option, Some, None, ap, subst, sym, ◌∙◌, refl}
use Rattle.std.proofs.Math.Seq.{drop-cons}
use Rattle.std.proofs.lemmas.List.{take_more, map-append}
use Rattle.query_grammar.specs.declared.tree.SourceNode.{SourceNode}
use Rattle.schema_types.specs.declared.types.Schema.{Schema}
use Rattle.query_types.specs.declared.types.Source.{Source}
use Rattle.query_names.specs.declared.errors.QueryError.{QueryError}
use Rattle.query_names.specs.declared.errors.QueryError.TheVariants as error
use Rattle.query_names.specs.Answers.{first}
use Rattle.query_names.specs.Answers.{IsNameError, or_first}
use Rattle.query_names.specs.Names.{source_offences, offences_of_later_sources, alias_of, entry_of}

pub rest_at : {A : Type 0} (xs : List A) (i : ℕ) (d : A) → i < length xs → drop i xs ≡ get_or xs i d ∷ drop (i + 1) xs
rest_at xs i d below = rw add-one (drop-cons xs i d below)

pub map_more : {A B : Type 0} (f : A → B) (xs : List A) (i : ℕ) (d : A) (old new : List B) (one : B)
    → i < length xs → old ≡ map f (take i xs) → one ≡ f (get_or xs i d) → new ≡ old ++ one ∷ [] → new ≡ map f (take (i + 1) xs)
map_more f xs i d old new one below so_far is pushed =
    pushed ∙ ap (λ l. l ++ one ∷ []) so_far ∙ ap (λ y. map f (take i xs) ++ y ∷ []) is
    ∙ sym (map-append f (take i xs) (get_or xs i d ∷ [])) ∙ ap (map f) (sym (take_more xs i d below))

pub map_push : {A B : Type 0} (f : A → B) (old new : List A) (images images' : List B) (one : A)
    → images ≡ map f old → images' ≡ images ++ f one ∷ [] → new ≡ old ++ one ∷ [] → images' ≡ map f new
map_push f old new images images' one are more pushed =
    more ∙ ap (λ l. l ++ f one ∷ []) are ∙ sym (map-append f old (one ∷ [])) ∙ ap (map f) (sym pushed)

pub no_offence_here : (schema : Schema) (text : List ℕ) (sources : List SourceNode) (whole : List ℕ) (earlier earlier' : List (List ℕ)) (i : ℕ) (d : SourceNode) (one : Source)
    → i < length sources → whole ≡ offences_of_later_sources schema text earlier (drop i sources)
    → (one ≡ entry_of schema text (get_or sources i d)) × (earlier' ≡ earlier ++ one.alias ∷ []) × (source_offences schema text earlier (get_or sources i d) ≡ [])
    → whole ≡ offences_of_later_sources schema text earlier' (drop (i + 1) sources)
no_offence_here schema text sources whole earlier earlier' i d one below left is =
    let rest : List (List ℕ) → List ℕ = λ aliases. offences_of_later_sources schema text aliases (drop (i + 1) sources) in
    left
    ∙ ap (offences_of_later_sources schema text earlier) (rest_at sources i d below)
    ∙ ap (λ here. here ++ rest (earlier ++ alias_of schema text (get_or sources i d) ∷ [])) is.2
    ∙ ap (λ alias. rest (earlier ++ alias ∷ [])) (sym (ap (λ entry. entry.alias) is.0))
    ∙ ap rest (sym is.1)

-- ---- the first offence of two lists, one after the other

pub first-append : (xs ys : List ℕ) (n : ℕ) → first xs ≡ Some n → first (xs ++ ys) ≡ Some n
first-append [] ys n is = cc
first-append (x ∷ xs) ys n is = is

pub name_error_append : (xs ys : List ℕ) (e : QueryError) → IsNameError xs e → IsNameError (xs ++ ys) e
name_error_append xs ys (error.Name place) wrong = first-append xs ys place wrong
name_error_append xs ys error.NoMemory wrong = tt
name_error_append xs ys (error.Syntax place) wrong = wrong
name_error_append xs ys (error.Kind place) wrong = wrong
name_error_append xs ys (error.Limit which n) wrong = wrong

pub or_first_append : (found : Option ℕ) (xs ys : List ℕ) → or_first found (xs ++ ys) ≡ or_first (or_first found xs) ys
or_first_append (Some n) xs ys = refl
or_first_append None [] ys = refl
or_first_append None (x ∷ xs) ys = refl

pub or_first-nil : (found : Option ℕ) → or_first found [] ≡ found
or_first-nil (Some n) = refl
or_first-nil None = refl

pub none_before : (found : Option ℕ) (xs : List ℕ) → or_first found xs ≡ None → found ≡ None
none_before (Some n) xs none = absurd cc
none_before None xs none = refl

pub error_after : (xs ys : List ℕ) (e : QueryError) → xs ≡ [] → IsNameError ys e → IsNameError (xs ++ ys) e
error_after xs ys e none wrong = subst (λ l. IsNameError (l ++ ys) e) (sym none) wrong
