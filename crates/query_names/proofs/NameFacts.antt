-- A step of a loop that adds the names of a list's items.
use Rattle.std.proofs.Common.{◌≡◌, ℕ, ◌+◌, ◌<◌, List, [], ◌∷◌, ◌++◌, length, map, take, get_or, ap, sym, ◌∙◌, arith}
use Rattle.std.proofs.lemmas.List.{get_or-map, length-map, take_more}

pub one_more_name : {A : Type 0} (name : A → List ℕ) (xs : List A) {items : List A} {i : ℕ} {x : A} {given : List ℕ} {old new : List (List ℕ)}
    → items ≡ xs → i < length items → x ≡ get_or items i x → given ≡ name x → old ≡ take i (map name xs) → new ≡ old ++ given ∷ []
    → new ≡ take (i + 1) (map name xs)
one_more_name name xs {items} {i} {x} {given} {old} {new} all below item named so_far one =
    let names : List (List ℕ) = map name xs in
    let within : i < length xs = rw (← all) below in
    let within_names : i < length names = omega (arith, length-map xs name) in
    let here : get_or names i [] ≡ given = get_or-map name xs i x [] within ∙ ap name (ap (λ l. get_or l i x) (sym all) ∙ sym item) ∙ sym named in
    one ∙ ap (λ l. l ++ given ∷ []) so_far ∙ ap (λ y. take i names ++ y ∷ []) (sym here) ∙ sym (take_more names i [] within_names)
