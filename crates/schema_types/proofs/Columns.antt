-- Steps of the loop that collects the columns of a table from its elements.
use Rattle.std.proofs.Common.{◌≡◌, ℕ, ◌+◌, ◌<◌, List, [], ◌∷◌, ◌++◌, length, get_or, take, map, sym, ◌∙◌, ap}
use Rattle.std.proofs.lemmas.List.{take_more, map-append}
use Rattle.std.proofs.lemmas.List.Concat.{flat_map-append}
use Rattle.schema_grammar.specs.declared.tree.Element.{Element}
use Rattle.schema_types.specs.Declarations.{column_names}
use Rattle.schema_types.specs.Validity.{upper_case}

pub taken_more : (text : List ℕ) (elements : List Element) (i : ℕ) (x : Element) (taken next : List (List ℕ)) → i < length elements → x ≡ get_or elements i x → taken ≡ map upper_case (column_names text (take i elements)) → next ≡ taken ++ map upper_case (column_names text (x ∷ [])) → next ≡ map upper_case (column_names text (take (i + 1) elements))
taken_more text elements i x taken next within here so_far more =
    let longer : take (i + 1) elements ≡ take i elements ++ x ∷ [] = take_more elements i x within ∙ ap (λ y. take i elements ++ y ∷ []) (sym here) in
    rw (more, so_far, longer) (simp (flat_map-append, map-append))
