-- The line of an error is written piece by piece: `error`, words with a blank before each, and the line end.
use Rattle.std.proofs.Common.{◌≡◌, ℕ, List, ◌∷◌, ◌++◌, map, ap, sym, ◌∙◌}
use Rattle.std.specs.Prelude.{codes}
use Rattle.std.specs.List.{flat_map}
use Rattle.std.proofs.lemmas.Grind.{flat_map-append}
use Rattle.std.proofs.lemmas.List.Concat.{flat_map-cons}
use Rattle.std.proofs.lemmas.List.Folds.{flat_map-map}
use denote.Bor.{Bor}
use Rattle.printed_texts.specs.Faults.{after_blank, error_line}

pub line_is : (words : List (List ℕ)) (parts : List ℕ) → parts ≡ flat_map after_blank words → codes "error" ++ (parts ++ codes "\n") ≡ error_line words
unfolding error_line
line_is words parts e = ap (λ x. codes "error" ++ (x ++ codes "\n")) e

abbrev pub words_now : List (Bor (List ℕ)) → List (List ℕ)
words_now words = map (λ w. w.now) words

abbrev pub word_parts : List (Bor (List ℕ)) → List ℕ
word_parts words = flat_map (λ w. after_blank w.now) words

pub words_are : (words : List (Bor (List ℕ))) → word_parts words ≡ flat_map after_blank (words_now words)
words_are words = sym (flat_map-map after_blank (λ (w : Bor (List ℕ)). w.now) words)

pub about_are : (words more : List (Bor (List ℕ))) (file : List ℕ)
    → word_parts words ++ (after_blank file ++ word_parts more) ≡ flat_map after_blank (words_now words ++ (file ∷ words_now more))
about_are words more file =
    ap (λ x. x ++ (after_blank file ++ word_parts more)) (words_are words)
    ∙ ap (λ x. flat_map after_blank (words_now words) ++ (after_blank file ++ x)) (words_are more)
    ∙ ap (λ x. flat_map after_blank (words_now words) ++ x) (sym (flat_map-cons after_blank file (words_now more)))
    ∙ sym (flat_map-append after_blank (words_now words) (file ∷ words_now more))
