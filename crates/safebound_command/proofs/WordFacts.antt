-- If the word at an index isn't UTF-8, then some word of the call isn't UTF-8 (`Any`).
use Rattle.std.proofs.Common.{ℕ, ◌<◌, List, map, length, get_or}
use Rattle.std.specs.Borrow.{Bor}
use Rattle.std.specs.List.{Any}
use Rattle.std.specs.Str.{IsUtf8}
use Rattle.std.proofs.lemmas.List.{get_or-map, length-map}

pub word_at_index_is_no_text : (words : List (Bor (List ℕ))) (i : ℕ) (d : Bor (List ℕ)) → i < length words → ¬ (IsUtf8 (get_or words i d).now)
    → Any (λ word. ¬ (IsUtf8 word)) (map (λ (w : Bor (List ℕ)). w.now) words)
word_at_index_is_no_text words i d within wrong =
    (i, (get_or words i d).now, rw length-map within, get_or-map (λ (w : Bor (List ℕ)). w.now) words i d (get_or words i d).now within, wrong)
