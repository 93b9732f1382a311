-- Texts that go through a buffer to a sink, one after another. If no write fails, the sink takes all but the last bytes, which wait in the buffer. If
-- a write fails, the sink has taken a prefix.
use Rattle.std.proofs.Common.{◌≡◌, ℕ, ◌+◌, ◌<◌, List, [], ◌∷◌, ◌++◌, take, length, get_or, Option, ap, sym, ◌∙◌, append_assoc, append-nil}
use Rattle.std.specs.List.{flat_map}
use Rattle.std.proofs.lemmas.Grind.{flat_map-append}
use Rattle.std.proofs.lemmas.List.{take_more}
use Rattle.base_io.specs.Sinks.{appended, GrewByPrefix, TookBut}
use Rattle.base_io.proofs.SinkFacts.{appended-appended}

pub took_both_texts : (old mid new : Option (List ℕ)) (first second text more : List ℕ)
    → TookBut old mid first text → TookBut mid new second (first ++ more) → TookBut old new second (text ++ more)
took_both_texts old mid new first second text more h k = record {
  front = h.front ++ k.front;
  whole = append_assoc h.front k.front second ∙ ap (λ x. h.front ++ x) k.whole ∙ sym (append_assoc h.front first more)
      ∙ ap (λ x. x ++ more) h.whole;
  grew = k.grew ∙ ap (λ t. appended t k.front) h.grew ∙ appended-appended old h.front k.front;
}

pub prefix_if_second_fails : (old mid new : Option (List ℕ)) (first text more : List ℕ)
    → TookBut old mid first text → GrewByPrefix mid new (first ++ more) → GrewByPrefix old new (text ++ more)
prefix_if_second_fails old mid new first text more h k = record {
  front = h.front ++ k.front;
  rest = k.rest;
  whole = append_assoc h.front k.front k.rest ∙ ap (λ x. h.front ++ x) k.whole ∙ sym (append_assoc h.front first more)
      ∙ ap (λ x. x ++ more) h.whole;
  grew = k.grew ∙ ap (λ t. appended t k.front) h.grew ∙ appended-appended old h.front k.front;
}

pub append_next_part : {X : Type 0} (f : X → List ℕ) (parts : List X) (i : ℕ) (d : X) → i < length parts
    → flat_map f (take i parts) ++ f (get_or parts i d) ≡ flat_map f (take (i + 1) parts)
append_next_part f parts i d lt =
    ap (λ x. flat_map f (take i parts) ++ x) (sym (append-nil (f (get_or parts i d))))
    ∙ sym (flat_map-append f (take i parts) (get_or parts i d ∷ [])) ∙ ap (flat_map f) (sym (take_more parts i d lt))

pub took_all_after_flush : (old mid new : Option (List ℕ)) (waiting text : List ℕ) → TookBut old mid waiting text → new ≡ appended mid waiting → new ≡ appended old text
took_all_after_flush old mid new waiting text h whole =
    whole ∙ ap (λ t. appended t waiting) h.grew ∙ appended-appended old h.front waiting ∙ ap (appended old) h.whole

pub prefix_if_flush_fails : (old mid new : Option (List ℕ)) (waiting text : List ℕ) → TookBut old mid waiting text → GrewByPrefix mid new waiting
    → GrewByPrefix old new text
prefix_if_flush_fails old mid new waiting text h k = record {
  front = h.front ++ k.front;
  rest = k.rest;
  whole = append_assoc h.front k.front k.rest ∙ ap (λ x. h.front ++ x) k.whole ∙ h.whole;
  grew = k.grew ∙ ap (λ t. appended t k.front) h.grew ∙ appended-appended old h.front k.front;
}
