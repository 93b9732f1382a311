-- Several writes, one after another, append to a sink. The lemmas say what they append together: a whole text, or a prefix of it if a write failed.
use Rattle.std.proofs.Common.{◌≡◌, ℕ, ◌+◌, List, [], ◌++◌, take, drop, length, get_or, ◌∷◌, ◌-◌, ◌<◌, Option, None, Some, refl, ap, sym, ◌∙◌, append_assoc, append-nil, arith}
use Rattle.std.specs.List.{flat_map}
use Rattle.std.proofs.lemmas.List.{take-append-drop, take_more}
use Rattle.std.proofs.Math.Seq.{take-add}
use Rattle.std.proofs.lemmas.Grind.{common_steps, flat_map-append}
use Rattle.base_io.specs.Sinks.{appended, GrewByPrefix}

pub appended-appended : (old : Option (List ℕ)) (a b : List ℕ) → appended (appended old a) b ≡ appended old (a ++ b)
appended-appended None a b = refl
appended-appended (Some before) a b = ap Some (append_assoc before a b)

pub appended-nil : (old : Option (List ℕ)) → appended old [] ≡ old
appended-nil None = refl
appended-nil (Some before) = ap Some (append-nil before)

-- the left side is how `&bytes[a..]` is defined
slice_to_end : (a : ℕ) (bytes : List ℕ) → take (length bytes - a) (drop a bytes) ≡ drop a bytes
slice_to_end a bytes = grind (arith, common_steps)

pub took_more : (t0 t1 t2 : Option (List ℕ)) (bytes : List ℕ) (a n : ℕ)
    → t1 ≡ appended t0 (take a bytes) → t2 ≡ appended t1 (take n (take (length bytes - a) (drop a bytes))) → t2 ≡ appended t0 (take (a + n) bytes)
took_more t0 t1 t2 bytes a n first next =
    next ∙ ap (λ rest. appended t1 (take n rest)) (slice_to_end a bytes) ∙ ap (λ t. appended t (take n (drop a bytes))) first
    ∙ appended-appended t0 (take a bytes) (take n (drop a bytes)) ∙ ap (appended t0) (sym (take-add a n bytes))

pub grew_by_take : (old new : Option (List ℕ)) (bytes : List ℕ) (a : ℕ) → new ≡ appended old (take a bytes) → GrewByPrefix old new bytes
grew_by_take old new bytes a grew = record { front = take a bytes; rest = drop a bytes; whole = take-append-drop a bytes; grew = grew }

pub prefix_of_first : (old new : Option (List ℕ)) (a b : List ℕ) → GrewByPrefix old new a → GrewByPrefix old new (a ++ b)
prefix_of_first old new a b h = record {
  front = h.front;
  rest = h.rest ++ b;
  whole = sym (append_assoc h.front h.rest b) ∙ ap (λ x. x ++ b) h.whole;
  grew = h.grew;
}

pub prefix_after_first : (old mid new : Option (List ℕ)) (a b : List ℕ) → mid ≡ appended old a → GrewByPrefix mid new b → GrewByPrefix old new (a ++ b)
prefix_after_first old mid new a b first h = record {
  front = a ++ h.front;
  rest = h.rest;
  whole = append_assoc a h.front h.rest ∙ ap (λ x. a ++ x) h.whole;
  grew = h.grew ∙ ap (λ t. appended t h.front) first ∙ appended-appended old a h.front;
}

pub both_texts_appended : (old mid new : Option (List ℕ)) (a b : List ℕ) → mid ≡ appended old a → new ≡ appended mid b → new ≡ appended old (a ++ b)
both_texts_appended old mid new a b first second = second ∙ ap (λ t. appended t b) first ∙ appended-appended old a b

pub whole_is_prefix : (old new : Option (List ℕ)) (a : List ℕ) → new ≡ appended old a → GrewByPrefix old new a
whole_is_prefix old new a grew = record { front = a; rest = []; whole = append-nil a; grew = grew }

pub nothing_is_prefix : (old : Option (List ℕ)) (a : List ℕ) → GrewByPrefix old old a
nothing_is_prefix old a = record { front = []; rest = a; whole = refl; grew = sym (appended-nil old) }

pub parts_split : {X : Type 0} (f : X → List ℕ) (parts : List X) (i : ℕ) (d : X) → i < length parts
    → (flat_map f (take i parts) ++ f (get_or parts i d)) ++ flat_map f (drop (i + 1) parts) ≡ flat_map f parts
parts_split f parts i d lt =
    let back = take-append-drop (i + 1) parts in
    let more = take_more parts i d lt in
    sym (ap (flat_map f) (sym back) ∙ flat_map-append f (take (i + 1) parts) (drop (i + 1) parts)
    ∙ ap (λ x. flat_map f x ++ flat_map f (drop (i + 1) parts)) more
    ∙ ap (λ x. x ++ flat_map f (drop (i + 1) parts)) (flat_map-append f (take i parts) (get_or parts i d ∷ [])
    ∙ ap (λ x. flat_map f (take i parts) ++ x) (append-nil (f (get_or parts i d)))))
