-- A pool keeps its texts as the keys of a set. The lemmas turn facts about the keys into facts about the texts as bytes.
use Rattle.std.proofs.Common.{◌≡◌, ℕ, zero, suc, ◌+◌, Bool, true, false, ◌||◌, cond, List, [], ◌∷◌, ◌++◌, map, Some, refl, sym, ap, ◌∙◌, if◌then◌else◌, get_or}
use Rattle.std.specs.Prelude.{String, position, slice_get, not, string_bytes, option_map}
use Rattle.std.specs.List.{list_any, position_or_len, AllByRecursion, IsDistinct}
use Rattle.std.specs.Str.{bytes_eq, IsUtf8}
use Rattle.std.specs.String.{string_eq}
use Rattle.std.proofs.lemmas.List.Quantifiers.{position-Some}
use Rattle.std.proofs.lemmas.Option.{slice_get-map, slice_get-get_or}
use Rattle.std.proofs.lemmas.Map.Made.{AllPairs-from_IsDistinct}
use Rattle.std.proofs.lemmas.Slice.Eq.{bytes_eq-Decides}
use Rattle.std.proofs.lemmas.List.{map-append, length-map}
use Rattle.std.proofs.lemmas.List.Elements.{All-from_recursion}
use Rattle.std.proofs.lemmas.Str.{IsUtf8-string_bytes}
use Rattle.std.specs.Prelude.{All}
use Rattle.std.proofs.Math.Bool.{or-true}
use Rattle.indexmap.specs.IndexSet.{insert_key}
use Rattle.csv_tables.specs.Pools.{with_text, TextsAreDifferent}

module _ {X Y : Type 0} (f : X → Y) (p : Y → Bool) where
  list_any-map : (xs : List X) → list_any p (map f xs) ≡ list_any (λ x. p (f x)) xs
  list_any-map [] = refl
  list_any-map (x ∷ xs) = ap (λ b. p (f x) || b) (list_any-map xs)

  place-map : (xs : List X) → position_or_len p (map f xs) ≡ position_or_len (λ x. p (f x)) xs
  place-map [] = refl
  place-map (x ∷ xs) = ap (λ n. cond (not (p (f x))) (1 + n) 0) (place-map xs)

  position-map : (xs : List X) → position p (map f xs) ≡ position (λ x. p (f x)) xs
  position-map xs = rw (place-map xs, length-map xs f) refl

module _ {X : Type 0} (p : X → Bool) where
  any_at : (xs : List X) (i : ℕ) (x : X) → slice_get xs i ≡ Some x → p x ≡ true → list_any p xs ≡ true
  any_at [] i x e h = absurd (cc e)
  any_at (y ∷ ys) zero x e h = let is : y ≡ x = cc in ap (λ z. p z || list_any p ys) is ∙ rw h refl
  any_at (y ∷ ys) (suc i) x e h = rw (any_at ys i x e h) (or-true (p y))

pub same_text : (a b : List ℕ) → bytes_eq a b ≡ true → a ≡ b
same_text a b e = (bytes_eq-Decides a b).0 e

pub text_at_place : (texts : List (List ℕ)) (text : List ℕ) (code : ℕ) → position (bytes_eq text) texts ≡ Some code → slice_get texts code ≡ Some text
text_at_place texts text code e =
    let at = position-Some (bytes_eq text) texts code [] e in
    slice_get-get_or texts code [] at.0 ∙ ap Some (sym (same_text text (get_or texts code []) at.1))

pub known_text : (texts : List (List ℕ)) (text : List ℕ) (code : ℕ) → position (bytes_eq text) texts ≡ Some code → texts ≡ with_text texts text
known_text texts text code e =
    let at = position-Some (bytes_eq text) texts code [] e in
    let there : list_any (bytes_eq text) texts ≡ true = any_at (bytes_eq text) texts code _ (slice_get-get_or texts code [] at.0) at.1 in
    rw there refl

module _ {Z : Type 0} (keys : List (String Z)) (owned : String Z) where
  with_if : (b : Bool) → map string_bytes (if b then keys else keys ++ owned ∷ []) ≡ (if b then map string_bytes keys else map string_bytes keys ++ string_bytes owned ∷ [])
  with_if true = refl
  with_if false = map-append string_bytes keys (owned ∷ [])

  pub texts_of_insert : (text : List ℕ) → string_bytes owned ≡ text → map string_bytes (insert_key string_eq keys owned) ≡ with_text (map string_bytes keys) text
  texts_of_insert text e =
      with_if (list_any (string_eq owned) keys)
      ∙ ap (λ b. if b then map string_bytes keys else map string_bytes keys ++ string_bytes owned ∷ []) (sym (list_any-map string_bytes (bytes_eq (string_bytes owned)) keys))
      ∙ ap (with_text (map string_bytes keys)) e

  pub place_of_insert : (text : List ℕ) → string_bytes owned ≡ text → position_or_len (string_eq owned) keys ≡ position_or_len (bytes_eq text) (map string_bytes keys)
  place_of_insert text e = sym (place-map string_bytes (bytes_eq (string_bytes owned)) keys) ∙ ap (λ t. position_or_len (bytes_eq t) (map string_bytes keys)) e

  pub stored_text : (code : ℕ) (key : String Z) (text : List ℕ) → string_bytes owned ≡ text → slice_get keys code ≡ Some key → string_eq owned key ≡ true → slice_get (map string_bytes keys) code ≡ Some text
  stored_text code key text e at same = slice_get-map string_bytes keys code ∙ ap (option_map string_bytes) at ∙ ap Some (sym (same_text (string_bytes owned) (string_bytes key) same) ∙ e)

pub place_of_find : {Z : Type 0} (keys : List (String Z)) (text : List ℕ) → position (bytes_eq text) (map string_bytes keys) ≡ position (λ k. bytes_eq text (string_bytes k)) keys
place_of_find keys text = position-map string_bytes (bytes_eq text) keys

apart_texts : {Z : Type 0} (a : String Z) (keys : List (String Z)) → AllByRecursion (λ b. string_eq a b ≡ false) keys → AllByRecursion (λ b. bytes_eq (string_bytes a) b ≡ false) (map string_bytes keys)
apart_texts a [] h = tt
apart_texts a (b ∷ keys) h = (h.0, apart_texts a keys h.1)

distinct_texts : {Z : Type 0} (keys : List (String Z)) → IsDistinct string_eq keys → IsDistinct bytes_eq (map string_bytes keys)
unfolding IsDistinct
distinct_texts [] d = tt
distinct_texts (k ∷ keys) d = (apart_texts k keys d.0, distinct_texts keys d.1)

pub different_texts : {Z : Type 0} (keys : List (String Z)) → IsDistinct string_eq keys → TextsAreDifferent (map string_bytes keys)
different_texts keys d = AllPairs-from_IsDistinct bytes_eq-Decides (map string_bytes keys) (distinct_texts keys d)

texts_are_utf8 : {Z : Type 0} (keys : List (String Z)) → AllByRecursion IsUtf8 (map string_bytes keys)
texts_are_utf8 [] = tt
texts_are_utf8 (key ∷ keys) = (IsUtf8-string_bytes key, texts_are_utf8 keys)

pub utf8_texts : {Z : Type 0} (keys : List (String Z)) → All IsUtf8 (map string_bytes keys)
utf8_texts keys = All-from_recursion IsUtf8 (map string_bytes keys) (texts_are_utf8 keys)
