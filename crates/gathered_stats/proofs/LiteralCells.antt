-- Which cell a literal has in a column. A text's cell is its number in the pool, and a text that isn't in the pool has no cell.
use Rattle.std.proofs.Common.{◌≡◌, ℕ, zero, suc, ◌+◌, ◌<◌, Bool, false, List, [], ◌∷◌, length, get_or, None, Some, ap, sym, ◌∙◌, inl, inr, arith}
use Rattle.std.specs.Prelude.{All, position}
use Rattle.std.specs.Cmp.Lexicographic.{slice_cmp}
use Rattle.std.specs.List.{position_or_len}
use Rattle.std.specs.Ordering.{is_eq, nat_cmp}
use Rattle.std.specs.Str.{IsUtf8, bytes_eq, chars}
use Rattle.std.proofs.Math.Utf8.{encodes}
use Rattle.std.proofs.lemmas.Bool.{cases_Bool, cases_lt, false≢true, false_from_ne_true, lt-ltb}
use Rattle.std.proofs.lemmas.List.Quantifiers.{position-Some}
use Rattle.std.proofs.lemmas.Map.Text.{is_eq-slice_cmp}
use Rattle.std.proofs.lemmas.Slice.Eq.{bytes_eq-Decides}
use Rattle.std.proofs.lemmas.Str.{encodes-chars}
use Rattle.schema_types.specs.declared.types.Kind.TheVariants as kind
use Rattle.csv_tables.specs.Values.{Text}
use Rattle.table_stats.specs.Cells.{IsCellFor}

-- ---- the index that `position` finds

module _ {X : Type 0} (p : X → Bool) (d : X) where
  fails_before_position : (xs : List X) (k : ℕ) → k < position_or_len p xs → p (get_or xs k d) ≡ false
  fails_before_position [] k h = absurd (omega (arith, h))
  fails_before_position (x ∷ xs) zero h = elim (cases_Bool (p x)) [
    | inl t ↦ (let none : 0 < 0 = rw t at h in absurd (omega (arith, none)))
    | inr n ↦ n
  ]
  fails_before_position (x ∷ xs) (suc k) h = elim (cases_Bool (p x)) [
    | inl t ↦ (let none : suc k < 0 = rw t at h in absurd (omega (arith, none)))
    | inr n ↦ (let more : suc k < 1 + position_or_len p xs = rw n at h in fails_before_position xs k (omega (arith, more)))
  ]

  fails_everywhere : (xs : List X) (k : ℕ) → position p xs ≡ None → k < length xs → p (get_or xs k d) ≡ false
  fails_everywhere xs k h is_below = elim (cases_lt (position_or_len p xs) (length xs)) [
    | inl l ↦ (let some : Some (position_or_len p xs) ≡ None = rw (lt-ltb (position_or_len p xs) (length xs) l) at h in absurd (cc))
    | inr far ↦ fails_before_position xs k (omega (arith, far, is_below))
  ]

-- ---- texts of the pool

same_chars : (a b : List ℕ) → is_eq (slice_cmp nat_cmp (chars a) (chars b)) ≡ bytes_eq (chars a) (chars b)
same_chars a b = is_eq-slice_cmp (chars a) (chars b)

pub found_text_is_cell : (texts : List (List ℕ)) (most : ℕ) (text : List ℕ) (cell : ℕ) → position (bytes_eq text) texts ≡ Some cell
    → IsCellFor texts (kind.Text most) (Text text) (Some cell)
found_text_is_cell texts most text cell h =
    let at = position-Some (bytes_eq text) texts cell [] h in
    let is : text ≡ get_or texts cell [] = (bytes_eq-Decides text (get_or texts cell [])).0 at.1 in
    (at.0, same_chars (get_or texts cell []) text ∙ (bytes_eq-Decides (chars (get_or texts cell [])) (chars text)).1 (ap chars (sym is)))

pub absent_text_has_no_cell : (texts : List (List ℕ)) (most : ℕ) (text : List ℕ) → All IsUtf8 texts → IsUtf8 text → position (bytes_eq text) texts ≡ None
    → IsCellFor texts (kind.Text most) (Text text) None
absent_text_has_no_cell texts most text utf8 own h = λ cell is_below.
    let other : List ℕ = get_or texts cell [] in
    let apart : bytes_eq text other ≡ false = fails_everywhere (bytes_eq text) [] texts cell h is_below in
    false_from_ne_true (is_eq (slice_cmp nat_cmp (chars other) (chars text))) (λ same.
    let chars_are : chars other ≡ chars text = (bytes_eq-Decides (chars other) (chars text)).0 (sym (same_chars other text) ∙ same) in
    let texts_are : text ≡ other = sym (encodes-chars text own) ∙ ap encodes (sym chars_are) ∙ encodes-chars other (utf8 cell [] is_below) in
    false≢true (sym apart ∙ (bytes_eq-Decides text other).1 texts_are))
