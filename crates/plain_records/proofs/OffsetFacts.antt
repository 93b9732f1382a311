-- Steps of loops that go from one byte offset to the next.
use Rattle.std.proofs.Common.{◌≡◌, ◌⊎◌, inl, inr, ℕ, zero, suc, ◌+◌, ◌-◌, ◌<◌, ◌≤◌, min, Bool, true, false, List, [], ◌∷◌, ◌++◌, length, map, take, drop, get_or, refl, sym, ap, ◌∙◌, subst, arith, append-nil, append_assoc, ◌||◌, if◌then◌else◌, length-drop}
use Rattle.std.specs.Prelude.{IsUtf8, ◌==◌}
use Rattle.std.specs.Str.{IsCharBoundary}
use Rattle.std.specs.List.{list_any, onto_first, slice_split}
use Rattle.std.proofs.lemmas.Bool.{cases_lt, eqb-true, or_parts}
use Rattle.std.proofs.lemmas.List.{drop_all, drop_min, drop_more, drop-drop, take_more, take-append-drop, get_or-drop}
use Rattle.std.proofs.lemmas.Str.{IsCharBoundary-after_ascii, IsCharBoundary-before_ascii, IsCharBoundary-end, IsCharBoundary-from_drop, IsUtf8-between, IsUtf8-drop, IsUtf8-nil}
use Rattle.plain_records.specs.Offsets.{FieldSoFar, IsField}
use Rattle.plain_records.specs.Plain.{after_line, after_first, ends_field, ends_line, fields_of_line, first_field, first_record, before_first, is_comma, lines_of, plain_records}
use Rattle.plain_records.proofs.LineFacts.{first_line, no_line, split_first}

-- ---- bytes that end a field or a line

-- a byte that ends no field
record EndsNoField (byte : ℕ) : Type 0 where
  comma : is_comma byte ≡ false
  line : ends_line byte ≡ false

no_end : (byte : ℕ) → ends_field byte ≡ false → EndsNoField byte
no_end byte e = let parts = or_parts (is_comma byte) (ends_line byte) e in record { comma = parts.0; line = parts.1 }

line_by : (a b : Bool) → (a || b) ≡ true → a ≡ false → b ≡ true
line_by true b e n = absurd (cc)
line_by false b e n = e

ascii_by : (byte : ℕ) (a b c : Bool) → (byte == 44) ≡ a → (byte == 13) ≡ b → (byte == 10) ≡ c → (a || (b || c)) ≡ true → byte < 128
ascii_by byte true b c x y z e = let is : byte ≡ 44 = eqb-true byte 44 x in omega (arith, is)
ascii_by byte false true c x y z e = let is : byte ≡ 13 = eqb-true byte 13 y in omega (arith, is)
ascii_by byte false false true x y z e = let is : byte ≡ 10 = eqb-true byte 10 z in omega (arith, is)
ascii_by byte false false false x y z e = absurd (cc)

-- a byte that ends a field is an ASCII byte
end_ascii : (byte : ℕ) → ends_field byte ≡ true → byte < 128
end_ascii byte e = ascii_by byte (byte == 44) (byte == 13) (byte == 10) refl refl refl e

line_is_end : (a b : Bool) → b ≡ true → (a || b) ≡ true
line_is_end true b e = refl
line_is_end false b e = e

pub line_ascii : (byte : ℕ) → ends_line byte ≡ true → byte < 128
line_ascii byte e = end_ascii byte (line_is_end (is_comma byte) (ends_line byte) e)

-- ---- fields

-- a byte that doesn't end a field belongs to the field
pub field_byte : (bytes : List ℕ) (end : ℕ) → end < length bytes → ends_field (get_or bytes end 0) ≡ false
    → first_field (drop end bytes) ≡ get_or bytes end 0 ∷ first_field (drop (end + 1) bytes)
field_byte bytes end l e = ap first_field (drop_more bytes end 0 l) ∙ rw e refl

-- at a byte that ends a field, and at the end of the bytes, the first field is empty
field_stops : (bytes : List ℕ) (end : ℕ) → end < length bytes → ends_field (get_or bytes end 0) ≡ true → first_field (drop end bytes) ≡ []
field_stops bytes end l e = ap first_field (drop_more bytes end 0 l) ∙ rw e refl

field_stops_at_end : (bytes : List ℕ) (end : ℕ) → length bytes ≤ end → first_field (drop end bytes) ≡ []
field_stops_at_end bytes end l = ap first_field (drop_all end bytes l)

pub field_begins : (bytes : List ℕ) (at : ℕ) → at ≤ length bytes → FieldSoFar bytes at at
field_begins bytes at l = let none : at - at ≡ 0 = omega arith in record { from = omega arith; within = l; so_far = rw none refl }

taken_more : (bytes : List ℕ) (at end : ℕ) → at ≤ end → end < length bytes
    → take (end + 1 - at) (drop at bytes) ≡ take (end - at) (drop at bytes) ++ get_or bytes end 0 ∷ []
taken_more bytes at end f l =
    let one : end + 1 - at ≡ (end - at) + 1 = omega (arith, f) in
    let there : at + (end - at) ≡ end = omega (arith, f) in
    let within : end - at < length (drop at bytes) = omega (arith, length-drop at bytes, f, l) in
    ap (λ n. take n (drop at bytes)) one ∙ take_more (drop at bytes) (end - at) 0 within
    ∙ ap (λ b. take (end - at) (drop at bytes) ++ b ∷ []) (get_or-drop at bytes (end - at) 0 ∙ ap (λ n. get_or bytes n 0) there)

-- one more byte of a field
pub field_more : (bytes : List ℕ) (at end : ℕ) → FieldSoFar bytes at end → end < length bytes → ends_field (get_or bytes end 0) ≡ false → FieldSoFar bytes at (end + 1)
field_more bytes at end f l e = record {
  from = omega (arith, f.from);
  within = omega (arith, l);
  so_far = f.so_far ∙ ap (λ t. take (end - at) (drop at bytes) ++ t) (field_byte bytes end l e)
      ∙ sym (append_assoc (take (end - at) (drop at bytes)) (get_or bytes end 0 ∷ []) (first_field (drop (end + 1) bytes)))
      ∙ ap (λ t. t ++ first_field (drop (end + 1) bytes)) (sym (taken_more bytes at end f.from l));
}

none_taken : (n : ℕ) → take {A = ℕ} n [] ≡ []
none_taken zero = refl
none_taken (suc n) = refl

take_parts : (m n : ℕ) (xs : List ℕ) → take (m + n) xs ≡ take m xs ++ take n (drop m xs)
take_parts zero n xs = let none : 0 + n ≡ n = omega arith in ap (λ k. take k xs) none
take_parts (suc m) n [] = none_taken (suc m + n) ∙ sym (none_taken n)
take_parts (suc m) n (x ∷ xs) = let one : suc m + n ≡ suc (m + n) = omega arith in ap (λ k. take k (x ∷ xs)) one ∙ ap (λ r. x ∷ r) (take_parts m n xs)

taken_then : (bytes : List ℕ) (at first end : ℕ) → at ≤ first → first ≤ end
    → take (first - at) (drop at bytes) ++ take (end - first) (drop first bytes) ≡ take (end - at) (drop at bytes)
taken_then bytes at first end a b =
    let parts : end - at ≡ (first - at) + (end - first) = omega (arith, a, b) in
    let there : at + (first - at) ≡ first = omega (arith, a) in
    ap (λ r. take (first - at) (drop at bytes) ++ take (end - first) r) (ap (λ n. drop n bytes) (sym there) ∙ sym (drop-drop (first - at) at bytes))
    ∙ sym (take_parts (first - at) (end - first) (drop at bytes)) ∙ ap (λ n. take n (drop at bytes)) (sym parts)

-- if a field was read up to `first`, and from `first` up to `end`, it was read up to `end`
pub field_read_further : (bytes : List ℕ) (at first end : ℕ) → FieldSoFar bytes at first → FieldSoFar bytes first end → FieldSoFar bytes at end
field_read_further bytes at first end f g = record {
  from = omega (arith, f.from, g.from);
  within = g.within;
  so_far = f.so_far ∙ ap (λ t. take (first - at) (drop at bytes) ++ t) g.so_far
      ∙ sym (append_assoc (take (first - at) (drop at bytes)) (take (end - first) (drop first bytes)) (first_field (drop end bytes)))
      ∙ ap (λ t. t ++ first_field (drop end bytes)) (taken_then bytes at first end f.from g.from);
}

pub field_of : (bytes : List ℕ) (at end : ℕ) → FieldSoFar bytes at end → first_field (drop end bytes) ≡ [] → IsField bytes at end
field_of bytes at end f e = record {
  from = f.from;
  within = f.within;
  is = f.so_far ∙ ap (λ t. take (end - at) (drop at bytes) ++ t) e ∙ append-nil (take (end - at) (drop at bytes));
  stops = e;
}

-- a field ends before a comma, CR or LF
pub field_ends : (bytes : List ℕ) (at end : ℕ) → FieldSoFar bytes at end → end < length bytes → ends_field (get_or bytes end 0) ≡ true → IsField bytes at end
field_ends bytes at end f l e = field_of bytes at end f (field_stops bytes end l e)

pub field_past : (bytes : List ℕ) (at end : ℕ) → FieldSoFar bytes at end → length bytes ≤ end → IsField bytes at end
field_past bytes at end f l = field_of bytes at end f (field_stops_at_end bytes end l)

-- ---- lines

none_by : (p : ℕ → Bool) (c : ℕ) (rest : List ℕ) (b : Bool) → p c ≡ b → list_any p (before_first p rest) ≡ false → list_any p (if b then [] else c ∷ before_first p rest) ≡ false
none_by p c rest true e h = refl
none_by p c rest false e h = rw e h

none_in_front : (p : ℕ → Bool) (bytes : List ℕ) → list_any p (before_first p bytes) ≡ false
none_in_front p [] = refl
none_in_front p (c ∷ rest) = none_by p c rest (p c) refl (none_in_front p rest)

-- the fields of a line, and what comes after the line
pub record LineIs (bytes : List ℕ) (fields : List (List ℕ)) (rest : List ℕ) : Type 0 where
  pub fields_are : first_record bytes ≡ fields
  pub behind_is : after_line bytes ≡ rest

-- if a line's first field is empty, bytes without field ends that are put before the line become its first field
line_with_first_field : (field tail : List ℕ) (others : List (List ℕ)) (rest : List ℕ) → list_any ends_field field ≡ false → LineIs tail ([] ∷ others) rest → LineIs (field ++ tail) (field ∷ others) rest
line_with_first_field [] tail others rest h t = t
line_with_first_field (c ∷ field) tail others rest h t =
    let n = or_parts (ends_field c) (list_any ends_field field) h in
    let ends = no_end c n.0 in
    let next = line_with_first_field field tail others rest n.1 t in
    let comma : is_comma c ≡ false = ends.comma in
    let line : ends_line c ≡ false = ends.line in
    record {
      fields_are = rw (line, comma) (ap (onto_first c) next.fields_are);
      behind_is = rw line next.behind_is;
    }

field_and_tail : (bytes : List ℕ) (at end : ℕ) → at ≤ end → drop at bytes ≡ take (end - at) (drop at bytes) ++ drop end bytes
field_and_tail bytes at end f =
    let there : at + (end - at) ≡ end = omega (arith, f) in
    sym (take-append-drop (end - at) (drop at bytes)) ∙ ap (λ t. take (end - at) (drop at bytes) ++ t) (drop-drop (end - at) at bytes ∙ ap (λ n. drop n bytes) there)

line_from : (bytes : List ℕ) (at end : ℕ) (others : List (List ℕ)) (rest : List ℕ) → IsField bytes at end → LineIs (drop end bytes) ([] ∷ others) rest
    → LineIs (drop at bytes) (first_field (drop at bytes) ∷ others) rest
line_from bytes at end others rest f t =
    let none : list_any ends_field (take (end - at) (drop at bytes)) ≡ false = ap (list_any ends_field) (sym f.is) ∙ none_in_front ends_field (drop at bytes) in
    let whole = line_with_first_field (take (end - at) (drop at bytes)) (drop end bytes) others rest none t in
    record {
      fields_are = ap first_record (field_and_tail bytes at end f.from) ∙ whole.fields_are ∙ ap (λ x. x ∷ others) (sym f.is);
      behind_is = ap after_line (field_and_tail bytes at end f.from) ∙ whole.behind_is;
    }

-- after a comma the line goes on
pub line_goes_on : (bytes : List ℕ) (at end : ℕ) → IsField bytes at end → end < length bytes → get_or bytes end 0 ≡ 44
    → LineIs (drop at bytes) (first_field (drop at bytes) ∷ first_record (drop (end + 1) bytes)) (after_line (drop (end + 1) bytes))
line_goes_on bytes at end f l e =
    let tail : drop end bytes ≡ 44 ∷ drop (end + 1) bytes = drop_more bytes end 0 l ∙ ap (λ b. b ∷ drop (end + 1) bytes) e in
    line_from bytes at end _ _ f (rw tail (record { fields_are = refl; behind_is = refl }))

stop_by : (byte : ℕ) (rest : List ℕ) (b : Bool) → ends_field byte ≡ b → (if b then [] else byte ∷ first_field rest) ≡ [] → ends_field byte ≡ true
stop_by byte rest true e h = e
stop_by byte rest false e h = absurd (cc)

stop_byte : (bytes : List ℕ) (end : ℕ) → end < length bytes → first_field (drop end bytes) ≡ [] → ends_field (get_or bytes end 0) ≡ true
stop_byte bytes end l e = stop_by (get_or bytes end 0) (drop (end + 1) bytes) (ends_field (get_or bytes end 0)) refl (sym (ap first_field (drop_more bytes end 0 l)) ∙ e)

tail_ends : (byte : ℕ) (rest : List ℕ) → ends_line byte ≡ true → LineIs (byte ∷ rest) ([] ∷ []) rest
tail_ends byte rest e = record { fields_are = rw e refl; behind_is = rw e refl }

-- a field with no comma after it is the line's last field
pub line_ends : (bytes : List ℕ) (at end : ℕ) → IsField bytes at end → (end < length bytes → is_comma (get_or bytes end 0) ≡ false)
    → LineIs (drop at bytes) (first_field (drop at bytes) ∷ []) (drop (end + 1) bytes)
line_ends bytes at end f e = line_from bytes at end [] (drop (end + 1) bytes) f (tail_by (cases_lt end (length bytes)))
  where
    tail_by : (end < length bytes) ⊎ (length bytes ≤ end) → LineIs (drop end bytes) ([] ∷ []) (drop (end + 1) bytes)
    tail_by (inl l) =
        let ends : ends_line (get_or bytes end 0) ≡ true = line_by (is_comma (get_or bytes end 0)) (ends_line (get_or bytes end 0)) (stop_byte bytes end l f.stops) (e l) in
        subst (λ t. LineIs t ([] ∷ []) (drop (end + 1) bytes)) (sym (drop_more bytes end 0 l)) (tail_ends (get_or bytes end 0) (drop (end + 1) bytes) ends)
    tail_by (inr l) =
        let more : length bytes ≤ end + 1 = omega (arith, l) in
        rw (drop_all end bytes l, drop_all (end + 1) bytes more) (record { fields_are = refl; behind_is = refl })

-- ---- records

-- a line without a byte is no record
pub no_record : (bytes : List ℕ) (at : ℕ) → at < length bytes → ends_line (get_or bytes at 0) ≡ true → plain_records (drop at bytes) ≡ plain_records (drop (at + 1) bytes)
no_record bytes at l e =
    let none : before_first ends_line (get_or bytes at 0 ∷ drop (at + 1) bytes) ≡ [] = rw e refl in
    let rest : after_first ends_line (get_or bytes at 0 ∷ drop (at + 1) bytes) ≡ drop (at + 1) bytes = rw e refl in
    ap plain_records (drop_more bytes at 0 l) ∙ ap (map fields_of_line) (no_line (get_or bytes at 0 ∷ drop (at + 1) bytes) none ∙ ap lines_of rest)

-- a line with a byte is the first record
pub one_record : (bytes : List ℕ) (at : ℕ) → at < length bytes → ends_line (get_or bytes at 0) ≡ false
    → plain_records (drop at bytes) ≡ first_record (drop at bytes) ∷ plain_records (after_line (drop at bytes))
one_record bytes at l e =
    let first : before_first ends_line (drop at bytes) ≡ get_or bytes at 0 ∷ before_first ends_line (drop (at + 1) bytes) = ap (before_first ends_line) (drop_more bytes at 0 l) ∙ rw e refl in
    ap (map fields_of_line) (first_line (drop at bytes) (before_first ends_line (drop (at + 1) bytes)) (get_or bytes at 0) first)
    ∙ ap (λ f. fields_of_line f ∷ plain_records (after_line (drop at bytes))) (sym first)

pub no_more_records : (bytes : List ℕ) (at : ℕ) → length bytes ≤ at → plain_records (drop at bytes) ≡ []
no_more_records bytes at l = ap plain_records (drop_all at bytes l)

-- ---- number of fields of a line

same_count : (p : ℕ → Bool) (c : ℕ) (bytes : List ℕ) → length (onto_first c (slice_split p bytes)) ≡ length (slice_split p bytes)
same_count p c bytes = rw (split_first p bytes) refl

pub count_comma : (bytes : List ℕ) (at : ℕ) → at < length bytes → get_or bytes at 0 ≡ 44 → length (first_record (drop at bytes)) ≡ 1 + length (first_record (drop (at + 1) bytes))
count_comma bytes at l e =
    ap (λ t. length (first_record t)) (drop_more bytes at 0 l ∙ ap (λ b. b ∷ drop (at + 1) bytes) e) ∙ omega arith

pub count_byte : (bytes : List ℕ) (at : ℕ) → at < length bytes → ends_line (get_or bytes at 0) ≡ false → is_comma (get_or bytes at 0) ≡ false
    → length (first_record (drop at bytes)) ≡ length (first_record (drop (at + 1) bytes))
count_byte bytes at l e c =
    ap (λ t. length (first_record t)) (drop_more bytes at 0 l)
    ∙ rw (e, c) (same_count is_comma (get_or bytes at 0) (before_first ends_line (drop (at + 1) bytes)))

pub count_end : (bytes : List ℕ) (at : ℕ) → (at < length bytes → ends_line (get_or bytes at 0) ≡ true) → length (first_record (drop at bytes)) ≡ 1
count_end bytes at e = by (cases_lt at (length bytes))
  where
    by : (at < length bytes) ⊎ (length bytes ≤ at) → length (first_record (drop at bytes)) ≡ 1
    by (inl l) = let line : ends_line (get_or bytes at 0) ≡ true = e l in ap (λ t. length (first_record t)) (drop_more bytes at 0 l) ∙ rw line refl
    by (inr l) = ap (λ t. length (first_record t)) (drop_all at bytes l)

-- dropping a first byte that doesn't end the line leaves the bytes after the line unchanged
pub rest_more : (bytes : List ℕ) (at : ℕ) → at < length bytes → ends_line (get_or bytes at 0) ≡ false → after_line (drop at bytes) ≡ after_line (drop (at + 1) bytes)
rest_more bytes at l e = ap after_line (drop_more bytes at 0 l) ∙ rw e refl

-- the bytes after a line begin after the byte that ends the line
pub rest_end : (bytes : List ℕ) (at : ℕ) → (at < length bytes → ends_line (get_or bytes at 0) ≡ true) → drop (min (at + 1) (length bytes)) bytes ≡ after_line (drop at bytes)
rest_end bytes at e = drop_min (at + 1) bytes ∙ by (cases_lt at (length bytes))
  where
    by : (at < length bytes) ⊎ (length bytes ≤ at) → drop (at + 1) bytes ≡ after_line (drop at bytes)
    by (inl l) = let line : ends_line (get_or bytes at 0) ≡ true = e l in sym (ap after_line (drop_more bytes at 0 l) ∙ rw line refl)
    by (inr l) = let more : length bytes ≤ at + 1 = omega (arith, l) in drop_all (at + 1) bytes more ∙ sym (ap after_line (drop_all at bytes l))

-- ---- parts that are UTF-8

pub utf8_after_byte : (bytes : List ℕ) (at : ℕ) → IsUtf8 bytes → at < length bytes → get_or bytes at 0 < 128 → IsUtf8 (drop (at + 1) bytes)
utf8_after_byte bytes at text l a = IsUtf8-drop bytes (at + 1) text (IsCharBoundary-after_ascii bytes at text l a)

past_by : (bytes : List ℕ) (at : ℕ) → (at < length bytes → get_or bytes at 0 < 128) → IsUtf8 bytes → IsUtf8 (drop (min (at + 1) (length bytes)) bytes)
past_by bytes at e text = subst IsUtf8 (sym (drop_min (at + 1) bytes)) (by (cases_lt at (length bytes)))
  where
    by : (at < length bytes) ⊎ (length bytes ≤ at) → IsUtf8 (drop (at + 1) bytes)
    by (inl l) = utf8_after_byte bytes at text l (e l)
    by (inr l) = let more : length bytes ≤ at + 1 = omega (arith, l) in subst IsUtf8 (sym (drop_all (at + 1) bytes more)) IsUtf8-nil

-- the bytes after the end of a line are UTF-8, and so are the bytes after the end of a field
pub utf8_after_line : (bytes : List ℕ) (at : ℕ) → (at < length bytes → ends_line (get_or bytes at 0) ≡ true) → IsUtf8 bytes → IsUtf8 (drop (min (at + 1) (length bytes)) bytes)
utf8_after_line bytes at e text = past_by bytes at (λ l. line_ascii (get_or bytes at 0) (e l)) text

pub utf8_after_field : (bytes : List ℕ) (end : ℕ) → IsUtf8 bytes → first_field (drop end bytes) ≡ [] → IsUtf8 (drop (min (end + 1) (length bytes)) bytes)
utf8_after_field bytes end text e = past_by bytes end (λ l. end_ascii (get_or bytes end 0) (stop_byte bytes end l e)) text

-- a field of UTF-8 bytes is UTF-8
pub utf8_of_field : (bytes : List ℕ) (at end : ℕ) → IsUtf8 bytes → IsUtf8 (drop at bytes) → IsField bytes at end → IsUtf8 (first_field (drop at bytes))
utf8_of_field bytes at end text cut f =
    let inside : at ≤ length bytes = omega (arith, f.from, f.within) in
    subst IsUtf8 (sym f.is) (IsUtf8-between bytes at end text f.from (IsCharBoundary-from_drop bytes at inside cut) (by (cases_lt end (length bytes))))
  where
    by : (end < length bytes) ⊎ (length bytes ≤ end) → IsCharBoundary bytes end
    by (inl l) = IsCharBoundary-before_ascii bytes end l (end_ascii (get_or bytes end 0) (stop_byte bytes end l f.stops))
    by (inr l) = let same : end ≡ length bytes = omega (arith, l, f.within) in subst (IsCharBoundary bytes) (sym same) (IsCharBoundary-end bytes)
