-- Steps of the loop that reads the fields of a record.
use Rattle.std.proofs.Common.{◌≡◌, ℕ, ◌+◌, ◌-◌, ◌<◌, ◌≤◌, min, List, [], ◌∷◌, ◌++◌, length, take, drop, get_or, set, false, sym, ap, ◌∙◌, subst, arith, append_assoc, length-append}
use Rattle.std.specs.Prelude.{All, IfSome, IsUtf8, Some}
use Rattle.std.proofs.lemmas.List.{append-nil, drop_min, length-map, length-take-le, map-append, take_all, take_more_set, length-set}
use Rattle.std.proofs.lemmas.List.Elements.{All-push}
use Rattle.plain_records.specs.Plain.{after_line, ends_line, first_field, first_record, before_first, is_comma}
use Rattle.plain_records.proofs.LineFacts.{split_first}
use Rattle.plain_records.proofs.OffsetFacts.{line_ends, line_goes_on, utf8_after_byte, utf8_of_field, utf8_after_field}
use Rattle.csv_tables.specs.declared.fields.Field.{Field}
use Rattle.csv_tables.specs.Fields.{record_of, text_of, IsFieldAt, IsSpan, ReadsRecord}
use Rattle.csv_tables.specs.Numbers.{number_of}

pub text_is : (bytes : List ℕ) (at : ℕ) (field : Field) → IsFieldAt bytes at field → text_of bytes field ≡ first_field (drop at bytes)
text_is bytes at field f = ap (λ s. take (field.end - s) (drop s bytes)) f.begins ∙ sym f.is_field.is

span_of : (bytes : List ℕ) (at : ℕ) (field : Field) → IsUtf8 bytes → IsUtf8 (drop at bytes) → IsFieldAt bytes at field → IsSpan bytes field
span_of bytes at field text cut f =
    let is : first_field (drop at bytes) ≡ text_of bytes field = sym (text_is bytes at field f) in
    record {
      from = omega (arith, f.begins, f.is_field.from);
      within = f.is_field.within;
      text = subst IsUtf8 is (utf8_of_field bytes at field.end text cut f.is_field);
      number = subst (λ (t : List ℕ). IfSome field.number (λ number. number_of t ≡ Some number)) is f.number;
    }

-- the first `place` fields of a record were read, and the next field begins at `at`
pub record FieldsSoFar (bytes : List ℕ) (start at place : ℕ) (fields : List Field) : Type 0 where
  pub from : start ≤ at
  pub within : at ≤ length bytes
  pub cut : IsUtf8 (drop at bytes)
  pub read : first_record (drop start bytes) ≡ record_of bytes (take place fields) ++ first_record (drop at bytes)
  pub spans : All (IsSpan bytes) (take place fields)
  pub whole : after_line (drop start bytes) ≡ after_line (drop at bytes)

joined : (bytes : List ℕ) (place : ℕ) (fields : List Field) (field : Field) (rest : List (List ℕ)) → place < length fields
    → record_of bytes (take place fields) ++ text_of bytes field ∷ rest ≡ record_of bytes (take (place + 1) (set fields place field)) ++ rest
joined bytes place fields field rest l =
    sym (append_assoc (record_of bytes (take place fields)) (text_of bytes field ∷ []) rest)
    ∙ ap (λ r. r ++ rest) (sym (ap (record_of bytes) (take_more_set fields place field l) ∙ map-append (text_of bytes) (take place fields) (field ∷ [])))

spans_more : (bytes : List ℕ) (place : ℕ) (fields : List Field) (field : Field) → place < length fields → All (IsSpan bytes) (take place fields) → IsSpan bytes field
    → All (IsSpan bytes) (take (place + 1) (set fields place field))
spans_more bytes place fields field l all one =
    subst (All (IsSpan bytes)) (sym (take_more_set fields place field l)) (All-push (IsSpan bytes) (take place fields) field all one)

-- a field with a comma after it
pub fields_more : (bytes : List ℕ) (start at place : ℕ) (fields : List Field) (field : Field) → FieldsSoFar bytes start at place fields → IsUtf8 bytes → IsFieldAt bytes at field
    → field.end < length bytes → get_or bytes field.end 0 ≡ 44 → place < length fields → FieldsSoFar bytes start (field.end + 1) (place + 1) (set fields place field)
fields_more bytes start at place fields field s text f l e within =
    let line = line_goes_on bytes at field.end f.is_field l e in
    record {
      from = omega (arith, s.from, f.is_field.from);
      within = omega (arith, l);
      cut = utf8_after_byte bytes field.end text l (omega (arith, e));
      read = s.read ∙ ap (λ r. record_of bytes (take place fields) ++ r) (line.fields_are ∙ ap (λ t. t ∷ first_record (drop (field.end + 1) bytes)) (sym (text_is bytes at field f)))
          ∙ joined bytes place fields field (first_record (drop (field.end + 1) bytes)) within;
      spans = spans_more bytes place fields field within s.spans (span_of bytes at field text s.cut f);
      whole = s.whole ∙ line.behind_is;
    }

taken_long : (bytes : List ℕ) (place : ℕ) (fields : List Field) → place ≤ length fields → length (record_of bytes (take place fields)) ≡ place
taken_long bytes place fields l = length-map (take place fields) (text_of bytes) ∙ length-take-le place fields l

-- if a record's last field begins at `at`, after `place` fields, the record has `place` + 1 fields
pub last_count : (bytes : List ℕ) (start at place : ℕ) (fields : List Field) (field : Field) → FieldsSoFar bytes start at place fields → IsFieldAt bytes at field
    → (field.end < length bytes → is_comma (get_or bytes field.end 0) ≡ false) → place < length fields → length (first_record (drop start bytes)) ≡ place + 1
last_count bytes start at place fields field s f e within =
    let line = line_ends bytes at field.end f.is_field e in
    let whole : first_record (drop start bytes) ≡ record_of bytes (take place fields) ++ first_field (drop at bytes) ∷ [] =
    s.read ∙ ap (λ r. record_of bytes (take place fields) ++ r) line.fields_are in
    let inside : place ≤ length fields = omega (arith, within) in
    ap (λ (r : List (List ℕ)). length r) whole ∙ length-append (record_of bytes (take place fields)) (first_field (drop at bytes) ∷ [])
    ∙ ap (λ n. n + 1) (taken_long bytes place fields inside)

-- a record with the header's number of fields
pub last_field : (bytes : List ℕ) (start at place : ℕ) (fields : List Field) (field : Field) → FieldsSoFar bytes start at place fields → IsUtf8 bytes → IsFieldAt bytes at field
    → (field.end < length bytes → is_comma (get_or bytes field.end 0) ≡ false) → place < length fields → place + 1 ≡ length fields
    → ReadsRecord bytes start (set fields place field) (min (field.end + 1) (length bytes))
last_field bytes start at place fields field s text f e within last =
    let line = line_ends bytes at field.end f.is_field e in
    let lengths : length (set fields place field) ≤ place + 1 = omega (arith, length-set fields place field, last) in
    let all : take (place + 1) (set fields place field) ≡ set fields place field = take_all (place + 1) (set fields place field) lengths in
    record {
      fields_are = s.read ∙ ap (λ r. record_of bytes (take place fields) ++ r) (line.fields_are ∙ ap (λ t. t ∷ []) (sym (text_is bytes at field f)))
          ∙ joined bytes place fields field [] within ∙ append-nil (record_of bytes (take (place + 1) (set fields place field))) ∙ ap (record_of bytes) all;
      spans = subst (All (IsSpan bytes)) all (spans_more bytes place fields field within s.spans (span_of bytes at field text s.cut f));
      behind = record {
        rest = drop_min (field.end + 1) bytes ∙ sym (s.whole ∙ line.behind_is);
        within = omega arith;
        further = λ inside. omega (arith, s.from, f.is_field.from, inside);
        text = utf8_after_field bytes field.end text f.is_field.stops;
      };
    }

-- a line has at least one field
pub some_field : (bytes : List ℕ) → 0 < length (first_record bytes)
some_field bytes = rw (split_first is_comma (before_first ends_line bytes)) (omega arith)

-- if `place` fields were read and the record goes on, the record has further fields
pub more_fields : (bytes : List ℕ) (start at place : ℕ) (fields : List Field) → FieldsSoFar bytes start at place fields → place ≤ length fields → place < length (first_record (drop start bytes))
more_fields bytes start at place fields s inside =
    omega (arith, ap (λ (r : List (List ℕ)). length r) s.read, length-append (record_of bytes (take place fields)) (first_record (drop at bytes)), taken_long bytes place fields inside, some_field (drop at bytes))
