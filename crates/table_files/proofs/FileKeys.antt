-- Rows that were read from a table's file have UTF-8 texts. No two of them have the same value in a column that is a key by itself.
use Rattle.std.proofs.Common.{◌≡◌, ℕ, ℤ, zero, suc, ◌+◌, ◌<◌, ◌≤◌, Bool, true, false, nat_eq, nat_lt, List, [], ◌∷◌, ◌++◌, length, map, get_or, pos, Option, None, Some, Result, Ok, Err, refl, ap, sym, ◌∙◌, subst, inl, inr, not, arith, length-append, append_assoc}
use Rattle.std.specs.Prelude.{IsUtf8, encode_utf8_all, position, if◌then◌else◌, option_map, nat_le, ⊤}
use Rattle.std.specs.Cmp.Lexicographic.{slice_cmp}
use Rattle.std.specs.List.{AllByRecursion, position_or_len}
use Rattle.std.specs.Ordering.{int_cmp, is_eq, nat_cmp}
use Rattle.std.specs.Str.{chars, is_utf8}
use Rattle.std.specs.Str.Lossy.{utf8_valid_len}
use Rattle.std.proofs.Math.ListN.{get_or-append}
use Rattle.std.proofs.Math.Seq.{get_or-append_seam}
use Rattle.std.proofs.lemmas.Bool.{cases_eq, cases_lt, false≢true, ltb-false}
use Rattle.std.proofs.lemmas.Bool.Decides.{Decides-int_eq}
use Rattle.std.specs.Cmp.{Equal-is}
use Rattle.std.proofs.lemmas.List.{get_or-map, length-map}
use Rattle.std.proofs.lemmas.List.Sums.{fails_before_first}
use Rattle.std.proofs.lemmas.Map.Lookups.{exact_bytes, exact_signed}
use Rattle.std.proofs.lemmas.Slice.Eq.{bytes_eq-Decides}
use Rattle.std.proofs.lemmas.Str.{IsUtf8-from_is_utf8, IsUtf8-nil, encodes-chars}
use Rattle.csv.specs.Machine.{Read, next_record}
use Rattle.csv.specs.Reading.{NextIs, default_config, records_from, records_next, strip_bom}
use Rattle.csv.specs.Records.{AllText}
use Rattle.csv.specs.declared.parser.State.{State}
use Rattle.csv.specs.declared.parser.State.TheVariants as st
use Rattle.schema_types.specs.declared.types.Column.{Column}
use Rattle.schema_types.specs.declared.types.Kind.{Kind}
use Rattle.schema_types.specs.declared.types.Kind.TheVariants as kind
use Rattle.schema_types.specs.declared.types.Table.{Table}
use Rattle.csv_tables.specs.declared.types.TableError.{TableError}
use Rattle.csv_tables.specs.declared.types.TableError.TheVariants as error
use Rattle.csv_tables.specs.Files.{after_header, header_of, rows_in_records, rows_of_file, rows_under_header}
use Rattle.csv_tables.specs.Header.{column_places}
use Rattle.csv_tables.specs.Keys.{are_same, first_repeat, key_values, or_rows, repeat_after, repeat_or, rows_with_keys}
use Rattle.csv_tables.specs.Numbers.{number_of}
use Rattle.csv_tables.specs.Records.{Record, records_of}
use Rattle.csv_tables.specs.Rows.{Row, row_of_record, rows_of_records, values_of_record}
use Rattle.csv_tables.specs.Steps.{◌>>=◌, or_refuse, refuse_if, then_all}
use Rattle.csv_tables.specs.Values.{Int, Text, Value, is_same, value_cmp, value_of_field}
use Rattle.csv_tables.proofs.FieldFacts.{TextRead, text_after_mark, text_read}
use Rattle.table_files.proofs.FewRows.{not_refused, then_ok, with_keys}

-- ---- texts are UTF-8

abbrev pub IsUtf8Value : Value → Type 0
IsUtf8Value (Int number) = ⊤
IsUtf8Value (Text text) = IsUtf8 text

next_texts : (n : ℕ) (s : State) (xs : List ℕ) → IsUtf8 xs → ((t : State) (ys : List ℕ) → IsUtf8 ys → AllByRecursion AllText (records_from default_config n t ys))
    → (o : Option Read) → next_record default_config s [] [] xs ≡ o → AllByRecursion AllText (records_next (records_from default_config n) o)
next_texts n s xs text later None is = tt
next_texts n s xs text later (Some p) is =
    let read : TextRead p.0 p.2 = text_read s xs p.0 p.1 p.2 text (subst (λ (o : Option Read). NextIs o true p.0 p.1 p.2) (sym is) (refl, refl, refl, refl)) in
    (read.all, later p.1 p.2 read.text)

record_texts : (n : ℕ) (s : State) (xs : List ℕ) → IsUtf8 xs → AllByRecursion AllText (records_from default_config n s xs)
unfolding records_from
record_texts zero s xs text = tt
record_texts (suc n) s xs text = next_texts n s xs text (record_texts n) (next_record default_config s [] [] xs) refl

behind_header : (records : List Record) → AllByRecursion AllText records → AllByRecursion AllText (after_header records)
behind_header [] h = tt
behind_header (header ∷ records) h = h.1

field_text : (fields : Record) (place : ℕ) → AllText fields → IsUtf8 (get_or fields place [])
unfolding AllText
field_text [] place h = IsUtf8-nil
field_text (field ∷ fields) zero h = h.0
field_text (field ∷ fields) (suc place) h = field_text fields place h.1

number_readable : (number : Option ℤ) (v : Value) → option_map Int number ≡ Some v → IsUtf8Value v
number_readable None v is = absurd cc
number_readable (Some n) v is = let same : Int n ≡ v = cc in subst IsUtf8Value same tt

text_readable : (test : Bool) (field : List ℕ) (v : Value) → IsUtf8 field → (if test then Some (Text field) else None) ≡ Some v → IsUtf8Value v
text_readable true field v text is = let same : Text field ≡ v = cc in subst IsUtf8Value same text
text_readable false field v text is = absurd cc

field_readable : (k : Kind) (field : List ℕ) (v : Value) → IsUtf8 field → value_of_field k field ≡ Some v → IsUtf8Value v
field_readable kind.Int field v text is = number_readable (number_of field) v is
field_readable (kind.Text most) field v text is = text_readable (nat_le (length (chars field)) most) field v text is

refused_or : {A : Type 0} (e : TableError) (o : Option A) (x : A) → or_refuse e o ≡ Ok x → o ≡ Some x
refused_or e None x is = absurd cc
refused_or e (Some y) x is = let same : y ≡ x = cc in ap (λ z. Some z) same

both_ok : {A : Type 0} (first : Result A TableError) (rest : Result (List A) TableError) (all : List A) → then_all first rest ≡ Ok all
    → (x : A) × (xs : List A) × (first ≡ Ok x) × (rest ≡ Ok xs) × (x ∷ xs ≡ all)
both_ok (Ok x) (Ok xs) all is = (x, xs, refl, refl, cc)
both_ok (Ok x) (Err e) all is = absurd cc
both_ok (Err e) rest all is = absurd cc

row_readable : (number at : ℕ) (columns : List Column) (places : List ℕ) (fields : Record) (row : Row) → AllText fields
    → values_of_record number at columns places fields ≡ Ok row → AllByRecursion IsUtf8Value row
row_readable number at [] places fields row text is = let none : [] ≡ row = cc in subst (AllByRecursion IsUtf8Value) none tt
row_readable number at (column ∷ columns) [] fields row text is = let none : [] ≡ row = cc in subst (AllByRecursion IsUtf8Value) none tt
row_readable number at (column ∷ columns) (place ∷ places) fields row text is =
    let field : List ℕ = get_or fields place [] in
    let both = both_ok (or_refuse (error.Field number at) (value_of_field column.kind field)) (values_of_record number (at + 1) columns places fields) row is in
    let one : IsUtf8Value both.0 =
    field_readable column.kind field both.0 (field_text fields place text) (refused_or (error.Field number at) (value_of_field column.kind field) both.0 both.2) in
    subst (AllByRecursion IsUtf8Value) both.4 (one, row_readable number (at + 1) columns places fields both.1 text both.3)

rows_readable : (columns : List Column) (places : List ℕ) (width number : ℕ) (records : List Record) (rows : List Row) → AllByRecursion AllText records
    → rows_of_records columns places width number records ≡ Ok rows → AllByRecursion (AllByRecursion IsUtf8Value) rows
rows_readable columns places width number [] rows texts is = let none : [] ≡ rows = cc in subst (AllByRecursion (AllByRecursion IsUtf8Value)) none tt
rows_readable columns places width number (fields ∷ records) rows texts is =
    let both = both_ok (row_of_record columns places width number fields) (rows_of_records columns places width (number + 1) records) rows is in
    let wide = not_refused (nat_lt 4000000 number) (error.Limit 4000001)
    (refuse_if (not (nat_eq (length fields) width)) (error.Width number (length fields)) (values_of_record number 0 columns places fields)) both.0 both.2 in
    let values = not_refused (not (nat_eq (length fields) width)) (error.Width number (length fields)) (values_of_record number 0 columns places fields) both.0 wide in
    subst (AllByRecursion (AllByRecursion IsUtf8Value)) both.4
    (row_readable number 0 columns places fields both.0 texts.0 values, rows_readable columns places width (number + 1) records both.1 texts.1 both.3)

under_header : (columns : List Column) (records : List Record) (rows : List Row) → AllByRecursion AllText records → rows_under_header columns records ≡ Ok rows
    → AllByRecursion (AllByRecursion IsUtf8Value) rows
unfolding rows_under_header
under_header columns records rows texts is =
    let read = then_ok (column_places 0 columns (header_of records)) (λ places. rows_of_records columns places (length (header_of records)) 1 (after_header records)) rows is in
    rows_readable columns read.0 (length (header_of records)) 1 (after_header records) rows (behind_header records texts) read.2

-- ---- no key has the same values twice

keys_kept : (keys : List (List ℕ)) (rows found : List Row) → rows_with_keys keys rows ≡ Ok found → AllByRecursion (λ key. first_repeat key rows ≡ None) keys
keys_kept [] rows found is = tt
keys_kept (key ∷ keys) rows found is =
    (elim (first_repeat key rows) as (λ repeat. or_rows rows repeat (rows_with_keys keys rows) ≡ Ok found → (repeat ≡ None) × AllByRecursion (λ other. first_repeat other rows ≡ None) keys) [
      | None ↦ λ all. (refl, keys_kept keys rows found all)
      | Some repeat ↦ λ all. absurd cc
    ]) is

not_some : {A : Type 0} (test : Bool) (x : A) → (if test then Some x else None) ≡ None → test ≡ false
not_some true x is = absurd cc
not_some false x is = refl

passed : {X : Type 0} (p : X → Bool) (xs : List X) → position p xs ≡ None → (k : ℕ) (d : X) → k < length xs → p (get_or xs k d) ≡ false
passed p xs none k d low =
    let all : length xs ≤ position_or_len p xs = ltb-false (position_or_len p xs) (length xs) (not_some (nat_lt (position_or_len p xs) (length xs)) (position_or_len p xs) none) in
    fails_before_first p xs k d (omega (arith, all, low))

both_none : (seen : List (List Value)) (x : List Value) (rest : List (List Value)) → repeat_after seen (x ∷ rest) ≡ None
    → (repeat_after (seen ++ x ∷ []) rest ≡ None) × (position (are_same x) seen ≡ None)
both_none seen x rest is =
    (elim (position (are_same x) seen) as (λ place. repeat_or (repeat_after (seen ++ x ∷ []) rest) place (length seen + 1) ≡ None
    → (repeat_after (seen ++ x ∷ []) rest ≡ None) × (place ≡ None)) [
      | None ↦ λ none. (none, refl)
      | Some place ↦ λ none. absurd cc
    ]) is

none_before : (seen rest : List (List Value)) → repeat_after seen rest ≡ None → (i j : ℕ) → i < j → length seen ≤ j → j < length seen + length rest
    → are_same (get_or (seen ++ rest) j []) (get_or (seen ++ rest) i []) ≡ false
none_before seen [] none i j less from' low = absurd (omega arith)
none_before seen (x ∷ rest) none i j less from' low =
    let parts = both_none seen x rest none in
    elim (cases_eq j (length seen)) [
      | inl here ↦
          let at_j : get_or (seen ++ x ∷ rest) j [] ≡ x = ap (λ (n : ℕ). get_or (seen ++ x ∷ rest) n []) here ∙ get_or-append_seam seen x rest [] in
          let at_i : get_or (seen ++ x ∷ rest) i [] ≡ get_or seen i [] = get_or-append seen (x ∷ rest) [] i (omega (arith, less, here)) in
          ap (λ (v : List Value). are_same v (get_or (seen ++ x ∷ rest) i [])) at_j ∙ ap (are_same x) at_i ∙ passed (are_same x) seen parts.1 i [] (omega (arith, less, here))
      | inr past ↦
          let lengths : length (seen ++ x ∷ []) ≡ length seen + 1 = length-append seen (x ∷ []) in
          let whole : (seen ++ x ∷ []) ++ rest ≡ seen ++ x ∷ rest = append_assoc seen (x ∷ []) rest in
          ap (λ (all : List (List Value)). are_same (get_or all j []) (get_or all i [])) (sym whole)
          ∙ none_before (seen ++ x ∷ []) rest parts.0 i j less (omega (arith, lengths, from', past)) (omega (arith, lengths, low))
    ]

-- ---- values that compare as equal are equal

equal_values : (a b : Value) → IsUtf8Value a → IsUtf8Value b → is_eq (value_cmp a b) ≡ true → a ≡ b
equal_values (Int a) (Int b) p q h = ap Int (exact_signed a b ((Equal-is (int_cmp a b)).0 h))
equal_values (Int a) (Text b) p q h = absurd (false≢true h)
equal_values (Text a) (Int b) p q h = absurd (false≢true h)
equal_values (Text a) (Text b) p q h =
    let same : chars a ≡ chars b = exact_bytes (chars a) (chars b) ((Equal-is (slice_cmp nat_cmp (chars a) (chars b))).0 h) in
    ap Text (sym (encodes-chars a p) ∙ ap encode_utf8_all same ∙ encodes-chars b q)

same_itself : (v : Value) → is_same v v ≡ true
same_itself (Int n) = (Decides-int_eq n n).1 refl
same_itself (Text text) = (bytes_eq-Decides text text).1 refl

value_readable : (row : Row) (column : ℕ) → AllByRecursion IsUtf8Value row → IsUtf8Value (get_or row column (Int (pos 0)))
value_readable [] column h = tt
value_readable (v ∷ row) zero h = h.0
value_readable (v ∷ row) (suc column) h = value_readable row column h.1

row_at : (rows : List Row) (i : ℕ) → AllByRecursion (AllByRecursion IsUtf8Value) rows → AllByRecursion IsUtf8Value (get_or rows i [])
row_at [] i h = tt
row_at (row ∷ rows) zero h = h.0
row_at (row ∷ rows) (suc i) h = row_at rows i h.1

-- ---- the texts in a file's rows are UTF-8, and no key of the table repeats in the rows

pub record KeepsKeys (table : Table) (rows : List Row) : Type 0 where
  pub texts_are_utf8 : AllByRecursion (AllByRecursion IsUtf8Value) rows
  pub keys : AllByRecursion (λ key. first_repeat key rows ≡ None) table.keys

pub file_keeps : (table : Table) (bytes : List ℕ) (rows : List Row) → rows_of_file table bytes ≡ Ok rows → KeepsKeys table rows
unfolding rows_of_file rows_in_records
file_keeps table bytes rows is = by (is_utf8 bytes) refl
  where
    records : List Record
    records = records_of (strip_bom bytes)

    by : (valid : Bool) → is_utf8 bytes ≡ valid → KeepsKeys table rows
    by false bad = absurd (let refused : rows_of_file table bytes ≡ Err (error.Utf8 (utf8_valid_len bytes)) = rw bad refl in cc)
    by true valid =
        let sound = not_refused (not (is_utf8 bytes)) (error.Utf8 (utf8_valid_len bytes)) (rows_under_header table.columns records >>= rows_with_keys table.keys) rows is in
        let read = then_ok (rows_under_header table.columns records) (rows_with_keys table.keys) rows sound in
        let same : read.0 ≡ rows = with_keys table.keys read.0 rows read.2 in
        let text : IsUtf8 (strip_bom bytes) = text_after_mark bytes (IsUtf8-from_is_utf8 bytes valid) in
        let texts : AllByRecursion AllText records = record_texts (length (strip_bom bytes) + 1) st.StartRecord (strip_bom bytes) text in
        subst (KeepsKeys table) same (record {
          texts_are_utf8 = under_header table.columns records read.0 texts read.1;
          keys = keys_kept table.keys read.0 rows read.2;
        })

module _ (rows : List Row) (texts_are_utf8 : AllByRecursion (AllByRecursion IsUtf8Value) rows) (column : ℕ) (no_repeat : first_repeat (column ∷ []) rows ≡ None) where
  abbrev value_in : ℕ → Value
  value_in i = get_or (get_or rows i []) column (Int (pos 0))

  key_at : (i : ℕ) → i < length rows → get_or (map (key_values (column ∷ [])) rows) i [] ≡ value_in i ∷ []
  key_at i low = get_or-map (key_values (column ∷ [])) rows i [] [] low

  before : (i j : ℕ) → i < j → j < length rows → value_in i ≡ value_in j → ⊥
  before i j less low same =
      let keys : List (List Value) = map (key_values (column ∷ [])) rows in
      let lengths : length keys ≡ length rows = length-map rows (key_values (column ∷ [])) in
      let apart' : are_same (get_or keys j []) (get_or keys i []) ≡ false = none_before [] keys no_repeat i j less (omega arith) (omega (arith, low, lengths)) in
      let keys_apart : are_same (value_in j ∷ []) (value_in i ∷ []) ≡ false =
      ap (λ (k : List Value). are_same k (value_in i ∷ [])) (sym (key_at j low)) ∙ ap (are_same (get_or keys j [])) (sym (key_at i (omega (arith, less, low)))) ∙ apart' in
      let alike : is_same (value_in j) (value_in i) ≡ true = ap (is_same (value_in j)) same ∙ same_itself (value_in j) in
      let both : are_same (value_in j ∷ []) (value_in i ∷ []) ≡ true = rw alike refl in
      false≢true (sym keys_apart ∙ both)

  pub rows_apart : (i j : ℕ) → i < length rows → j < length rows → is_eq (value_cmp (value_in i) (value_in j)) ≡ true → i ≡ j
  rows_apart i j low high h =
      let same : value_in i ≡ value_in j =
      equal_values (value_in i) (value_in j) (value_readable (get_or rows i []) column (row_at rows i texts_are_utf8)) (value_readable (get_or rows j []) column (row_at rows j texts_are_utf8)) h in
      elim (cases_lt i j) [
        | inl less ↦ absurd (before i j less high same)
        | inr most ↦ elim (cases_eq i j) [
          | inl is ↦ is
          | inr apart' ↦ absurd (before j i (omega (arith, most, apart')) low (sym same))
        ]
      ]
