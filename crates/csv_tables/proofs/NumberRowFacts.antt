-- Records of numbers: their fields, their cells and their rows.
use Rattle.std.proofs.Common.{◌≡◌, ◌≢◌, inl, inr, ℕ, suc, ◌+◌, ◌<◌, ◌≤◌, min, Bool, true, false, List, [], ◌∷◌, ◌++◌, length, take, drop, get_or, set, map, None, Some, Ok, refl, sym, ap, ◌∙◌, subst, arith, append_assoc, length-append}
use Rattle.std.specs.Prelude.{◌==◌, All, IsSome, IsUtf8, is_some, nat_lt, option_map}
use Rattle.std.proofs.lemmas.Bool.{cases_lt, eq-eqb, false≢true, le-ltb}
use Rattle.std.proofs.lemmas.List.{drop_min, length-take-le, take_all, take_more, take_more_set, length-set}
use Rattle.std.proofs.lemmas.List.Elements.{All-push}
use Rattle.std.proofs.Math.Seq.{get_or-append_seam}
use Rattle.plain_records.specs.Plain.{after_line, before_first, ends_line, first_field, first_record, is_comma}
use Rattle.plain_records.proofs.LineFacts.{more_parts, split_first}
use Rattle.plain_records.proofs.OffsetFacts.{line_ends, line_goes_on, utf8_after_field}
use Rattle.schema_types.specs.declared.types.Column.{Column}
use Rattle.schema_types.specs.declared.types.Kind.TheVariants as kind
use Rattle.csv_tables.specs.declared.fields.Field.{Field}
use Rattle.csv_tables.specs.declared.types.TableError.TheVariants as error
use Rattle.csv_tables.specs.Fields.{IsFieldAt}
use Rattle.csv_tables.specs.NumberRows.{AreNumberCells, AreNumbersInOrder, IsNumberCell, IsRecordOfNumbers, ReadsNumbers}
use Rattle.csv_tables.specs.Numbers.{number_in, number_of}
use Rattle.csv_tables.specs.Reads.{kinds_of, AreCellsOfRow, HoldsRow}
use Rattle.csv_tables.specs.Records.{Record}
use Rattle.csv_tables.specs.Rows.{row_of_record, values_of_record, Row}
use Rattle.csv_tables.specs.Steps.{or_refuse, then_all}
use Rattle.csv_tables.specs.Values.{Int, value_of_field}
use Rattle.csv_tables.proofs.SpanFacts.{some_field}

abbrev IsOfNumbers : Column → Type 0
IsOfNumbers column = column.kind ≡ kind.Int

-- ---- for the loop of `are_numbers_in_order` over the columns

pub order_more : (places : List ℕ) (at : ℕ) → ((i : ℕ) → i < at → get_or places i 0 ≡ i) → get_or places at 0 ≡ at → (i : ℕ) → i < at + 1 → get_or places i 0 ≡ i
order_more places at so_far here i l = elim (cases_lt i at) [
  | inl lt ↦ so_far i lt
  | inr ge ↦ let e : i ≡ at = omega (arith, l, ge) in subst (λ n. get_or places n 0 ≡ n) (sym e) here
]

pub kinds_more : (columns : List Column) (at : ℕ) (column : Column) → at < length columns → column ≡ get_or columns at column → All (λ (k : Column). k.kind ≡ kind.Int) (take at columns) → column.kind ≡ kind.Int
    → All (λ (k : Column). k.kind ≡ kind.Int) (take (at + 1) columns)
kinds_more columns at column l c so_far here =
    subst (All IsOfNumbers) (sym (take_more columns at column l ∙ ap (λ k. take at columns ++ k ∷ []) (sym c))) (All-push IsOfNumbers (take at columns) column so_far here)

-- ---- for the loop of `read_numbers` over the fields

first_by : (c : ℕ) (rest : List ℕ) (comma line : Bool) → is_comma c ≡ comma → ends_line c ≡ line → before_first is_comma (before_first ends_line rest) ≡ first_field rest
    → before_first is_comma (before_first ends_line (c ∷ rest)) ≡ first_field (c ∷ rest)
first_by c rest true true x y e = rw (x, y) refl
first_by c rest false true x y e = rw (x, y) refl
first_by c rest true false x y e = rw (y, x) refl
first_by c rest false false x y e = rw (y, x) (ap (λ f. c ∷ f) e)

field_of_line : (bytes : List ℕ) → before_first is_comma (before_first ends_line bytes) ≡ first_field bytes
field_of_line [] = refl
field_of_line (c ∷ rest) = first_by c rest (is_comma c) (ends_line c) refl refl (field_of_line rest)

-- a record begins with its first field
record_begins : (bytes : List ℕ) → first_record bytes ≡ first_field bytes ∷ more_parts is_comma (before_first ends_line bytes)
record_begins bytes = split_first is_comma (before_first ends_line bytes) ∙ ap (λ f. f ∷ more_parts is_comma (before_first ends_line bytes)) (field_of_line bytes)

-- the first `place` fields of a record spell the numbers of the first `place` cells, and the next field begins at `at`
pub record NumbersSoFar (bytes : List ℕ) (start at place : ℕ) (cells : List ℕ) : Type 0 where
  pub from : start ≤ at
  pub within : at ≤ length bytes
  pub before : Record
  pub read : first_record (drop start bytes) ≡ before ++ first_record (drop at bytes)
  pub numbers : AreNumberCells before (take place cells)
  pub same_rest : after_line (drop start bytes) ≡ after_line (drop at bytes)

pub numbers_none : (bytes : List ℕ) (start : ℕ) (cells : List ℕ) → start ≤ length bytes → NumbersSoFar bytes start start 0 cells
numbers_none bytes start cells l = record { from = omega arith; within = l; before = []; read = refl; numbers = tt; same_rest = refl }

numbers_push : (fields : Record) (cells : List ℕ) (field : List ℕ) (cell : ℕ) → AreNumberCells fields cells → IsNumberCell field cell
    → AreNumberCells (fields ++ field ∷ []) (cells ++ cell ∷ [])
numbers_push [] [] field cell h one = (one, tt)
numbers_push [] (x ∷ xs) field cell h one = absurd h
numbers_push (f ∷ fs) [] field cell h one = absurd h
numbers_push (f ∷ fs) (x ∷ xs) field cell h one = (h.0, numbers_push fs xs field cell h.1 one)

one_more : (before : Record) (cells : List ℕ) (place : ℕ) (field : List ℕ) (cell : ℕ) → place < length cells → AreNumberCells before (take place cells) → IsNumberCell field cell
    → AreNumberCells (before ++ field ∷ []) (take (place + 1) (set cells place cell))
one_more before cells place field cell l h one =
    subst (AreNumberCells (before ++ field ∷ [])) (sym (take_more_set cells place cell l)) (numbers_push before (take place cells) field cell h one)

-- a number with a comma after it
pub numbers_more : (bytes : List ℕ) (start at place : ℕ) (cells : List ℕ) (field : Field) (cell : ℕ) → NumbersSoFar bytes start at place cells → IsFieldAt bytes at field
    → IsNumberCell (first_field (drop at bytes)) cell → field.end < length bytes → get_or bytes field.end 0 ≡ 44 → place < length cells
    → NumbersSoFar bytes start (field.end + 1) (place + 1) (set cells place cell)
numbers_more bytes start at place cells field cell s f one l e within =
    let line = line_goes_on bytes at field.end f.is_field l e in
    record {
      from = omega (arith, s.from, f.is_field.from);
      within = omega (arith, l);
      before = s.before ++ first_field (drop at bytes) ∷ [];
      read = s.read ∙ ap (λ r. s.before ++ r) line.fields_are ∙ sym (append_assoc s.before (first_field (drop at bytes) ∷ []) (first_record (drop (field.end + 1) bytes)));
      numbers = one_more s.before cells place (first_field (drop at bytes)) cell within s.numbers one;
      same_rest = s.same_rest ∙ line.behind_is;
    }

-- the last number of a record
pub numbers_last : (bytes : List ℕ) (start at place : ℕ) (cells : List ℕ) (field : Field) (cell : ℕ) → NumbersSoFar bytes start at place cells → IsUtf8 bytes → IsFieldAt bytes at field
    → IsNumberCell (first_field (drop at bytes)) cell → (field.end < length bytes → is_comma (get_or bytes field.end 0) ≡ false) → place < length cells → place + 1 ≡ length cells
    → ReadsNumbers bytes start (set cells place cell) (min (field.end + 1) (length bytes))
numbers_last bytes start at place cells field cell s text f one e within last =
    let line = line_ends bytes at field.end f.is_field e in
    let at_most_length : length (set cells place cell) ≤ place + 1 = omega (arith, length-set cells place cell, last) in
    let all : take (place + 1) (set cells place cell) ≡ set cells place cell = take_all (place + 1) (set cells place cell) at_most_length in
    let record_is : first_record (drop start bytes) ≡ s.before ++ first_field (drop at bytes) ∷ [] = s.read ∙ ap (λ r. s.before ++ r) line.fields_are in
    let more : AreNumberCells (s.before ++ first_field (drop at bytes) ∷ []) (set cells place cell) =
    subst (AreNumberCells (s.before ++ first_field (drop at bytes) ∷ [])) all (one_more s.before cells place (first_field (drop at bytes)) cell within s.numbers one) in
    record {
      numbers = subst (λ (r : Record). AreNumberCells r (set cells place cell)) (sym record_is) more;
      behind = record {
        rest = drop_min (field.end + 1) bytes ∙ sym (s.same_rest ∙ line.behind_is);
        within = omega arith;
        further = λ inside. omega (arith, s.from, f.is_field.from, inside);
        text = utf8_after_field bytes field.end text f.is_field.stops;
      };
    }

-- ---- records that aren't of numbers, or have fewer or more fields than the header

numbers_length : (fields : Record) (cells : List ℕ) → AreNumberCells fields cells → length fields ≡ length cells
numbers_length [] [] h = refl
numbers_length [] (x ∷ xs) h = absurd h
numbers_length (f ∷ fs) [] h = absurd h
numbers_length (f ∷ fs) (x ∷ xs) h = ap (λ n. suc n) (numbers_length fs xs h.1)

before_long : (bytes : List ℕ) (start at place : ℕ) (cells : List ℕ) (s : NumbersSoFar bytes start at place cells) → place ≤ length cells → length s.before ≡ place
before_long bytes start at place cells s within = numbers_length s.before (take place cells) s.numbers ∙ length-take-le place cells within

no_number_among : (count : ℕ) (before rest : Record) (field : List ℕ) → number_of field ≡ None → ¬ IsRecordOfNumbers count (before ++ field ∷ rest)
no_number_among count before rest field none r =
    let within : length before < length (before ++ field ∷ rest) = omega (arith, length-append before (field ∷ rest)) in
    let here : IsSome (number_of field) = subst (λ (f : List ℕ). IsSome (number_of f)) (get_or-append_seam before field rest []) (r.numbers (length before) [] within) in
    false≢true (sym (ap is_some none) ∙ here)

-- the next field spells no number
pub no_number : (bytes : List ℕ) (start at place : ℕ) (cells : List ℕ) (count : ℕ) → NumbersSoFar bytes start at place cells → number_of (first_field (drop at bytes)) ≡ None
    → ¬ IsRecordOfNumbers count (first_record (drop start bytes))
no_number bytes start at place cells count s none =
    let rest : Record = more_parts is_comma (before_first ends_line (drop at bytes)) in
    let whole : first_record (drop start bytes) ≡ s.before ++ first_field (drop at bytes) ∷ rest = s.read ∙ ap (λ r. s.before ++ r) (record_begins (drop at bytes)) in
    subst (λ (r : Record). ¬ IsRecordOfNumbers count r) (sym whole) (no_number_among count s.before rest (first_field (drop at bytes)) none)

-- the record's last field comes after `place` fields
pub other_count : (bytes : List ℕ) (start at place : ℕ) (cells : List ℕ) (field : Field) (count : ℕ) → NumbersSoFar bytes start at place cells → IsFieldAt bytes at field
    → (field.end < length bytes → is_comma (get_or bytes field.end 0) ≡ false) → place ≤ length cells → place + 1 ≢ count
    → ¬ IsRecordOfNumbers count (first_record (drop start bytes))
other_count bytes start at place cells field count s f e within differs r =
    let line = line_ends bytes at field.end f.is_field e in
    let whole : first_record (drop start bytes) ≡ s.before ++ first_field (drop at bytes) ∷ [] = s.read ∙ ap (λ r. s.before ++ r) line.fields_are in
    let last : length (first_record (drop start bytes)) ≡ place + 1 = ap (λ (r : Record). length r) whole ∙ length-append s.before (first_field (drop at bytes) ∷ [])
    ∙ ap (λ n. n + 1) (before_long bytes start at place cells s within) in
    differs (sym last ∙ r.lengths)

-- the record goes on after as many fields as the header has
pub more_numbers : (bytes : List ℕ) (start at place : ℕ) (cells : List ℕ) (count : ℕ) → NumbersSoFar bytes start at place cells → place ≤ length cells → count ≤ place
    → ¬ IsRecordOfNumbers count (first_record (drop start bytes))
more_numbers bytes start at place cells count s within many r =
    omega (arith, r.lengths, many, ap (λ (r : Record). length r) s.read, length-append s.before (first_record (drop at bytes)), before_long bytes start at place cells s within, some_field (drop at bytes))

-- ---- the row of such a record

abbrev values_in : List ℕ → Row
values_in cells = map (λ cell. Int (number_in cell)) cells

one_value : (column : Column) (field : List ℕ) (cell : ℕ) → column.kind ≡ kind.Int → IsNumberCell field cell → value_of_field column.kind field ≡ Some (Int (number_in cell))
one_value column field cell is one = ap (λ k. value_of_field k field) is ∙ ap (option_map Int) one.spelled

values_are : (row_number at : ℕ) (columns : List Column) (places : List ℕ) (before rest : Record) (cells : List ℕ) → All IsOfNumbers columns → length places ≡ length columns → length cells ≡ length columns
    → ((i : ℕ) → i < length places → get_or places i 0 ≡ at + i) → length before ≡ at → AreNumberCells rest cells
    → values_of_record row_number at columns places (before ++ rest) ≡ Ok (values_in cells)
values_are row_number at [] places before rest [] kinds p l same b h = refl
values_are row_number at [] places before rest (x ∷ xs) kinds p l same b h = absurd (omega (arith, l))
values_are row_number at (c ∷ cs) [] before rest cells kinds p l same b h = absurd (omega (arith, p))
values_are row_number at (c ∷ cs) (q ∷ qs) before rest [] kinds p l same b h = absurd (omega (arith, l))
values_are row_number at (c ∷ cs) (q ∷ qs) before [] (x ∷ xs) kinds p l same b h = absurd h
values_are row_number at (c ∷ cs) (q ∷ qs) before (f ∷ fs) (x ∷ xs) kinds p l same b h =
    let place : q ≡ length before = omega (arith, same 0 (omega arith), b) in
    let field : get_or (before ++ f ∷ fs) q [] ≡ f = ap (λ n. get_or (before ++ f ∷ fs) n []) place ∙ get_or-append_seam before f fs [] in
    let value : value_of_field c.kind (get_or (before ++ f ∷ fs) q []) ≡ Some (Int (number_in x)) = ap (value_of_field c.kind) field ∙ one_value c f x (kinds 0 c (omega arith)) h.0 in
    let others : values_of_record row_number (at + 1) cs qs (before ++ f ∷ fs) ≡ Ok (values_in xs) =
    ap (values_of_record row_number (at + 1) cs qs) (sym (append_assoc before (f ∷ []) fs))
    ∙ values_are row_number (at + 1) cs qs (before ++ f ∷ []) fs xs (λ i d j. kinds (suc i) d (omega (arith, j))) (omega (arith, p)) (omega (arith, l))
    (λ i j. omega (arith, same (suc i) (omega (arith, j)))) (omega (arith, length-append before (f ∷ []), b)) h.1 in
    ap (λ v. then_all (or_refuse (error.Field row_number at) v) (values_of_record row_number (at + 1) cs qs (before ++ f ∷ fs))) value
    ∙ ap (then_all (Ok (Int (number_in x)))) others

cells_are : (texts : List (List ℕ)) (columns : List Column) (fields : Record) (cells : List ℕ) → All IsOfNumbers columns → length cells ≡ length columns → AreNumberCells fields cells
    → AreCellsOfRow texts (kinds_of columns) (values_in cells) cells
cells_are texts [] fields [] kinds l h = tt
cells_are texts [] fields (x ∷ xs) kinds l h = absurd (omega (arith, l))
cells_are texts (c ∷ cs) fields [] kinds l h = absurd (omega (arith, l))
cells_are texts (c ∷ cs) [] (x ∷ xs) kinds l h = absurd h
cells_are texts (c ∷ cs) (f ∷ fs) (x ∷ xs) kinds l h =
    let is : c.kind ≡ kind.Int = kinds 0 c (omega arith) in
    (rw is (record { value_is = refl; is_cell = h.0.small }), cells_are texts cs fs xs (λ i d j. kinds (suc i) d (omega (arith, j))) (omega (arith, l)) h.1)

-- if a record's fields spell the numbers of `cells`, the record is a row, and `cells` are this row's cells
pub row_of_numbers : (texts : List (List ℕ)) (columns : List Column) (places : List ℕ) (width row_number : ℕ) (bytes : List ℕ) (start : ℕ) (cells : List ℕ) (next : ℕ)
    → AreNumbersInOrder columns places width → length places ≡ length columns → length cells ≡ width → row_number ≤ 4000000 → ReadsNumbers bytes start cells next
    → HoldsRow (row_of_record columns places width row_number (first_record (drop start bytes))) texts (kinds_of columns) cells
row_of_numbers texts columns places width row_number bytes start cells next order paired cells_length few r =
    let fields : Record = first_record (drop start bytes) in
    let wide : length fields ≡ width = numbers_length fields cells r.numbers ∙ cells_length in
    let all : length cells ≡ length columns = cells_length ∙ sym order.lengths ∙ paired in
    let limit : nat_lt 4000000 row_number ≡ false = le-ltb 4000000 row_number few in
    let same : (length fields == width) ≡ true = eq-eqb (length fields) width wide in
    record {
      row = values_in cells;
      is_row = rw (limit, same) (values_are row_number 0 columns places [] fields cells order.kinds paired all (λ i l. omega (arith, order.order i l)) refl r.numbers);
      cells_of_row = cells_are texts columns fields cells order.kinds all r.numbers;
    }
