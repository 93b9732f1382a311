-- Files without a quotation mark: their records below the header, and the rows of these records.
use Rattle.std.proofs.Common.{◌≡◌, ◌⊎◌, inl, inr, ◌<◌, ◌≤◌, ◌+◌, ℕ, List, [], ◌∷◌, length, drop, get_or, Bool, true, false, refl, sym, ap, ◌∙◌, ◌&&◌, if◌then◌else◌}
use Rattle.std.specs.Prelude.{◌==◌}
use Rattle.std.specs.List.{starts_with}
use Rattle.std.proofs.lemmas.Bool.{and_parts, cases_lt, eq-eqb, eqb-false, eqb-true, false≢true, ne_eqb, or_parts, true≢false}
use Rattle.csv.specs.Reading.{strip_bom}
use Rattle.schema_types.specs.declared.types.Column.{Column}
use Rattle.plain_records.specs.Plain.{after_line, ends_line, first_record, has_quote, is_quote, plain_records}
use Rattle.plain_records.proofs.OffsetFacts.{no_more_records, one_record}
use Rattle.plain_records.proofs.RecordFacts.{plain_is}
use Rattle.csv_tables.specs.declared.types.TableError.{TableError}
use Rattle.csv_tables.specs.Cells.{rows_of_columns}
use Rattle.csv_tables.specs.Fields.{IsAfterLine}
use Rattle.csv_tables.specs.Reads.{kinds_of}
use Rattle.csv_tables.specs.Records.{records_of, Record}
use Rattle.csv_tables.specs.Refused.{IsRefusalOrNoMemory}
use Rattle.csv_tables.specs.Rows.{row_of_record, rows_of_records}
use Rattle.csv_tables.proofs.FileFacts.{refuses_so}
use Rattle.csv_tables.proofs.StepFacts.{read_refused}
use Rattle.csv_tables.proofs.TableFacts.{RowsSoFar}

-- ---- the byte order mark

-- the three bytes of the mark, compared one by one
abbrev are_mark : ℕ → ℕ → ℕ → Bool
are_mark a b c = (0xEF == a) && ((0xBB == b) && ((0xBF == c) && true))

is_mark : (a b c : ℕ) (rest : List ℕ) → are_mark a b c ≡ true → strip_bom (a ∷ b ∷ c ∷ rest) ≡ rest
unfolding strip_bom
is_mark a b c rest e =
    let one = and_parts (0xEF == a) ((0xBB == b) && ((0xBF == c) && true)) e in
    let two = and_parts (0xBB == b) ((0xBF == c) && true) one.1 in
    let three = and_parts (0xBF == c) true two.1 in
    let x : (a == 0xEF) ≡ true = eq-eqb a 0xEF (sym (eqb-true 0xEF a one.0)) in
    let y : (b == 0xBB) ≡ true = eq-eqb b 0xBB (sym (eqb-true 0xBB b two.0)) in
    let z : (c == 0xBF) ≡ true = eq-eqb c 0xBF (sym (eqb-true 0xBF c three.0)) in
    rw (x, y, z) refl

other_way : (a b : ℕ) (x : Bool) → (b == a) ≡ x → (a == b) ≡ x
other_way a b true e = eq-eqb a b (sym (eqb-true b a e))
other_way a b false e = ne_eqb a b (λ same. eqb-false b a e (sym same))

fails_by : (a b c : ℕ) (rest : List ℕ) (x y z : Bool) → (0xEF == a) ≡ x → (0xBB == b) ≡ y → (0xBF == c) ≡ z → (x && (y && (z && true))) ≡ false
    → strip_bom (a ∷ b ∷ c ∷ rest) ≡ a ∷ b ∷ c ∷ rest
unfolding strip_bom
fails_by a b c rest true true true x y z e = absurd (true≢false e)
fails_by a b c rest true true false x y z e =
    let one : (a == 0xEF) ≡ true = other_way a 0xEF true x in
    let two : (b == 0xBB) ≡ true = other_way b 0xBB true y in
    let three : (c == 0xBF) ≡ false = other_way c 0xBF false z in
    rw (one, two, three) refl
fails_by a b c rest true false t x y z e =
    let one : (a == 0xEF) ≡ true = other_way a 0xEF true x in
    let two : (b == 0xBB) ≡ false = other_way b 0xBB false y in
    rw (one, two) refl
fails_by a b c rest false s t x y z e = let one : (a == 0xEF) ≡ false = other_way a 0xEF false x in rw one refl

-- bytes that begin with the mark, and bytes that do not
pub mark_there : (bytes : List ℕ) → starts_with (λ a b. a == b) bytes (0xEF ∷ 0xBB ∷ 0xBF ∷ []) ≡ true → drop 3 bytes ≡ strip_bom bytes
mark_there [] e = absurd (false≢true e)
mark_there (a ∷ []) e = absurd (false≢true (and_parts (0xEF == a) false e).1)
mark_there (a ∷ b ∷ []) e = absurd (false≢true (and_parts (0xBB == b) false (and_parts (0xEF == a) ((0xBB == b) && false) e).1).1)
mark_there (a ∷ b ∷ c ∷ rest) e = sym (is_mark a b c rest e)

pub no_mark : (bytes : List ℕ) → starts_with (λ a b. a == b) bytes (0xEF ∷ 0xBB ∷ 0xBF ∷ []) ≡ false → drop 0 bytes ≡ strip_bom bytes
unfolding strip_bom
no_mark [] e = refl
no_mark (a ∷ []) e = refl
no_mark (a ∷ b ∷ []) e = refl
no_mark (a ∷ b ∷ c ∷ rest) e = sym (fails_by a b c rest (0xEF == a) (0xBB == b) (0xBF == c) refl refl refl e)

unquoted_by : (whole rest : List ℕ) (b : Bool) → has_quote whole ≡ false → has_quote rest ≡ false → has_quote (if b then rest else whole) ≡ false
unquoted_by whole rest true h r = r
unquoted_by whole rest false h r = h

-- if the bytes have no quotation mark, the bytes after the byte order mark have no quotation mark either
pub no_quote_behind : (bytes : List ℕ) → has_quote bytes ≡ false → has_quote (strip_bom bytes) ≡ false
unfolding strip_bom
no_quote_behind [] h = h
no_quote_behind (a ∷ []) h = h
no_quote_behind (a ∷ b ∷ []) h = h
no_quote_behind (a ∷ b ∷ c ∷ rest) h =
    let one = or_parts (is_quote a) (has_quote (b ∷ c ∷ rest)) h in
    let two = or_parts (is_quote b) (has_quote (c ∷ rest)) one.1 in
    unquoted_by (a ∷ b ∷ c ∷ rest) rest _ h (or_parts (is_quote c) (has_quote rest) two.1).1

-- the records after a header's line, where the line begins at `start`
pub behind_first : (bytes : List ℕ) (mark start next : ℕ) → drop mark bytes ≡ strip_bom bytes → plain_records (drop mark bytes) ≡ plain_records (drop start bytes)
    → (start < length bytes → ends_line (get_or bytes start 0) ≡ false) → drop next bytes ≡ after_line (drop start bytes)
    → (header : Record) (records : List Record) → plain_records (strip_bom bytes) ≡ header ∷ records → plain_records (drop next bytes) ≡ records
behind_first bytes mark start next is same stands rest header records e = by (cases_lt start (length bytes))
  where
    whole : plain_records (drop start bytes) ≡ header ∷ records
    whole = sym (ap plain_records (sym is) ∙ same) ∙ e

    by : (start < length bytes) ⊎ (length bytes ≤ start) → plain_records (drop next bytes) ≡ records
    by (inl l) =
        let first : first_record (drop start bytes) ∷ plain_records (after_line (drop start bytes)) ≡ header ∷ records = sym (one_record bytes start l (stands l)) ∙ whole in
        let others : plain_records (after_line (drop start bytes)) ≡ records = cc in
        ap plain_records rest ∙ others
    by (inr l) = let none : [] ≡ header ∷ records = sym (no_more_records bytes start l) ∙ whole in absurd (cc)

-- the records below the header of a file without a quotation mark
pub rest_is : (bytes : List ℕ) (start : ℕ) (header : Record) (rest : List Record) → has_quote bytes ≡ false → records_of (strip_bom bytes) ≡ header ∷ rest
    → ((h : Record) (rs : List Record) → plain_records (strip_bom bytes) ≡ h ∷ rs → plain_records (drop start bytes) ≡ rs) → plain_records (drop start bytes) ≡ rest
rest_is bytes start header rest none e h = h header rest (sym (plain_is (strip_bom bytes) (no_quote_behind bytes none)) ∙ e)

-- ---- rows

-- the records from `at` on are the record that begins there, and then the records from `after` on
pub row_behind : (bytes : List ℕ) (at next after : ℕ) → at < length bytes → ends_line (get_or bytes at 0) ≡ false → IsAfterLine bytes at next
    → plain_records (drop next bytes) ≡ plain_records (drop after bytes) → plain_records (drop at bytes) ≡ first_record (drop at bytes) ∷ plain_records (drop after bytes)
row_behind bytes at next after l stands b same =
    one_record bytes at l stands ∙ ap (λ rest. first_record (drop at bytes) ∷ rest) (sym (ap plain_records b.rest) ∙ same)

-- a record that is refused
pub rows_refused : (columns : List Column) (places : List ℕ) (width : ℕ) (records remaining after : List Record) (fields : Record) (old texts found : List (List ℕ)) (rows : ℕ) (e : TableError)
    → RowsSoFar columns places width records remaining old texts found rows → remaining ≡ fields ∷ after → IsRefusalOrNoMemory (row_of_record columns places width (rows + 1) fields) e
    → IsRefusalOrNoMemory (rows_of_records columns places width 1 records) e
rows_refused columns places width records remaining after fields old texts found rows e so_far is refused =
    refuses_so (row_of_record columns places width (rows + 1) fields) (rows_of_records columns places width 1 records)
    (λ x bad. read_refused (rows_of_records columns places width 1 records) (rows_of_columns texts (kinds_of columns) found rows) (rows_of_records columns places width (rows + 1) remaining)
    (row_of_record columns places width (rows + 1) fields) x (rows_of_records columns places width (rows + 1 + 1) after) so_far.read
    (ap (rows_of_records columns places width (rows + 1)) is) bad) e refused
