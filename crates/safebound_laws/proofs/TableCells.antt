-- For the rows in a table's file there are cells with these values. The texts of the cells are in a pool, which may grow with each value.
use Rattle.std.proofs.Common.{◌≡◌, ℕ, zero, suc, ◌+◌, ◌<◌, ◌≤◌, ℤ, Bool, true, false, not, if◌then◌else◌, List, [], ◌∷◌, ◌++◌, length, get_or, Option, None, Some, Result, Ok, Err, refl, ap, sym, ◌∙◌, subst, arith, SFits, append-nil}
use Rattle.std.specs.Prelude.{All, ◌==◌, ◌&&◌, nat_lt, nat_le, option_map, replicate}
use Rattle.std.specs.List.{AllByRecursion, IsDistinct, list_any}
use Rattle.std.specs.Cmp.{IsEquivalence}
use Rattle.std.specs.Int.{w64}
use Rattle.std.specs.Str.{IsUtf8, bytes_eq, chars, is_utf8}
use Rattle.std.specs.Str.Lossy.{utf8_valid_len}
use mir.ValLaws.{of_z_fits}
use Rattle.std.proofs.Math.Seq.{get_or-append_seam}
use Rattle.std.proofs.lemmas.Bool.Decides.{nat_tests}
use Rattle.std.proofs.lemmas.Int.{to_z-of_z}
use Rattle.std.proofs.lemmas.List.{length_push}
use Rattle.std.proofs.lemmas.List.Elements.{All-push}
use Rattle.std.proofs.lemmas.Map.Keys.{IsDistinct-push}
use Rattle.std.proofs.lemmas.Slice.Eq.{bytes_eq-Decides}
use Rattle.std.proofs.lemmas.Str.{IsUtf8-from_is_utf8, IsUtf8-nil}
use Rattle.csv.specs.Machine.{Read, next_record}
use Rattle.csv.specs.Reading.{default_config, records_from, records_next, strip_bom, NextIs}
use Rattle.csv.specs.Records.{AllText}
use Rattle.csv.specs.declared.parser.State.{State}
use Rattle.csv.specs.declared.parser.State.TheVariants as st
use Rattle.schema_types.proofs.NameIndexes.{bytes_eq-comm}
use Rattle.schema_types.specs.Validity.{IsValidTable}
use Rattle.schema_types.specs.declared.types.Column.{Column}
use Rattle.schema_types.specs.declared.types.Kind.{Kind}
use Rattle.schema_types.specs.declared.types.Kind.TheVariants as kind
use Rattle.schema_types.specs.declared.types.Table.{Table}
use Rattle.csv_tables.specs.Cells.{AreCellsOf, rows_of_cells, rows_of_columns}
use Rattle.csv_tables.specs.Files.{after_header, header_of, rows_in_records, rows_of_file, rows_under_header}
use Rattle.csv_tables.specs.Header.{column_place, column_places}
use Rattle.csv_tables.specs.Keys.{rows_with_keys}
use Rattle.csv_tables.specs.Numbers.{bits_of, decimal_after, greatest_magnitude, begins_with_minus, is_numeral, signed, magnitude_of, without_sign}
use Rattle.csv_tables.specs.Pools.{PoolBeginsWith}
use Rattle.csv_tables.specs.Reads.{AreCellsOfRow, IsCellOf, add_row, kinds_of}
use Rattle.csv_tables.specs.Records.{Record, records_of}
use Rattle.csv_tables.specs.Rows.{Row, row_of_record, rows_of_records, values_of_record}
use Rattle.csv_tables.specs.Steps.{◌>>=◌, or_refuse, refuse_if, then_all}
use Rattle.csv_tables.specs.Values.{Int, Text, Value, value_of_field}
use Rattle.csv_tables.specs.declared.types.Cells.{Cells}
use Rattle.csv_tables.specs.declared.types.TableError.{TableError}
use Rattle.csv_tables.specs.declared.types.TableError.TheVariants as error
use Rattle.csv_tables.proofs.FieldFacts.{text_after_mark, text_read}
use Rattle.csv_tables.proofs.GrowFacts.{begins_itself, begins_then, row-grown}
use Rattle.csv_tables.proofs.PoolFacts.{same_text}
use Rattle.csv_tables.proofs.TableFacts.{RowsSoFar, rows_more, rows_none}
use Rattle.table_files.proofs.FewRows.{then_ok, with_keys}

-- ---- pools

pub record IsPool (texts : List (List ℕ)) : Type 0 where
  pub utf8 : All IsUtf8 texts
  pub once : IsDistinct bytes_eq texts

pub record PoolGrows (old new : List (List ℕ)) (most : ℕ) : Type 0 where
  pub pool : IsPool new
  pub begins : PoolBeginsWith old new
  pub few : length new ≤ length old + most

-- ---- the cell of a value

bytes_alike : IsEquivalence bytes_eq
bytes_alike = record {
  refl = λ x. (bytes_eq-Decides x x).1 refl;
  symm = bytes_eq-comm;
  congr = λ x y z same. ap (λ (w : List ℕ). bytes_eq w z) (same_text x y same);
}

record CellFound (k : Kind) (value : Value) (old : List (List ℕ)) : Type 0 where
  new : List (List ℕ)
  cell : ℕ
  grows : PoolGrows old new 1
  is : IsCellOf new k value cell

record IndexOfText (texts : List (List ℕ)) (text : List ℕ) : Type 0 where
  place : ℕ
  low : place < length texts
  is : get_or texts place [] ≡ text

index_of_text : (texts : List (List ℕ)) (text : List ℕ) → list_any (bytes_eq text) texts ≡ true → IndexOfText texts text
index_of_text [] text e = absurd (cc)
index_of_text (t ∷ texts) text e = elim (bytes_eq text t) as (λ b. bytes_eq text t ≡ b → IndexOfText (t ∷ texts) text) [
  | true ↦ λ same. record { place = 0; low = omega arith; is = sym (same_text text t same) }
  | false ↦ λ differs. (let rest = index_of_text texts text (rw differs at e) in record { place = suc rest.place; low = omega (arith, rest.low); is = rest.is })
] refl

text_cell : (most : ℕ) (text : List ℕ) (old : List (List ℕ)) → IsPool old → IsUtf8 text → CellFound (kind.Text most) (Text text) old
text_cell most text old pool utf8 = elim (list_any (bytes_eq text) old) as (λ b. list_any (bytes_eq text) old ≡ b → CellFound (kind.Text most) (Text text) old) [
  | true ↦ λ there. (let at = index_of_text old text there in record {
    new = old;
    cell = at.place;
    grows = record { pool = pool; begins = begins_itself old; few = omega arith };
    is = record { value_is = ap (λ (t : List ℕ). Text t) at.is; is_cell = at.low };
  })
  | false ↦ λ absent. record {
    new = old ++ text ∷ [];
    cell = length old;
    grows = record {
      pool = record { utf8 = All-push IsUtf8 old text pool.utf8 utf8; once = IsDistinct-push bytes_alike old text pool.once absent };
      begins = record { more = text ∷ []; grew = refl };
      few = omega (arith, length_push old text);
    };
    is = record { value_is = ap (λ (t : List ℕ). Text t) (get_or-append_seam old text [] []); is_cell = omega (arith, length_push old text) };
  }
] refl

number_fits : (minus : Bool) (size : ℕ) → size ≤ greatest_magnitude minus → SFits w64 (signed minus size)
number_fits true zero low = record { sfits = omega arith }
number_fits true (suc size) low = record { sfits = omega (arith, low) }
number_fits false size low = record { sfits = omega (arith, low) }

numeral_is_at_most : (numeral fits : Bool) (n most size : ℕ) → nat_le n most ≡ fits → (if numeral && fits then Some n else None) ≡ Some size → size ≤ most
numeral_is_at_most true true n most size is e = (let same : n ≡ size = cc in grind (arith, nat_tests))
numeral_is_at_most true false n most size is e = absurd cc
numeral_is_at_most false fits n most size is e = absurd cc

number_cell : (minus : Bool) (found : Option ℕ) (value : Value) (old : List (List ℕ)) → IsPool old → ((size : ℕ) → found ≡ Some size → size ≤ greatest_magnitude minus)
    → option_map Int (option_map (signed minus) found) ≡ Some value → CellFound kind.Int value old
number_cell minus None value old pool fits e = absurd cc
number_cell minus (Some size) value old pool fits e =
    let n : ℤ = signed minus size in
    let fit : SFits w64 n = number_fits minus size (fits size refl) in
    let same : Int n ≡ value = cc in
    record {
      new = old;
      cell = bits_of n;
      grows = record { pool = pool; begins = begins_itself old; few = omega arith };
      is = record { value_is = ap Int (to_z-of_z w64 n fit) ∙ same; is_cell = (of_z_fits w64 n fit).fits };
    }

text_value : (most : ℕ) (short : Bool) (field : List ℕ) (value : Value) (old : List (List ℕ)) → IsPool old → IsUtf8 field
    → (if short then Some (Text field) else None) ≡ Some value → CellFound (kind.Text most) value old
text_value most true field value old pool utf8 e =
    let same : Text field ≡ value = cc in
    subst (λ (v : Value). CellFound (kind.Text most) v old) same (text_cell most field old pool utf8)
text_value most false field value old pool utf8 e = absurd cc

value_cell : (k : Kind) (field : List ℕ) (value : Value) (old : List (List ℕ)) → IsPool old → IsUtf8 field → value_of_field k field ≡ Some value → CellFound k value old
value_cell kind.Int field value old pool utf8 e =
    number_cell (begins_with_minus field) (magnitude_of (greatest_magnitude (begins_with_minus field)) (without_sign field)) value old pool
    (λ size is. numeral_is_at_most (is_numeral (without_sign field)) (nat_le (decimal_after 0 (without_sign field)) (greatest_magnitude (begins_with_minus field)))
    (decimal_after 0 (without_sign field)) (greatest_magnitude (begins_with_minus field)) size refl is) e
value_cell (kind.Text most) field value old pool utf8 e = text_value most (nat_le (length (chars field)) most) field value old pool utf8 e

-- ---- if `then_all` has a value, its first step has a value, and so have its other steps

pub record ThenBoth {A : Type 0} (first : Result A TableError) (rest : Result (List A) TableError) (all : List A) : Type 0 where
  pub x : A
  pub xs : List A
  pub first_is : first ≡ Ok x
  pub rest_is : rest ≡ Ok xs
  pub whole : x ∷ xs ≡ all

then_both : {A : Type 0} (first : Result A TableError) (rest : Result (List A) TableError) (all : List A) → then_all first rest ≡ Ok all → ThenBoth first rest all
then_both (Ok x) (Ok xs) all e = record { x = x; xs = xs; first_is = refl; rest_is = refl; whole = cc }
then_both (Ok x) (Err wrong) all e = absurd cc
then_both (Err wrong) rest all e = absurd cc

option_is_some : {A : Type 0} (e : TableError) (o : Option A) (x : A) → or_refuse e o ≡ Ok x → o ≡ Some x
option_is_some e None x is = absurd cc
option_is_some e (Some y) x is = (let same : y ≡ x = cc in ap Some same)

test_is_false : {A : Type 0} (test : Bool) (e : TableError) (next : Result A TableError) (y : A) → refuse_if test e next ≡ Ok y → (test ≡ false) × (next ≡ Ok y)
test_is_false true e next y is = absurd cc
test_is_false false e next y is = (refl, is)

-- ---- the cells of a row

field_is_text : (fields : List (List ℕ)) (place : ℕ) → AllText fields → IsUtf8 (get_or fields place [])
unfolding AllText
field_is_text [] place all = IsUtf8-nil
field_is_text (field ∷ fields) zero all = all.0
field_is_text (field ∷ fields) (suc place) all = field_is_text fields place all.1

record RowFound (kinds : List Kind) (row : Row) (old : List (List ℕ)) (most : ℕ) : Type 0 where
  new : List (List ℕ)
  cells : List ℕ
  grows : PoolGrows old new most
  are : AreCellsOfRow new kinds row cells

row_found : (number at : ℕ) (columns : List Column) (places : List ℕ) (fields : Record) (row : Row) (old : List (List ℕ)) → IsPool old → AllText fields
    → length places ≡ length columns → values_of_record number at columns places fields ≡ Ok row → RowFound (kinds_of columns) row old (length columns)
row_found number at [] places fields row old pool text paired e =
    let none : [] ≡ row = cc in
    record { new = old; cells = []; grows = record { pool = pool; begins = begins_itself old; few = omega arith }; are = subst (λ (r : Row). AreCellsOfRow old [] r []) none tt }
row_found number at (column ∷ columns) [] fields row old pool text paired e = absurd (omega (arith, paired))
row_found number at (column ∷ columns) (place ∷ places) fields row old pool text paired e =
    let both = then_both (or_refuse (error.Field number at) (value_of_field column.kind (get_or fields place []))) (values_of_record number (at + 1) columns places fields) row e in
    let one = value_cell column.kind (get_or fields place []) both.x old pool (field_is_text fields place text)
    (option_is_some (error.Field number at) (value_of_field column.kind (get_or fields place [])) both.x both.first_is) in
    let rest = row_found number (at + 1) columns places fields both.xs one.new one.grows.pool text (omega (arith, paired)) both.rest_is in
    let grown = row-grown one.new rest.new (column.kind ∷ []) (both.x ∷ []) (one.cell ∷ []) rest.grows.begins (one.is, tt) in
    record {
      new = rest.new;
      cells = one.cell ∷ rest.cells;
      grows = record {
        pool = rest.grows.pool;
        begins = begins_then old one.new rest.new one.grows.begins rest.grows.begins;
        few = omega (arith, one.grows.few, rest.grows.few);
      };
      are = subst (λ (r : Row). AreCellsOfRow rest.new (column.kind ∷ kinds_of columns) r (one.cell ∷ rest.cells)) both.whole (grown.0, rest.are);
    }

-- ---- the cells of rows

module _ (columns : List Column) (places : List ℕ) (width : ℕ) (records : List Record) (few : length columns ≤ 64) (paired : length places ≡ length columns) (old : List (List ℕ)) where
  record RowsFound : Type 0 where
    new : List (List ℕ)
    found : List (List ℕ)
    rows : ℕ
    so_far : RowsSoFar columns places width records [] old new found rows
    pool : IsPool new

  rows_found : (left : List Record) (texts found : List (List ℕ)) (rows : ℕ) (rest : List Row) → RowsSoFar columns places width records left old texts found rows
      → IsPool texts → AllByRecursion AllText left → rows_of_records columns places width (rows + 1) left ≡ Ok rest → RowsFound
  rows_found [] texts found rows rest so_far pool text e = record { new = texts; found = found; rows = rows; so_far = so_far; pool = pool }
  rows_found (fields ∷ after) texts found rows rest so_far pool text e =
      let both = then_both (row_of_record columns places width (rows + 1) fields) (rows_of_records columns places width (rows + 1 + 1) after) rest e in
      let numbered = test_is_false (nat_lt 4000000 (rows + 1)) (error.Limit 4000001) _ both.x both.first_is in
      let wide = test_is_false (not (length fields == width)) (error.Width (rows + 1) (length fields)) (values_of_record (rows + 1) 0 columns places fields) both.x numbered.1 in
      let row = row_found (rows + 1) 0 columns places fields both.x texts pool text.0 paired wide.1 in
      let low : rows + 1 ≤ 4000000 = (let within = numbered.0 in grind (arith, nat_tests)) in
      rows_found after row.new (add_row found row.cells) (rows + 1) both.xs
      (rows_more columns places width records (fields ∷ after) after fields old texts row.new found rows row.cells so_far refl
      (record { row = both.x; is_row = both.first_is; cells_of_row = row.are }) row.grows.begins (omega (arith, row.grows.few, few)) low)
      row.grows.pool text.1 both.rest_is

-- ---- the records of a UTF-8 text have UTF-8 fields

fields_of_record_are_text : (s : State) (xs : List ℕ) (p : Read) → IsUtf8 xs → next_record default_config s [] [] xs ≡ Some p → AllText p.0 × IsUtf8 p.2
fields_of_record_are_text s xs p text e =
    let read = text_read s xs p.0 p.1 p.2 text (subst (λ (o : Option Read). NextIs o true p.0 p.1 p.2) (sym e) (refl, refl, refl, refl)) in
    (read.all, read.text)

fields_of_records_are_text : (n : ℕ) (s : State) (xs : List ℕ) → IsUtf8 xs → AllByRecursion AllText (records_from default_config n s xs)
unfolding records_from
fields_of_records_are_text zero s xs text = tt
fields_of_records_are_text (suc n) s xs text = elim (next_record default_config s [] [] xs) as (λ o. next_record default_config s [] [] xs ≡ o → AllByRecursion AllText (records_next (records_from default_config n) o)) [
  | None ↦ λ e. tt
  | Some p ↦ λ e. (let one = fields_of_record_are_text s xs p text e in (one.0, fields_of_records_are_text n p.1 p.2 one.1))
] refl

fields_after_header_are_text : (records : List Record) → AllByRecursion AllText records → AllByRecursion AllText (after_header records)
fields_after_header_are_text [] all = tt
fields_after_header_are_text (header ∷ records) all = all.1

-- ---- the cells of a table

places_paired : (number : ℕ) (columns : List Column) (header : Record) (places : List ℕ) → column_places number columns header ≡ Ok places → length places ≡ length columns
places_paired number [] header places e = (let none : [] ≡ places = cc in ap length (sym none))
places_paired number (column ∷ columns) header places e =
    let both = then_both (or_refuse (error.Header number) (column_place column.name header)) (column_places (number + 1) columns header) places e in
    ap length (sym both.whole) ∙ ap (λ (n : ℕ). suc n) (places_paired (number + 1) columns header both.xs both.rest_is)

pub record TableFound (table : Table) (rows : List Row) (old : List (List ℕ)) : Type 0 where
  pub new : List (List ℕ)
  pub cells : Cells
  pub pool : IsPool new
  pub begins : PoolBeginsWith old new
  pub are : AreCellsOf table new cells
  pub same : rows_of_cells new cells ≡ rows

these_rows : (found rows : List Row) (read : Result (List Row) TableError) → read ≡ Ok rows → read ≡ Ok (found ++ []) → found ≡ rows
these_rows found rows read is also =
    let whole : ◌≡◌ {A = Result (List Row) TableError} (Ok (found ++ [])) (Ok rows) = sym also ∙ is in
    let these : found ++ [] ≡ rows = cc in
    sym (append-nil found) ∙ these

under_header : (table : Table) (records : List Record) (rows : List Row) (old : List (List ℕ)) → length table.columns ≤ 64 → IsPool old → AllByRecursion AllText records
    → rows_under_header table.columns records ≡ Ok rows → TableFound table rows old
unfolding rows_under_header
under_header table records rows old few pool text e =
    let columns = table.columns in
    let after = after_header records in
    let width = length (header_of records) in
    let placed = then_ok (column_places 0 columns (header_of records)) (λ places. rows_of_records columns places width 1 after) rows e in
    let places = placed.0 in
    let start = rows_none columns places width after old (replicate (length columns) []) refl in
    let all = rows_found columns places width after few (places_paired 0 columns (header_of records) places placed.1) old after old (replicate (length columns) []) 0 rows start pool
    (fields_after_header_are_text records text) placed.2 in
    record {
      new = all.new;
      cells = record { kinds = kinds_of columns; columns = all.found; rows = all.rows };
      pool = all.pool;
      begins = all.so_far.begins;
      are = record { kinds = refl; columns = all.so_far.are };
      same = these_rows (rows_of_columns all.new (kinds_of columns) all.found all.rows) rows (rows_of_records columns places width 1 after) placed.2 all.so_far.read.so_far;
    }

pub table_found : (table : Table) (bytes : List ℕ) (rows : List Row) (old : List (List ℕ)) → IsValidTable table → IsPool old → rows_of_file table bytes ≡ Ok rows
    → TableFound table rows old
unfolding rows_of_file rows_in_records
table_found table bytes rows old good pool e =
    let records : List Record = records_of (strip_bom bytes) in
    let sound = test_is_false (not (is_utf8 bytes)) (error.Utf8 (utf8_valid_len bytes)) (rows_under_header table.columns records >>= rows_with_keys table.keys) rows e in
    let utf8 : is_utf8 bytes ≡ true = unnegated (is_utf8 bytes) sound.0 in
    let read = then_ok (rows_under_header table.columns records) (rows_with_keys table.keys) rows sound.1 in
    let same : read.0 ≡ rows = with_keys table.keys read.0 rows read.2 in
    let text : AllByRecursion AllText records =
    fields_of_records_are_text (length (strip_bom bytes) + 1) st.StartRecord (strip_bom bytes) (text_after_mark bytes (IsUtf8-from_is_utf8 bytes utf8)) in
    under_header table records rows old good.few pool text (read.1 ∙ ap (λ (r : List Row). Ok r) same)
  where
    unnegated : (test : Bool) → not test ≡ false → test ≡ true
    unnegated true e = refl
    unnegated false e = absurd cc
