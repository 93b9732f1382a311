-- Columns grow by a row, and the pool grows with the row's texts.
use Rattle.std.proofs.Common.{◌≡◌, ℕ, zero, suc, ◌+◌, ◌*◌, ◌<◌, ◌≤◌, List, [], ◌∷◌, ◌++◌, length, get_or, Result, refl, sym, ap, ◌∙◌, arith, add-one, length-append}
use Rattle.std.specs.Prelude.{replicate}
use Rattle.std.proofs.Math.ListN.{get_or-append}
use Rattle.std.proofs.lemmas.List.{length-map}
use Rattle.std.proofs.Math.Seq.{get_or-append_seam}
use Rattle.std.proofs.lemmas.List.Elements.{All-get_or, All-nil, All-push, All-weaker}
use Rattle.schema_types.specs.declared.types.Column.{Column}
use Rattle.schema_types.specs.declared.types.Kind.{Kind}
use Rattle.csv_tables.specs.declared.types.TableError.{TableError}
use Rattle.csv_tables.specs.Cells.{value_of_cell, row_of_columns, rows_of_columns, AreColumns, IsCell}
use Rattle.csv_tables.specs.Pools.{PoolBeginsWith}
use Rattle.csv_tables.specs.Reads.{add_row, kinds_of, AreCellsOfRow, HoldsRow}
use Rattle.csv_tables.specs.Records.{Record}
use Rattle.csv_tables.specs.Rows.{row_of_record, rows_of_records, Row}
use Rattle.csv_tables.proofs.GrowFacts.{begins_itself, begins_then, is_cell-grown, value-grown}
use Rattle.csv_tables.proofs.StepFacts.{ReadTo, read_none, read_one}

pub columns_none : (texts : List (List ℕ)) (kinds : List Kind) (n : ℕ) → n ≡ length kinds → AreColumns texts 0 kinds (replicate n [])
columns_none texts [] n e = rw e tt
columns_none texts (k ∷ ks) n e = rw e (record { height = refl; cells = All-nil (IsCell texts k) }, columns_none texts ks (length ks) refl)

pub columns-grown : (a b : List (List ℕ)) (rows : ℕ) (kinds : List Kind) (columns : List (List ℕ)) → PoolBeginsWith a b → AreColumns a rows kinds columns → AreColumns b rows kinds columns
columns-grown a b rows [] [] p h = tt
columns-grown a b rows [] (c ∷ cs) p h = absurd h
columns-grown a b rows (k ∷ ks) [] p h = absurd h
columns-grown a b rows (k ∷ ks) (c ∷ cs) p h =
    (record { height = h.0.height; cells = All-weaker (IsCell a k) (IsCell b k) (λ cell. is_cell-grown a b k cell p) c h.0.cells }, columns-grown a b rows ks cs p h.1)

row_of_columns-grown : (a b : List (List ℕ)) (rows row : ℕ) (kinds : List Kind) (columns : List (List ℕ)) → PoolBeginsWith a b → row < rows → AreColumns a rows kinds columns
    → row_of_columns b kinds columns row ≡ row_of_columns a kinds columns row
row_of_columns-grown a b rows row [] columns p l h = refl
row_of_columns-grown a b rows row (k ∷ ks) [] p l h = absurd h
row_of_columns-grown a b rows row (k ∷ ks) (c ∷ cs) p l h =
    let within : row < length c = omega (arith, h.0.height, l) in
    ap (λ v. v ∷ row_of_columns b ks cs row) (value-grown a b k (get_or c row 0) p (All-get_or (IsCell a k) c row 0 within h.0.cells))
    ∙ ap (λ r. value_of_cell a k (get_or c row 0) ∷ r) (row_of_columns-grown a b rows row ks cs p l h.1)

add_row-columns : (texts : List (List ℕ)) (rows : ℕ) (kinds : List Kind) (columns : List (List ℕ)) (row : Row) (cells : List ℕ)
    → AreColumns texts rows kinds columns → AreCellsOfRow texts kinds row cells → AreColumns texts (rows + 1) kinds (add_row columns cells)
add_row-columns texts rows [] [] row cells h c = tt
add_row-columns texts rows [] (c1 ∷ cs) row cells h c = absurd h
add_row-columns texts rows (k ∷ ks) [] row cells h c = absurd h
add_row-columns texts rows (k ∷ ks) (c1 ∷ cs) [] cells h c = absurd c
add_row-columns texts rows (k ∷ ks) (c1 ∷ cs) (v ∷ vs) [] h c = absurd c
add_row-columns texts rows (k ∷ ks) (c1 ∷ cs) (v ∷ vs) (x ∷ xs) h c =
    (record { height = omega (arith, h.0.height, length-append c1 (x ∷ [])); cells = All-push (IsCell texts k) c1 x h.0.cells c.0.is_cell }, add_row-columns texts rows ks cs vs xs h.1 c.1)

add_row-before : (texts : List (List ℕ)) (rows at : ℕ) (kinds : List Kind) (columns : List (List ℕ)) (row : Row) (cells : List ℕ) → at < rows
    → AreColumns texts rows kinds columns → AreCellsOfRow texts kinds row cells → row_of_columns texts kinds (add_row columns cells) at ≡ row_of_columns texts kinds columns at
add_row-before texts rows at [] columns row cells l h c = refl
add_row-before texts rows at (k ∷ ks) [] row cells l h c = absurd h
add_row-before texts rows at (k ∷ ks) (c1 ∷ cs) [] cells l h c = absurd c
add_row-before texts rows at (k ∷ ks) (c1 ∷ cs) (v ∷ vs) [] l h c = absurd c
add_row-before texts rows at (k ∷ ks) (c1 ∷ cs) (v ∷ vs) (x ∷ xs) l h c =
    let within : at < length c1 = omega (arith, h.0.height, l) in
    ap (λ y. value_of_cell texts k y ∷ row_of_columns texts ks (add_row cs xs) at) (get_or-append c1 (x ∷ []) 0 at within)
    ∙ ap (λ r. value_of_cell texts k (get_or c1 at 0) ∷ r) (add_row-before texts rows at ks cs vs xs l h.1 c.1)

add_row-last : (texts : List (List ℕ)) (rows : ℕ) (kinds : List Kind) (columns : List (List ℕ)) (row : Row) (cells : List ℕ)
    → AreColumns texts rows kinds columns → AreCellsOfRow texts kinds row cells → row_of_columns texts kinds (add_row columns cells) rows ≡ row
add_row-last texts rows [] columns [] cells h c = refl
add_row-last texts rows [] columns (v ∷ vs) cells h c = absurd c
add_row-last texts rows (k ∷ ks) [] row cells h c = absurd h
add_row-last texts rows (k ∷ ks) (c1 ∷ cs) [] cells h c = absurd c
add_row-last texts rows (k ∷ ks) (c1 ∷ cs) (v ∷ vs) [] h c = absurd c
add_row-last texts rows (k ∷ ks) (c1 ∷ cs) (v ∷ vs) (x ∷ xs) h c =
    ap (λ y. value_of_cell texts k y ∷ row_of_columns texts ks (add_row cs xs) rows) (ap (λ n. get_or (c1 ++ x ∷ []) n 0) (sym h.0.height) ∙ get_or-append_seam c1 x [] 0)
    ∙ ap (λ y. y ∷ row_of_columns texts ks (add_row cs xs) rows) c.0.value_is
    ∙ ap (λ r. v ∷ r) (add_row-last texts rows ks cs vs xs h.1 c.1)

rows-alike : (a b : List (List ℕ)) (kinds : List Kind) (p q : List (List ℕ)) (n : ℕ) → ((row : ℕ) → row < n → row_of_columns b kinds q row ≡ row_of_columns a kinds p row)
    → rows_of_columns b kinds q n ≡ rows_of_columns a kinds p n
rows-alike a b kinds p q zero h = refl
rows-alike a b kinds p q (suc n) h =
    ap (λ r. r ++ row_of_columns b kinds q n ∷ []) (rows-alike a b kinds p q n (λ row l. h row (omega (arith, l))))
    ∙ ap (λ r. rows_of_columns a kinds p n ++ r ∷ []) (h n (omega arith))

pub rows_of_columns-grown : (a b : List (List ℕ)) (rows : ℕ) (kinds : List Kind) (columns : List (List ℕ)) → PoolBeginsWith a b → AreColumns a rows kinds columns
    → rows_of_columns b kinds columns rows ≡ rows_of_columns a kinds columns rows
rows_of_columns-grown a b rows kinds columns p h = rows-alike a b kinds columns columns rows (λ row l. row_of_columns-grown a b rows row kinds columns p l h)

rows_of_columns-more : (texts : List (List ℕ)) (rows : ℕ) (kinds : List Kind) (columns : List (List ℕ)) (row : Row) (cells : List ℕ)
    → AreColumns texts rows kinds columns → AreCellsOfRow texts kinds row cells
    → rows_of_columns texts kinds (add_row columns cells) (rows + 1) ≡ rows_of_columns texts kinds columns rows ++ row ∷ []
rows_of_columns-more texts rows kinds columns row cells h c =
    ap (rows_of_columns texts kinds (add_row columns cells)) (add-one rows)
    ∙ ap (λ r. r ++ row_of_columns texts kinds (add_row columns cells) rows ∷ [])
    (rows-alike texts texts kinds columns (add_row columns cells) rows (λ at l. add_row-before texts rows at kinds columns row cells l h c))
    ∙ ap (λ r. rows_of_columns texts kinds columns rows ++ r ∷ []) (add_row-last texts rows kinds columns row cells h c)

-- `rows` records are read into the columns `found`, the records in `remaining` remain, and the pool has grown from `old` to `texts`
pub record RowsSoFar (columns : List Column) (places : List ℕ) (width : ℕ) (records remaining : List Record) (old texts found : List (List ℕ)) (rows : ℕ) : Type 0 where
  pub read : ReadTo (rows_of_records columns places width 1 records) (rows_of_columns texts (kinds_of columns) found rows) (rows_of_records columns places width (rows + 1) remaining)
  pub are : AreColumns texts rows (kinds_of columns) found
  pub begins : PoolBeginsWith old texts
  pub few : length texts ≤ length old + 64 * rows
  pub limit : rows ≤ 4000000

pub rows_none : (columns : List Column) (places : List ℕ) (width : ℕ) (records : List Record) (texts found : List (List ℕ))
    → found ≡ replicate (length columns) [] → RowsSoFar columns places width records records texts texts found 0
rows_none columns places width records texts found e = record {
  read = read_none _;
  are = rw e (columns_none texts (kinds_of columns) (length columns) (sym (length-map columns (λ (c : Column). c.kind))));
  begins = begins_itself texts;
  few = omega arith;
  limit = omega arith;
}

pub rows_more : (columns : List Column) (places : List ℕ) (width : ℕ) (records remaining after : List Record) (fields : Record) (old texts new found : List (List ℕ)) (rows : ℕ) (cells : List ℕ)
    → RowsSoFar columns places width records remaining old texts found rows → remaining ≡ fields ∷ after
    → HoldsRow (row_of_record columns places width (rows + 1) fields) new (kinds_of columns) cells
    → PoolBeginsWith texts new → length new ≤ length texts + 64 → rows + 1 ≤ 4000000
    → RowsSoFar columns places width records after old new (add_row found cells) (rows + 1)
rows_more columns places width records remaining after fields old texts new found rows cells so_far e row grew few limit =
    let kinds = kinds_of columns in
    let there = columns-grown texts new rows kinds found grew so_far.are in
    let same : rows_of_columns new kinds (add_row found cells) (rows + 1) ≡ rows_of_columns texts kinds found rows ++ row.row ∷ [] =
    rows_of_columns-more new rows kinds found row.row cells there row.cells_of_row
    ∙ ap (λ r. r ++ row.row ∷ []) (rows_of_columns-grown texts new rows kinds found grew so_far.are) in
    record {
      read = rw same (read_one _ _ _ _ row.row _ so_far.read (ap (rows_of_records columns places width (rows + 1)) e) row.is_row);
      are = add_row-columns new rows kinds found row.row cells there row.cells_of_row;
      begins = begins_then old texts new so_far.begins grew;
      few = omega (arith, so_far.few, few);
      limit = limit;
    }

pub columns_long : (texts : List (List ℕ)) (rows : ℕ) (kinds : List Kind) (columns : List (List ℕ)) → AreColumns texts rows kinds columns → length columns ≡ length kinds
columns_long texts rows [] [] h = refl
columns_long texts rows [] (c ∷ cs) h = absurd h
columns_long texts rows (k ∷ ks) [] h = absurd h
columns_long texts rows (k ∷ ks) (c ∷ cs) h = ap (λ n. suc n) (columns_long texts rows ks cs h.1)

pub row_long : (texts : List (List ℕ)) (kinds : List Kind) (row : Row) (cells : List ℕ) → AreCellsOfRow texts kinds row cells → length cells ≡ length kinds
row_long texts [] [] [] h = refl
row_long texts [] [] (x ∷ xs) h = absurd h
row_long texts [] (v ∷ vs) cells h = absurd h
row_long texts (k ∷ ks) [] cells h = absurd h
row_long texts (k ∷ ks) (v ∷ vs) [] h = absurd h
row_long texts (k ∷ ks) (v ∷ vs) (x ∷ xs) h = ap (λ n. suc n) (row_long texts ks vs xs h.1)

pub as_wide : (old texts : List (List ℕ)) (rows : ℕ) (kinds : List Kind) (columns : List (List ℕ)) (stated : Result Row TableError) (cells : List ℕ)
    → AreColumns old rows kinds columns → HoldsRow stated texts kinds cells → length columns ≡ length cells
as_wide old texts rows kinds columns stated cells h row = columns_long old rows kinds columns h ∙ sym (row_long texts kinds row.row cells row.cells_of_row)
