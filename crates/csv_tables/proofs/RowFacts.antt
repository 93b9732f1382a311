-- Steps of the loop that reads the values of a record.
use Rattle.std.proofs.Common.{◌≡◌, ℕ, ◌+◌, ◌<◌, ◌≤◌, List, [], ◌∷◌, ◌++◌, length, get_or, take, drop, Some, refl, sym, ap, ◌∙◌, subst, arith}
use Rattle.std.proofs.lemmas.List.{drop_more, take_more, map-append}
use Rattle.schema_types.specs.declared.types.Column.{Column}
use Rattle.csv_tables.specs.declared.types.TableError.TheVariants as error
use Rattle.csv_tables.specs.Cells.{value_of_cell, IsCell}
use Rattle.csv_tables.specs.Pools.{PoolBeginsWith}
use Rattle.csv_tables.specs.Reads.{kinds_of, AreCellsOfRow}
use Rattle.csv_tables.specs.Records.{Record}
use Rattle.csv_tables.specs.Rows.{values_of_record, Row}
use Rattle.csv_tables.specs.Steps.{or_refuse, then_all}
use Rattle.csv_tables.specs.Values.{value_of_field}
use Rattle.csv_tables.proofs.GrowFacts.{begins_then, row-grown, row-push}
use Rattle.csv_tables.proofs.StepFacts.{ReadTo, read_one}

-- the values of a record's first `at` columns are read: `cells` are their cells, in the pool `texts` that grew from `old`
pub record RowSoFar (number at : ℕ) (columns : List Column) (places : List ℕ) (fields : Record) (old texts : List (List ℕ)) (cells : List ℕ) : Type 0 where
  pub row : Row
  pub read : ReadTo (values_of_record number 0 columns places fields) row (values_of_record number at (drop at columns) (drop at places) fields)
  pub cells_of_row : AreCellsOfRow texts (kinds_of (take at columns)) row cells
  pub begins : PoolBeginsWith old texts
  pub few : length texts ≤ length old + at

values_next : (number at : ℕ) (columns : List Column) (places : List ℕ) (fields : Record) (column : Column)
    → at < length columns → at < length places → column ≡ get_or columns at column
    → values_of_record number at (drop at columns) (drop at places) fields
    ≡ then_all (or_refuse (error.Field number at) (value_of_field column.kind (get_or fields (get_or places at 0) [])))
    (values_of_record number (at + 1) (drop (at + 1) columns) (drop (at + 1) places) fields)
values_next number at columns places fields column l m c =
    ap (λ cs. values_of_record number at cs (drop at places) fields) (drop_more columns at column l ∙ ap (λ k. k ∷ drop (at + 1) columns) (sym c))
    ∙ ap (λ ps. values_of_record number at (column ∷ drop (at + 1) columns) ps fields) (drop_more places at 0 m)

pub row_more : (number at : ℕ) (columns : List Column) (places : List ℕ) (fields : Record) (old texts new : List (List ℕ)) (cells : List ℕ) (column : Column) (field : List ℕ) (cell : ℕ)
    → at < length columns → at < length places → column ≡ get_or columns at column → field ≡ get_or fields (get_or places at 0) []
    → RowSoFar number at columns places fields old texts cells → Some (value_of_cell new column.kind cell) ≡ value_of_field column.kind field
    → IsCell new column.kind cell → PoolBeginsWith texts new → length new ≤ length texts + 1
    → RowSoFar number (at + 1) columns places fields old new (cells ++ cell ∷ [])
row_more number at columns places fields old texts new cells column field cell l m c f so_far good is grew few =
    let value = value_of_cell new column.kind cell in
    let kinds : kinds_of (take (at + 1) columns) ≡ kinds_of (take at columns) ++ column.kind ∷ [] =
    ap kinds_of (take_more columns at column l ∙ ap (λ k. take at columns ++ k ∷ []) (sym c)) ∙ map-append (λ (k : Column). k.kind) (take at columns) (column ∷ []) in
    record {
      row = so_far.row ++ value ∷ [];
      read = read_one _ _ _ _ value _ so_far.read (values_next number at columns places fields column l m c)
          (ap (λ x. or_refuse (error.Field number at) (value_of_field column.kind x)) (sym f) ∙ ap (or_refuse (error.Field number at)) (sym good));
      cells_of_row = subst (λ ks. AreCellsOfRow new ks (so_far.row ++ value ∷ []) (cells ++ cell ∷ [])) (sym kinds)
          (row-push new (kinds_of (take at columns)) so_far.row cells column.kind value cell (row-grown texts new _ so_far.row cells grew so_far.cells_of_row) (record { value_is = refl; is_cell = is }));
      begins = begins_then old texts new so_far.begins grew;
      few = omega (arith, so_far.few, few);
    }
