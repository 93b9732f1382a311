-- Rest lists are kept between steps. Each kept list stays the rest list of its column. A value that isn't frequent gets its column's rest list.
use Rattle.std.proofs.Common.{◌≡◌, ℕ, Bool, true, false, eqb, List, [], ◌∷◌, ◌++◌, length, Option, Some, None, refl, sym, ap, ◌∙◌, subst}
use Rattle.std.specs.Prelude.{if◌then◌else◌}
use Rattle.std.specs.List.{All, list_any, zip}
use Rattle.std.proofs.lemmas.List.Elements.{All-push}
use Rattle.cond_stats.specs.Columns.{CellColumn}
use Rattle.cond_stats.specs.Frequency.{frequent}
use Rattle.cond_stats.specs.Lists.{list_of_value, rest}
use Rattle.cond_stats.proofs.OnDemand.{filter_values-zip}
use Rattle.cond_stats.proofs.ValueLists.{list_without_cell, list_of_other_value}
use Rattle.gathered_stats.specs.declared.entry_table.EntryTable.{EntryTable}
use Rattle.gathered_stats.specs.declared.rests.RestList.{RestList}
use Rattle.gathered_stats.specs.Filters.{IsColumnIn}
use Rattle.gathered_stats.specs.ShownCells.{shown_cells}
use Rattle.gathered_stats.specs.Rests.{IsRestOf, among_frequent, is_kept, rest_in, with_rest}

module _ (table : EntryTable) (keys : List ℕ) (column : ℕ) (sorted : CellColumn) (is_column : IsColumnIn table.pool.now (shown_cells table) column sorted) where
  rest_made : rest table.accuracy (zip sorted.cells keys) ≡ rest_in table keys column
  rest_made = ap (λ (s : CellColumn). rest table.accuracy (zip s.cells keys)) is_column.is

  pub one_kept : (list : List ℕ) (old new : List RestList) → list ≡ rest table.accuracy (zip sorted.cells keys)
      → is_kept old column ≡ false → new ≡ old ++ (record { column = column; list = list }) ∷ [] → new ≡ with_rest table keys column old
  one_kept list old new made missing pushed =
      pushed ∙ ap (λ (l : List ℕ). old ++ (record { column = column; list = l }) ∷ []) (made ∙ rest_made) ∙ rw missing refl

  pub rest_of_value : (cell : Option ℕ) (list : List ℕ) → length keys ≡ length sorted.cells → among_frequent sorted.cells cell ≡ false
      → list ≡ rest_in table keys column → list ≡ list_of_value table.accuracy (zip sorted.cells keys) cell
  rest_of_value None list same other made = made ∙ sym rest_made ∙ sym (list_without_cell table.accuracy (zip sorted.cells keys))
  rest_of_value (Some v) list same other made =
      made ∙ sym rest_made
      ∙ sym (list_of_other_value table.accuracy (zip sorted.cells keys) v
      (ap (λ (s : List ℕ). list_any (λ value. eqb value v) (frequent s)) (filter_values-zip sorted.cells keys same) ∙ other))

pub all_kept : (table : EntryTable) (keys : List ℕ) (column : ℕ) (old new : List RestList) → new ≡ with_rest table keys column old
    → All (IsRestOf table keys) old → All (IsRestOf table keys) new
all_kept table keys column old new is before = subst (λ (s : List RestList). All (IsRestOf table keys) s) (sym is) (by (is_kept old column))
  where
    by : (b : Bool) → All (IsRestOf table keys) (if b then old else old ++ (record { column = column; list = rest_in table keys column }) ∷ [])
    by true = before
    by false = All-push (IsRestOf table keys) old (record { column = column; list = rest_in table keys column }) before refl
