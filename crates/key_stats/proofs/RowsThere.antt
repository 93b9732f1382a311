-- Let tables have only some rows of other tables. A condition holds for row n exactly if it holds for the row from which row n was taken.
use Rattle.std.proofs.Common.{◌≡◌, ℕ, ◌<◌, Bool, not, ◌&&◌, ◌||◌, List, [], ◌∷◌, length, map, get_or, pos, refl, ap, ◌∙◌}
use Rattle.std.specs.Prelude.{slice_index_or}
use Rattle.std.specs.List.{list_all}
use Rattle.std.proofs.Math.Path.{fun_ext}
use Rattle.std.proofs.lemmas.List.{get_or-map}
use Rattle.csv_tables.specs.Rows.{Row}
use Rattle.csv_tables.specs.Values.{Value, Int, value_cmp}
use Rattle.query_types.specs.declared.types.ColumnRef.{ColumnRef}
use Rattle.query_types.specs.declared.types.Operand.{Operand}
use Rattle.query_types.specs.declared.types.Operand.TheVariants as operand
use Rattle.query_types.specs.declared.types.Cond.{Cond}
use Rattle.query_types.specs.declared.types.Cond.TheFolds.{fold-Cond}
use Rattle.query_types.specs.declared.types.Cond.TheOpen.{Cond-F}
use Rattle.query_types.specs.declared.types.Cond.TheOpen as layer
use Rattle.sql_meaning.specs.Answers.{conjunct_of}
use Rattle.sql_meaning.specs.Conditions.{column_value, compares, cond_holds, holds_step, operand_value}
use Rattle.sql_meaning.specs.Levels.{Conjunct, is_own_conjunct, passes_own}
use Rattle.sql_meaning.specs.Tables.{Tables}
use Rattle.key_carriers.specs.Widened.{tables_at}

module _ (tables : Tables) (rows : List ℕ) (n : ℕ) (row_exists : n < length rows) where
  abbrev taken_tables : Tables
  taken_tables = tables_at tables rows

  abbrev row : ℕ
  row = get_or rows n 0

  value_there : (column : ColumnRef) → column_value taken_tables (λ e. n) column ≡ column_value tables (λ e. row) column
  value_there column = ap (λ (r : Row). slice_index_or r column.column (Int (pos 0))) (get_or-map (λ r. slice_index_or (tables column.from) r []) rows n 0 [] row_exists)

  operand_there : (o : Operand) → operand_value taken_tables (λ e. n) o ≡ operand_value tables (λ e. row) o
  operand_there (operand.Column column) = value_there column
  operand_there (operand.Int number) = refl
  operand_there (operand.Text text) = refl

  step_there : (step : Cond-F Bool) → holds_step taken_tables (λ e. n) step ≡ holds_step tables (λ e. row) step
  step_there (layer.And all) = refl
  step_there (layer.Or any) = refl
  step_there (layer.Not inner) = refl
  step_there (layer.Compare op left right) =
      ap (λ (v : Value). compares op (value_cmp v (operand_value taken_tables (λ e. n) right))) (operand_there left)
      ∙ ap (λ (v : Value). compares op (value_cmp (operand_value tables (λ e. row) left) v)) (operand_there right)

  cond_there : (cond : Cond) → cond_holds taken_tables (λ e. n) cond ≡ cond_holds tables (λ e. row) cond
  cond_there cond = ap (λ (step : Cond-F Bool → Bool). fold-Cond Bool step cond) (fun_ext step_there)

  pub own_there : (entry : ℕ) (conds : List Cond) → passes_own (map (conjunct_of taken_tables) conds) entry n ≡ passes_own (map (conjunct_of tables) conds) entry row
  own_there entry [] = refl
  own_there entry (cond ∷ conds) =
      ap (λ (holds : Bool). (not (is_own_conjunct (conjunct_of tables cond) entry) || holds) && list_all (λ (c : Conjunct). not (is_own_conjunct c entry) || c.holds (λ e. n)) (map (conjunct_of taken_tables) conds))
      (cond_there cond)
      ∙ ap (λ (rest : Bool). (not (is_own_conjunct (conjunct_of tables cond) entry) || cond_holds tables (λ e. row) cond) && rest) (own_there entry conds)
