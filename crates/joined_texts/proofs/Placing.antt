-- The row numbers of a choice are written at the indexes of their entries. So they are a choice in FROM order, and the printed record is the record
-- of this choice.
use Rattle.std.proofs.Common.{◌≡◌, ℕ, ◌<◌, ◌≤◌, true, false, eqb, List, [], ◌∷◌, length, slice_index, refl, ap, sym, ◌∙◌, subst, arith, inl, inr}
use Rattle.std.specs.List.{AllByRecursion, IsDistinct}
use Rattle.std.proofs.Math.Path.{fun_ext}
use Rattle.std.proofs.lemmas.Bool.{cases_Bool, cases_lt, eqb-true, false≢true}
use Rattle.std.proofs.lemmas.List.{get_or_past}
use Rattle.std.proofs.lemmas.Map.Keys.{IsDistinct-cons}
use Rattle.std.proofs.lemmas.Map.Steps.{length-le_from_distinct_below}
use Rattle.std.proofs.lemmas.Simd.{map-map}
use Rattle.csv_tables.specs.declared.types.Database.{Database}
use Rattle.query_types.specs.declared.types.Out.{Out}
use Rattle.query_types.specs.declared.types.Query.{Query}
use Rattle.row_printer.specs.Fields.{record_text}
use Rattle.sql_meaning.specs.Answers.{selected}
use Rattle.sql_meaning.specs.Choices.{IsChoiceOf}
use Rattle.sql_meaning.specs.Conditions.{column_value}
use Rattle.sql_meaning.specs.Databases.{IsDatabaseOf}
use Rattle.sql_meaning.specs.Levels.{row_in}
use Rattle.sql_meaning.specs.Tables.{row_counts, tables_of}
use Rattle.sql_meaning.proofs.LoopFacts.{choice_length, rows_are}
use Rattle.join_steps.specs.Lists.{IsOrderOf}
use Rattle.join_steps.specs.Sides.{is_in}
use Rattle.tree_rows.specs.Nodes.{with_choice}
use Rattle.tree_rows.proofs.NodeFacts.{put_length}
use Rattle.bushy_join.proofs.Putting.{chosen_row_exists, number_at_entry_is_chosen}
use Rattle.printed_texts.specs.Lines.{IsChoice, choice_text}
use Rattle.printed_texts.specs.Texts.{row_text, value_text}
use Rattle.joined_texts.specs.JoinedRows.{choice_record}

-- ---- the entries of an order: each entry is in it

unlike : (order : List ℕ) (x : ℕ) → is_in order x ≡ false → AllByRecursion (λ y. eqb x y ≡ false) order
unlike [] x gone = tt
unlike (e ∷ order) x gone = elim (cases_Bool (eqb x e)) [
  | inl t ↦ absurd (false≢true (sym (rw t at gone)))
  | inr n ↦ (let rest : is_in order x ≡ false = rw n at gone in (n, unlike order x rest))
]

each_below : (n : ℕ) (order : List ℕ) → AllByRecursion (λ entry. entry < n) order → (x : ℕ) → is_in order x ≡ true → x < n
each_below n [] low x here = absurd (false≢true here)
each_below n (e ∷ order) low x here = elim (cases_Bool (eqb x e)) [
  | inl same ↦ subst (λ (entry : ℕ). entry < n) (sym (eqb-true x e same)) low.0
  | inr other ↦ (let rest : is_in order x ≡ true = rw other at here in each_below n order low.1 x rest)
]

few_entries : (n : ℕ) (order : List ℕ) → AllByRecursion (λ entry. entry < n) order → IsDistinct eqb order → length order ≤ n
few_entries n order low once = length-le_from_distinct_below order n once (each_below n order low)

has_each : (n : ℕ) (order : List ℕ) → AllByRecursion (λ entry. entry < n) order → IsDistinct eqb order → length order ≡ n → (x : ℕ) → x < n → is_in order x ≡ true
has_each n order low once all x below = elim (cases_Bool (is_in order x)) [
  | inl here ↦ here
  | inr gone ↦ (let more : length (x ∷ order) ≤ n = few_entries n (x ∷ order) (below, low) (IsDistinct-cons eqb x order (unlike order x gone) once) in absurd (omega (arith, more, all)))
]

row_of_other_entry : (order choice : List ℕ) (x : ℕ) → is_in order x ≡ false → row_in order choice x ≡ 0
row_of_other_entry [] choice x gone = refl
row_of_other_entry (e ∷ order) [] x gone = refl
row_of_other_entry (e ∷ order) (row ∷ choice) x gone = elim (cases_Bool (eqb x e)) [
  | inl t ↦ absurd (false≢true (sym (rw t at gone)))
  | inr n ↦ (let rest : is_in order x ≡ false = rw n at gone in rw n (row_of_other_entry order choice x rest))
]

-- ---- the row numbers of a choice, written at the indexes of their entries

module _ (query : Query) (db : Database) (is : IsDatabaseOf query db) (entries : List ℕ) (order : IsOrderOf query entries) (choice rows : List ℕ)
    (whole : IsChoiceOf (row_counts (tables_of db)) entries choice) (size : length rows ≡ length query.from) where
  entries_below : AllByRecursion (λ entry. entry < length rows) entries
  entries_below = subst (λ (n : ℕ). AllByRecursion (λ entry. entry < n) entries) (sym size) order.entries

  choice_long : length choice ≡ length entries
  choice_long = choice_length (row_counts (tables_of db)) entries choice whole

  in_entries : (x : ℕ) → x < length query.from → is_in entries x ≡ true
  in_entries x low = has_each (length query.from) entries order.entries order.once order.all x low

  written_row_is_as_long : length (with_choice entries choice rows) ≡ length query.from
  written_row_is_as_long = put_length entries choice rows ∙ size

  row_at : (x : ℕ) → slice_index (with_choice entries choice rows) x ≡ row_in entries choice x
  row_at x = elim (cases_Bool (is_in entries x)) [
    | inl there ↦ number_at_entry_is_chosen entries choice rows x order.once choice_long entries_below there
    | inr gone ↦ elim (cases_lt x (length query.from)) [
      | inl low ↦ absurd (false≢true (sym gone ∙ in_entries x low))
      | inr high ↦ get_or_past (with_choice entries choice rows) x 0 (omega (arith, high, written_row_is_as_long)) ∙ sym (row_of_other_entry entries choice x gone)
    ]
  ]

  pub is_choice : IsChoice db (with_choice entries choice rows)
  is_choice = record {
    one_each = omega (arith, written_row_is_as_long, is.entries);
    exists = λ entry low. omega (
      arith,
      row_at entry,
      chosen_row_exists (row_counts (tables_of db)) entries choice entry whole (in_entries entry (omega (arith, low, is.entries))),
      rows_are db entry,
    );
  }

  pub text_is : choice_text query.select (tables_of db) (with_choice entries choice rows) ≡ choice_record query db entries choice
  text_is =
      sym (ap record_text (map-map value_text (λ (out : Out). column_value (tables_of db) (slice_index (with_choice entries choice rows)) out.column) query.select))
      ∙ ap (λ (row_of : ℕ → ℕ). row_text (selected query (tables_of db) row_of)) (fun_ext row_at)
