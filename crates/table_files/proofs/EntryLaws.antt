-- Each FROM entry has the rows of its own table's file.
use Rattle.std.proofs.Common.{◌≡◌, ℕ, zero, suc, ◌<◌, List, [], ◌∷◌, length, get_or, map, Result, Ok, Err, refl, ap, sym, ◌∙◌, arith}
use Rattle.std.proofs.lemmas.Bool.{eq-eqb}
use Rattle.std.proofs.lemmas.List as list
use Rattle.std.proofs.lemmas.List.{length-map}
use Rattle.base_io.specs.Files.{Files}
use Rattle.schema_types.specs.declared.types.Schema.{Schema}
use Rattle.csv_tables.specs.Rows.{Row}
use Rattle.query_types.specs.declared.types.Source.{Source}
use Rattle.outcomes.specs.Reads.{◌>>=◌}
use Rattle.outcomes.specs.declared.refusal.Refusal.{Refusal}
use Rattle.table_files.specs.Stage.{numbers_of, index_of, rows_by_entry, rows_of_each, table_rows, tables_of_query, tables_stage}
use Rattle.table_files.proofs.IndexFacts.{at_place, has_different, has_each, has_place}

pub two_steps : {A B : Type 0} (r : Result A Refusal) (f : A → Result B Refusal) (y : B) → (r >>= f) ≡ Ok y → (x : A) × (r ≡ Ok x) × (f x ≡ Ok y)
two_steps (Ok x) f y h = (x, refl, h)
two_steps (Err e) f y h = cc

same_ok : {A : Type 0} (x y : A) → ◌≡◌ {A = Result A Refusal} (Ok x) (Ok y) → x ≡ y
same_ok x y h = cc

at_each : (schema : Schema) (n : ℕ) (ns : List ℕ) (files : Files) (rows : List (List Row)) (k : ℕ) → k < length (n ∷ ns) → (r : List Row) (others : List (List Row))
    → table_rows schema n files ≡ Ok r → ((j : ℕ) → j < length ns → table_rows schema (get_or ns j 0) files ≡ Ok (get_or others j [])) → r ∷ others ≡ rows
    → table_rows schema (get_or (n ∷ ns) k 0) files ≡ Ok (get_or rows k [])
at_each schema n ns files rows zero lt r others here there whole = here ∙ ap (λ (l : List (List Row)). Ok (get_or l 0 [])) whole
at_each schema n ns files rows (suc k) lt r others here there whole = there k (omega arith) ∙ ap (λ (l : List (List Row)). Ok (get_or l (suc k) [])) whole

each_has : (schema : Schema) (numbers : List ℕ) (files : Files) (rows : List (List Row)) (k : ℕ) → rows_of_each schema numbers files ≡ Ok rows → k < length numbers
    → table_rows schema (get_or numbers k 0) files ≡ Ok (get_or rows k [])
each_has schema [] files rows k h lt = absurd (omega arith)
each_has schema (n ∷ ns) files rows k h lt =
    let first = two_steps (table_rows schema n files) (λ r. rows_of_each schema ns files >>= (λ others. Ok (r ∷ others))) rows h in
    let second = two_steps (rows_of_each schema ns files) (λ others. Ok (first.0 ∷ others)) rows first.2 in
    let whole : first.0 ∷ second.0 ≡ rows = same_ok (first.0 ∷ second.0) rows second.2 in
    at_each schema n ns files rows k lt first.0 second.0 first.1 (λ j low. each_has schema ns files second.0 j second.1 low) whole

module _ (schema : Schema) (from : List Source) (files : Files) (rows : List (List Row)) where
  pub entries_have : tables_stage schema from files ≡ Ok rows → (entry : ℕ) → entry < length from → table_rows schema (get_or (numbers_of from) entry 0) files ≡ Ok (get_or rows entry [])
  unfolding tables_stage
  entries_have h entry lt =
      let Numbers : List ℕ = tables_of_query from in
      let number : ℕ = get_or (numbers_of from) entry 0 in
      let low : entry < length (numbers_of from) = omega (arith, length-map from (λ (source : Source). source.table)) in
      let place : index_of Numbers number < length Numbers = has_place Numbers number (has_different (numbers_of from) number (has_each (numbers_of from) entry low)) in
      let read = two_steps (rows_of_each schema Numbers files) (λ all. Ok (rows_by_entry from all)) rows h in
      let picked : rows_by_entry from read.0 ≡ rows = same_ok (rows_by_entry from read.0) rows read.2 in
      let there : table_rows schema (get_or Numbers (index_of Numbers number) 0) files ≡ Ok (get_or read.0 (index_of Numbers number) []) =
      each_has schema Numbers files read.0 (index_of Numbers number) read.1 place in
      ap (λ (n : ℕ). table_rows schema n files) (sym (at_place Numbers number place)) ∙ there
      ∙ ap (λ (r : List Row). Ok r) (sym (list.get_or-map (λ n. get_or read.0 (index_of Numbers n) []) (numbers_of from) entry 0 [] low) ∙ ap (λ (l : List (List Row)). get_or l entry []) picked)

only_place : (n : ℕ) → index_of (n ∷ []) n ≡ 0
only_place n = rw (eq-eqb n n refl) refl

one_step : (t : Result (List Row) Refusal) (n : ℕ) → ((t >>= (λ r. Ok (r ∷ []))) >>= (λ all. Ok (map (λ number. get_or all (index_of (n ∷ []) number) []) (n ∷ [])))) ≡ (t >>= (λ r. Ok (r ∷ [])))
one_step (Err e) n = refl
one_step (Ok r) n = ap (λ (k : ℕ). Ok (get_or (r ∷ []) k [] ∷ [])) (only_place n)

one_entry : (schema : Schema) (source : Source) (files : Files) → tables_stage schema (source ∷ []) files ≡ (table_rows schema source.table files >>= (λ rows. Ok (rows ∷ [])))
unfolding tables_stage
one_entry schema source files = one_step (table_rows schema source.table files) source.table

pub one_read : (schema : Schema) (source : Source) (files : Files) (rows : List Row) → table_rows schema source.table files ≡ Ok rows → tables_stage schema (source ∷ []) files ≡ Ok (rows ∷ [])
one_read schema source files rows h = one_entry schema source files ∙ ap (λ (t : Result (List Row) Refusal). t >>= (λ r. Ok (r ∷ []))) h

pub one_refused : (schema : Schema) (source : Source) (files : Files) (refusal : Refusal) → table_rows schema source.table files ≡ Err refusal → tables_stage schema (source ∷ []) files ≡ Err refusal
one_refused schema source files refusal h = one_entry schema source files ∙ ap (λ (t : Result (List Row) Refusal). t >>= (λ r. Ok (r ∷ []))) h
