-- The FROM entries of a database refer to their tables by index.
use Rattle.std.proofs.Common.{◌≡◌, ℕ, zero, suc, ◌<◌, List, [], ◌∷◌, length, get_or, map, refl, ap, sym, ◌∙◌, subst, arith}
use Rattle.std.specs.List.{AllByRecursion, range_with_len}
use Rattle.std.proofs.lemmas.List as list
use Rattle.std.proofs.Math.ListN as listn
use Rattle.std.proofs.lemmas.List.{length-map, same_lists}
use Rattle.std.proofs.lemmas.List.FromFn.{get_or-map-range_with_len, length-map-range_with_len}
use Rattle.std.proofs.lemmas.Simd.{map-map}
use Rattle.schema_types.specs.declared.types.Schema.{Schema}
use Rattle.csv_tables.specs.Cells.{AreCellsOf, rows_of_cells}
use Rattle.csv_tables.specs.Rows.{Row}
use Rattle.csv_tables.specs.declared.types.Cells.{Cells}
use Rattle.csv_tables.specs.declared.types.Database.{Database}
use Rattle.query_types.specs.declared.types.Source.{Source}
use Rattle.sql_meaning.specs.Databases.{AreCells}
use Rattle.sql_meaning.specs.Tables.{no_cells, tables_of}
use Rattle.table_files.specs.EntryTables.{AreCellsOfEach, CanComeFromFile, CanComeFromFiles, EachCanComeFromFile, HasCells, entry_rows, rows_of_tables}
use Rattle.table_files.specs.Stage.{numbers_of, index_of, rows_by_entry, table_at, tables_of_query}
use Rattle.table_files.proofs.IndexFacts.{at_place, has_different, has_each, has_place}

map_same : {A B : Type 0} (f g : A → B) → ((x : A) → f x ≡ g x) → (xs : List A) → map f xs ≡ map g xs
map_same f g e [] = refl
map_same f g e (x ∷ xs) = ap (λ y. y ∷ map f xs) (e x) ∙ ap (λ ys. g x ∷ ys) (map_same f g e xs)

each_place : {B : Type 0} (g : ℕ → B) (xs : List ℕ) → map (λ i. g (get_or xs i 0)) (range_with_len 0 (length xs)) ≡ map g xs
each_place g xs = same_lists (map (λ i. g (get_or xs i 0)) (range_with_len 0 (length xs))) (map g xs)
    (length-map-range_with_len (λ i. g (get_or xs i 0)) 0 (length xs) ∙ sym (length-map xs g))
    (λ k d low. let within : k < length xs = omega (arith, length-map-range_with_len (λ i. g (get_or xs i 0)) 0 (length xs)) in
    get_or-map-range_with_len (λ i. g (get_or xs i 0)) 0 (length xs) k k d within (omega arith) ∙ sym (list.get_or-map g xs k 0 d within))

-- ---- the cells of tables by index

pub each_count : (schema : Schema) (texts : List (List ℕ)) (numbers : List ℕ) (cells : List Cells) → AreCellsOfEach schema texts numbers cells → length cells ≡ length numbers
each_count schema texts [] [] h = refl
each_count schema texts [] (c ∷ cs) h = absurd h
each_count schema texts (n ∷ ns) [] h = absurd h
each_count schema texts (n ∷ ns) (c ∷ cs) h = omega (arith, each_count schema texts ns cs h.1)

pub each_sound : (schema : Schema) (texts : List (List ℕ)) (numbers : List ℕ) (cells : List Cells) → AreCellsOfEach schema texts numbers cells → AllByRecursion (AreCells texts) cells
each_sound schema texts [] [] h = tt
each_sound schema texts [] (c ∷ cs) h = absurd h
each_sound schema texts (n ∷ ns) [] h = absurd h
each_sound schema texts (n ∷ ns) (c ∷ cs) h = (h.0.columns, each_sound schema texts ns cs h.1)

each_at : (schema : Schema) (texts : List (List ℕ)) (numbers : List ℕ) (cells : List Cells) (k : ℕ) → AreCellsOfEach schema texts numbers cells → k < length numbers
    → AreCellsOf (table_at schema (get_or numbers k 0)) texts (get_or cells k no_cells)
each_at schema texts [] cells k h lt = absurd (omega arith)
each_at schema texts (n ∷ ns) [] k h lt = absurd h
each_at schema texts (n ∷ ns) (c ∷ cs) zero h lt = h.0
each_at schema texts (n ∷ ns) (c ∷ cs) (suc k) h lt = each_at schema texts ns cs k h.1 (omega arith)

file_at : (schema : Schema) (numbers : List ℕ) (rows : List (List Row)) (k : ℕ) → EachCanComeFromFile schema numbers rows → k < length numbers
    → CanComeFromFile (table_at schema (get_or numbers k 0)) (get_or rows k [])
file_at schema [] rows k h lt = absurd (omega arith)
file_at schema (n ∷ ns) [] k h lt = absurd h
file_at schema (n ∷ ns) (r ∷ rs) zero h lt = h.0
file_at schema (n ∷ ns) (r ∷ rs) (suc k) h lt = file_at schema ns rs k h.1 (omega arith)

-- ---- the database of the tables of a query

module _ (schema : Schema) (from : List Source) (texts : List (List ℕ)) (cells : List Cells) where
  abbrev numbers : List ℕ
  numbers = tables_of_query from

  abbrev pub db : Database
  db = record { pool = texts; cells = cells; slots = map (index_of (tables_of_query from)) (numbers_of from) }

  entry_within : (entry : ℕ) → entry < length from → entry < length (numbers_of from)
  entry_within entry lt = omega (arith, length-map from (λ (source : Source). source.table))

  pub slot_is : (entry : ℕ) → entry < length from → get_or db.slots entry 0 ≡ index_of numbers (get_or (numbers_of from) entry 0)
  slot_is entry lt = list.get_or-map (index_of numbers) (numbers_of from) entry 0 0 (entry_within entry lt)

  pub index_within : (entry : ℕ) → entry < length from → index_of numbers (get_or (numbers_of from) entry 0) < length numbers
  index_within entry lt = has_place numbers (get_or (numbers_of from) entry 0)
      (has_different (numbers_of from) (get_or (numbers_of from) entry 0) (has_each (numbers_of from) entry (entry_within entry lt)))

  pub has_cells : AreCellsOfEach schema texts numbers cells → HasCells schema from db
  has_cells are entry lt =
      let number : ℕ = get_or (numbers_of from) entry 0 in
      let here : AreCellsOf (table_at schema (get_or numbers (index_of numbers number) 0)) texts (get_or cells (index_of numbers number) no_cells) =
      each_at schema texts numbers cells (index_of numbers number) are (index_within entry lt) in
      let named : AreCellsOf (table_at schema number) texts (get_or cells (index_of numbers number) no_cells) =
      subst (λ (m : ℕ). AreCellsOf (table_at schema m) texts (get_or cells (index_of numbers number) no_cells)) (at_place numbers number (index_within entry lt)) here in
      subst (λ (slot : ℕ). AreCellsOf (table_at schema number) texts (get_or cells slot no_cells)) (sym (slot_is entry lt)) named

  pub rows_by_place : rows_by_entry from (rows_of_tables texts cells) ≡ entry_rows db
  rows_by_place =
      let rows_at : ℕ → List Row = λ slot. rows_of_cells texts (get_or cells slot no_cells) in
      map_same (λ number. get_or (rows_of_tables texts cells) (index_of numbers number) []) (λ number. rows_at (index_of numbers number))
      (λ number. listn.get_or-map (rows_of_cells texts) cells (index_of numbers number) no_cells) (numbers_of from)
      ∙ sym (map-map rows_at (index_of numbers) (numbers_of from)) ∙ sym (each_place rows_at db.slots)

  pub has_files : EachCanComeFromFile schema numbers (rows_of_tables texts cells) → CanComeFromFiles schema from (tables_of db)
  has_files are entry lt =
      let number : ℕ = get_or (numbers_of from) entry 0 in
      let place : ℕ = index_of numbers number in
      let here : CanComeFromFile (table_at schema (get_or numbers place 0)) (get_or (rows_of_tables texts cells) place []) =
      file_at schema numbers (rows_of_tables texts cells) place are (index_within entry lt) in
      let named : CanComeFromFile (table_at schema number) (get_or (rows_of_tables texts cells) place []) =
      subst (λ (m : ℕ). CanComeFromFile (table_at schema m) (get_or (rows_of_tables texts cells) place [])) (at_place numbers number (index_within entry lt)) here in
      let rows : get_or (rows_of_tables texts cells) place [] ≡ tables_of db entry =
      listn.get_or-map (rows_of_cells texts) cells place no_cells ∙ ap (λ (slot : ℕ). rows_of_cells texts (get_or cells slot no_cells)) (sym (slot_is entry lt)) in
      subst (CanComeFromFile (table_at schema number)) rows named
