-- The tables of a query are read one after another.
use Rattle.std.proofs.Common.{◌≡◌, ℕ, ◌+◌, ◌*◌, ◌<◌, ◌≤◌, List, [], ◌∷◌, ◌++◌, length, take, drop, get_or, Some, Result, Ok, Err, refl, ap, sym, ◌∙◌, subst, arith}
use Rattle.std.specs.Prelude.{⊤}
use Rattle.std.proofs.lemmas.List.{drop_more, take-append-drop, take_more}
use Rattle.std.proofs.lemmas.Option.{get_or_from_slice_get}
use Rattle.std.specs.List.{slice_get}
use Rattle.base_io.specs.Files.{Files}
use Rattle.schema_types.specs.declared.types.Schema.{Schema}
use Rattle.schema_types.specs.declared.types.Table.{Table}
use Rattle.csv_tables.specs.Cells.{AreCellsOf, rows_of_cells}
use Rattle.csv_tables.specs.Pools.{PoolBeginsWith}
use Rattle.csv_tables.specs.Rows.{Row}
use Rattle.csv_tables.specs.declared.types.Cells.{Cells}
use Rattle.csv_tables.proofs.TableFacts.{columns-grown, rows_of_columns-grown}
use Rattle.base_io.specs.Devices.{Reading}
use Rattle.outcomes.specs.Reads.{◌>>=◌, AtFile, Reads}
use Rattle.outcomes.specs.declared.failure.Failure.{Failure}
use Rattle.outcomes.specs.declared.names.FileId.{FileId}
use Rattle.outcomes.specs.declared.names.FileId.TheVariants as file
use Rattle.outcomes.specs.declared.refusal.Refusal.{Refusal}
use Rattle.outcomes.proofs.ReadFacts.{IsFollowedBy, joined, reads_as, then_gives, then_reads, then_stops}
use Rattle.table_files.specs.EntryTables.{AreCellsOfEach, CanComeFromFile, EachCanComeFromFile, rows_of_tables}
use Rattle.table_files.specs.Stage.{IsReached, no_table, rows_of_each, table_at, table_rows}
use Rattle.table_files.specs.TableFile.{file_rows, rows_in}

abbrev AllRows : Type 0
AllRows = Result (List (List Row)) Refusal

-- ---- reading all tables is reading the tables before table n, then table n, then the tables after it

second_part : (a : List Row) (e : AllRows) (u : Result (List Row) Refusal) (w : AllRows)
    → ((e >>= (λ rs. u >>= (λ r. w >>= (λ others. Ok (rs ++ (r ∷ others)))))) >>= (λ rest. Ok (a ∷ rest)))
    ≡ ((e >>= (λ rest. Ok (a ∷ rest))) >>= (λ rs. u >>= (λ r. w >>= (λ others. Ok (rs ++ (r ∷ others))))))
second_part a (Err x) u w = refl
second_part a (Ok rs) (Err x) w = refl
second_part a (Ok rs) (Ok r) (Err x) = refl
second_part a (Ok rs) (Ok r) (Ok others) = refl

first_part : (t : Result (List Row) Refusal) (e e' : AllRows) (u : Result (List Row) Refusal) (w : AllRows)
    → e' ≡ (e >>= (λ rs. u >>= (λ r. w >>= (λ others. Ok (rs ++ (r ∷ others))))))
    → (t >>= (λ a. e' >>= (λ rest. Ok (a ∷ rest))))
    ≡ ((t >>= (λ a. e >>= (λ rest. Ok (a ∷ rest)))) >>= (λ rs. u >>= (λ r. w >>= (λ others. Ok (rs ++ (r ∷ others))))))
first_part (Err x) e e' u w h = refl
first_part (Ok a) e e' u w h = ap (λ (v : AllRows). v >>= (λ rest. Ok (a ∷ rest))) h ∙ second_part a e u w

abbrev onward : Schema → ℕ → List ℕ → List (List Row) → Files → AllRows
onward schema n after rs files = table_rows schema n files >>= (λ r. rows_of_each schema after files >>= (λ others. Ok (rs ++ (r ∷ others))))

parted : (schema : Schema) (before : List ℕ) (n : ℕ) (after : List ℕ) (files : Files)
    → rows_of_each schema (before ++ (n ∷ after)) files ≡ (rows_of_each schema before files >>= (λ rs. onward schema n after rs files))
parted schema [] n after files = refl
parted schema (m ∷ before) n after files =
    first_part (table_rows schema m files) (rows_of_each schema before files) (rows_of_each schema (before ++ (n ∷ after)) files) (table_rows schema n files) (rows_of_each schema after files)
    (parted schema before n after files)

-- ---- reading one more table, number n: its refusal ends the reading, its rows are appended

-- `Reads` needs a condition on the file at which a reading may fail. A reading that succeeds fails at no file, so any condition may be given.
-- `AnyFile` holds for every file
abbrev pub AnyFile : Files → FileId → Type 0
AnyFile files id = ⊤

module _ (schema : Schema) (first second : Reading) (meets : IsFollowedBy first second) (before : List ℕ) (n : ℕ) (rs : List (List Row))
    (h : Reads first (rows_of_each schema before) AnyFile (Ok rs)) where
  abbrev AtThis : Files → FileId → Type 0
  AtThis = AtFile (file.Table n)

  ends_there : (after numbers : List ℕ) (e : Failure) → before ++ (n ∷ after) ≡ numbers → Reads second (onward schema n after rs) AtThis (Err e)
      → Reads (joined first second) (rows_of_each schema numbers) (IsReached schema numbers) (Err e)
  ends_there after numbers e order k =
      reads_as (joined first second) (λ files. rows_of_each schema before files >>= (λ x. onward schema n after x files)) (rows_of_each schema numbers)
      (IsReached schema numbers) (IsReached schema numbers) (Err e)
      (λ files. ap (λ (l : List ℕ). rows_of_each schema l files) (sym order) ∙ parted schema before n after files) (λ files id reached. reached)
      (then_reads (rows_of_each schema before) (onward schema n after) first second AnyFile AtThis (IsReached schema numbers) rs (Err e) meets
      (λ files id is at. record { before = before; number = n; after = after; order = order; file = at; sound = rw is refl }) h k)

  pub each_stops : (after numbers : List ℕ) (e : Failure) → before ++ (n ∷ after) ≡ numbers → Reads second (table_rows schema n) AtThis (Err e)
      → Reads (joined first second) (rows_of_each schema numbers) (IsReached schema numbers) (Err e)
  each_stops after numbers e order k = ends_there after numbers e order
      (then_stops (table_rows schema n) (λ r files. rows_of_each schema after files >>= (λ others. Ok (rs ++ (r ∷ others)))) second AtThis AtThis e (λ files id at. at) k)

  each_more : (r : List Row) → Reads second (table_rows schema n) AtThis (Ok r)
      → Reads (joined first second) (rows_of_each schema (before ++ n ∷ [])) AnyFile (Ok (rs ++ r ∷ []))
  each_more r k =
      reads_as (joined first second) (λ files. rows_of_each schema before files >>= (λ x. onward schema n [] x files)) (rows_of_each schema (before ++ n ∷ []))
      AnyFile AnyFile (Ok (rs ++ r ∷ [])) (parted schema before n []) (λ files id at. tt)
      (then_reads (rows_of_each schema before) (onward schema n []) first second AnyFile AtThis AnyFile rs (Ok (rs ++ r ∷ [])) meets (λ files id is at. tt) h
      (then_gives second (table_rows schema n) (λ r. Ok (rs ++ r ∷ [])) AtThis AtThis r (rs ++ r ∷ []) refl k))

-- ---- cells keep their meaning when texts are added to the pool

module _ (schema : Schema) (a b : List (List ℕ)) (begins : PoolBeginsWith a b) where
  each-grown : (numbers : List ℕ) (found : List Cells) → AreCellsOfEach schema a numbers found → AreCellsOfEach schema b numbers found
  each-grown [] [] h = tt
  each-grown [] (c ∷ cs) h = absurd h
  each-grown (n ∷ ns) [] h = absurd h
  each-grown (n ∷ ns) (c ∷ cs) h =
      (record { kinds = h.0.kinds; columns = columns-grown a b c.rows c.kinds c.columns begins h.0.columns }, each-grown ns cs h.1)

  each_rows-grown : (numbers : List ℕ) (found : List Cells) → AreCellsOfEach schema a numbers found → rows_of_tables b found ≡ rows_of_tables a found
  each_rows-grown [] [] h = refl
  each_rows-grown [] (c ∷ cs) h = absurd h
  each_rows-grown (n ∷ ns) [] h = absurd h
  each_rows-grown (n ∷ ns) (c ∷ cs) h =
      ap (λ (rows : List Row). rows ∷ rows_of_tables b cs) (rows_of_columns-grown a b c.rows c.kinds c.columns begins h.0.columns)
      ∙ ap (λ (others : List (List Row)). rows_of_cells a c ∷ others) (each_rows-grown ns cs h.1)

each-push : (schema : Schema) (texts : List (List ℕ)) (numbers : List ℕ) (found : List Cells) (n : ℕ) (c : Cells) → AreCellsOfEach schema texts numbers found
    → AreCellsOf (table_at schema n) texts c → AreCellsOfEach schema texts (numbers ++ n ∷ []) (found ++ c ∷ [])
each-push schema texts [] [] n c h k = (k, tt)
each-push schema texts [] (d ∷ ds) n c h k = absurd h
each-push schema texts (m ∷ ms) [] n c h k = absurd h
each-push schema texts (m ∷ ms) (d ∷ ds) n c h k = (h.0, each-push schema texts ms ds n c h.1 k)

rows-push : (texts : List (List ℕ)) (found : List Cells) (c : Cells) → rows_of_tables texts (found ++ c ∷ []) ≡ rows_of_tables texts found ++ rows_of_cells texts c ∷ []
rows-push texts [] c = refl
rows-push texts (d ∷ ds) c = ap (λ (others : List (List Row)). rows_of_cells texts d ∷ others) (rows-push texts ds c)

files-push : (schema : Schema) (numbers : List ℕ) (rows : List (List Row)) (n : ℕ) (r : List Row) → EachCanComeFromFile schema numbers rows → CanComeFromFile (table_at schema n) r
    → EachCanComeFromFile schema (numbers ++ n ∷ []) (rows ++ r ∷ [])
files-push schema [] [] n r h k = (k, tt)
files-push schema [] (s ∷ rows) n r h k = absurd h
files-push schema (m ∷ ms) [] n r h k = absurd h
files-push schema (m ∷ ms) (s ∷ rows) n r h k = (h.0, files-push schema ms rows n r h.1 k)

-- ---- the loop over the tables

-- this is the state of the loop: the first i tables are read
pub record TablesReadSoFar (schema : Schema) (numbers : List ℕ) (store : Reading) (i : ℕ) (texts : List (List ℕ)) (found : List Cells) : Type 0 where
  pub cells : AreCellsOfEach schema texts (take i numbers) found
  pub reads : Reads store (rows_of_each schema (take i numbers)) AnyFile (Ok (rows_of_tables texts found))
  pub files : EachCanComeFromFile schema (take i numbers) (rows_of_tables texts found)
  pub few : length texts ≤ i * 256000000

parts_at : (numbers : List ℕ) (i n : ℕ) → i < length numbers → n ≡ get_or numbers i 0 → take i numbers ++ (n ∷ drop (i + 1) numbers) ≡ numbers
parts_at numbers i n lt is =
    ap (λ (m : ℕ). take i numbers ++ (m ∷ drop (i + 1) numbers)) is
    ∙ ap (λ (l : List ℕ). take i numbers ++ l) (sym (drop_more numbers i 0 lt)) ∙ take-append-drop i numbers

module _ (schema : Schema) (n : ℕ) (t : Table) (declared : slice_get schema.tables n ≡ Some t) where
  same_table : t ≡ table_at schema n
  same_table = sym (get_or_from_slice_get schema.tables n t no_table declared)

  named_rows : (store : Reading) (answer : Result (List Row) Failure) → Reads store (file_rows n t) (AtFile (file.Table n)) answer
      → Reads store (table_rows schema n) (AtFile (file.Table n)) answer
  named_rows store answer k = subst (λ (u : Table). Reads store (file_rows n u) (AtFile (file.Table n)) answer) same_table k

  pub rows_named : (name : List ℕ) (store : Reading) (answer : Result (List Row) Failure) → Reads store (rows_in n t name) (AtFile (file.Table n)) answer
      → Reads store (rows_in n (table_at schema n) name) (AtFile (file.Table n)) answer
  rows_named name store answer k = subst (λ (u : Table). Reads store (rows_in n u name) (AtFile (file.Table n)) answer) same_table k

  named_file : (rows : List Row) → CanComeFromFile t rows → CanComeFromFile (table_at schema n) rows
  named_file rows h = subst (λ (u : Table). CanComeFromFile u rows) same_table h

  pub named_cells : (texts : List (List ℕ)) (c : Cells) → AreCellsOf t texts c → AreCellsOf (table_at schema n) texts c
  named_cells texts c h = subst (λ (u : Table). AreCellsOf u texts c) same_table h

module _ (schema : Schema) (numbers : List ℕ) (first second : Reading) (meets : IsFollowedBy first second) (i n : ℕ) (a : List (List ℕ)) (found : List Cells)
    (lt : i < length numbers) (number_is : n ≡ get_or numbers i 0) (t : Table) (declared : slice_get schema.tables n ≡ Some t) (so_far : TablesReadSoFar schema numbers first i a found) where
  pub next_stops : (e : Failure) → Reads second (file_rows n t) (AtFile (file.Table n)) (Err e)
      → Reads (joined first second) (rows_of_each schema numbers) (IsReached schema numbers) (Err e)
  next_stops e k = each_stops schema first second meets (take i numbers) n (rows_of_tables a found) so_far.reads (drop (i + 1) numbers) numbers e (parts_at numbers i n lt number_is)
      (named_rows schema n t declared second (Err e) k)

  taken : take (i + 1) numbers ≡ take i numbers ++ n ∷ []
  taken = take_more numbers i 0 lt ∙ ap (λ (m : ℕ). take i numbers ++ m ∷ []) (sym number_is)

  pub next_read : (b : List (List ℕ)) (c : Cells) → PoolBeginsWith a b → length b ≤ length a + 256000000 → AreCellsOf t b c → CanComeFromFile t (rows_of_cells b c)
      → Reads second (file_rows n t) (AtFile (file.Table n)) (Ok (rows_of_cells b c)) → TablesReadSoFar schema numbers (joined first second) (i + 1) b (found ++ c ∷ [])
  next_read b c begins more cells file k =
      let rows : rows_of_tables a found ++ rows_of_cells b c ∷ [] ≡ rows_of_tables b (found ++ c ∷ []) =
      ap (λ (l : List (List Row)). l ++ rows_of_cells b c ∷ []) (sym (each_rows-grown schema a b begins (take i numbers) found so_far.cells)) ∙ sym (rows-push b found c) in
      record {
        cells = subst (λ (l : List ℕ). AreCellsOfEach schema b l (found ++ c ∷ [])) (sym taken)
            (each-push schema b (take i numbers) found n c (each-grown schema a b begins (take i numbers) found so_far.cells) (named_cells schema n t declared b c cells));
        reads = subst (λ (l : List ℕ). Reads (joined first second) (rows_of_each schema l) AnyFile (Ok (rows_of_tables b (found ++ c ∷ [])))) (sym taken)
            (subst (λ (v : List (List Row)). Reads (joined first second) (rows_of_each schema (take i numbers ++ n ∷ [])) AnyFile (Ok v)) rows
            (each_more schema first second meets (take i numbers) n (rows_of_tables a found) so_far.reads (rows_of_cells b c) (named_rows schema n t declared second (Ok (rows_of_cells b c)) k)));
        files = subst (λ (l : List ℕ). EachCanComeFromFile schema l (rows_of_tables b (found ++ c ∷ []))) (sym taken)
            (subst (λ (v : List (List Row)). EachCanComeFromFile schema (take i numbers ++ n ∷ []) v) rows
            (files-push schema (take i numbers) (rows_of_tables a found) n (rows_of_cells b c) so_far.files (named_file schema n t declared (rows_of_cells b c) file)));
        few = omega (arith, so_far.few, more);
      }
