-- Filter columns are picked one after another, with their cells in the chosen rows. Then they are sorted.
use Rattle.std.proofs.Common.{◌≡◌, ℕ, ◌+◌, ◌<◌, true, eqb, List, [], ◌∷◌, ◌++◌, length, map, get_or, take, Option, None, Some, slice_get, refl, ap, sym, ◌∙◌, subst, arith}
use Rattle.std.specs.Prelude.{IfOk, IfSome, ◌||◌, Bool, Result, Ok, Err}
use Rattle.std.specs.List.{All, list_any, range_with_len}
use Rattle.std.proofs.lemmas.List.{get_or-map, length-map, map-append, map-id, take_more}
use Rattle.std.proofs.lemmas.List.Elements.{All-push, All-weaker}
use Rattle.std.proofs.lemmas.List.FromFn.{fill_by_all, map-range_with_len_more}
use Rattle.std.proofs.lemmas.Option.{get_or_from_slice_get}
use Rattle.schema_types.specs.declared.types.Kind.{Kind}
use Rattle.schema_types.specs.declared.types.Kind.TheVariants as kind
use Rattle.csv_tables.specs.declared.types.Cells.{Cells}
use Rattle.csv_tables.specs.Cells.{IsCell, IsColumn}
use Rattle.csv_tables.proofs.TableFacts.{columns_long}
use Rattle.cond_stats.specs.Columns.{CellColumn}
use Rattle.predicate_bounds.specs.declared.steps.Step.{Step}
use Rattle.sql_meaning.specs.Databases.{AreCells}
use Rattle.sql_meaning.proofs.ColumnFacts.{column_at}
use Rattle.gathered_stats.specs.declared.paired_rows.PickedColumn.{PickedColumn}
use Rattle.gathered_stats.specs.declared.filters.SortedColumn.{SortedColumn}
use Rattle.filtered_lists.specs.Lists.{ColumnLists}
use Rattle.predicate_bounds.specs.declared.columns.ColumnSteps.{ColumnSteps}
use Rattle.predicate_bounds.specs.declared.columns.EntryStats.{EntryStats}
use Rattle.predicate_bounds.specs.ListRuns.{with_list}
use Rattle.predicate_bounds.specs.Steps.{steps_of}
use Rattle.berge_tree.specs.declared.edges.Edge.{Edge}
use Rattle.csv_tables.specs.declared.types.Database.{Database}
use Rattle.join_graph.specs.Conjuncts.{equalities_of}
use Rattle.query_types.specs.declared.types.Query.{Query}
use Rattle.sql_meaning.specs.Tables.{cells_of}
use Rattle.gathered_stats.specs.Asked.{compared_column, joined_columns}
use Rattle.gathered_stats.specs.PairedRows.{AreStepsOfPaired, IsGatheredForPaired, IsPicked, HasColumnFor}
use Rattle.gathered_stats.specs.Columns.{AreListsOfKeys, cells_in, kind_in}
use Rattle.gathered_stats.specs.Filters.{IsColumnIn, HasFilterFor}
use Rattle.gathered_stats.specs.ShownCells.{AreRowNumbersOf, cells_at, picked}
use Rattle.gathered_stats.proofs.ShownCells.{picked_cells}
use Rattle.gathered_stats.proofs.Serving.{one_item_more}

module _ (texts : List (List ℕ)) (cells : Cells) (are : AreCells texts cells) (rows : List ℕ) (rows_exist : AreRowNumbersOf cells rows) where
  whole_column : (column : ℕ) → column < length cells.kinds → IsColumn texts cells.rows (kind_in cells column) (cells_in cells column)
  whole_column column exists = column_at texts cells.rows cells.kinds cells.columns are column kind.Int [] exists

  pub rows_read : (column : ℕ) (items read : List ℕ) → column < length cells.kinds → slice_get cells.columns column ≡ Some items → read ≡ items → All (λ row. row < length read) rows
  rows_read column items read exists there same =
      subst (λ (n : ℕ). All (λ row. row < n) rows)
      (sym (ap (λ (s : List ℕ). length s) (same ∙ sym (get_or_from_slice_get cells.columns column items [] there)) ∙ (whole_column column exists).height)) rows_exist

  pub is_picked : (column : ℕ) (k : Kind) (items read at_rows : List ℕ) (one : PickedColumn) → column < length cells.kinds → slice_get cells.kinds column ≡ Some k
      → slice_get cells.columns column ≡ Some items → read ≡ items → at_rows ≡ picked rows read → one.column ≡ column → one.kind ≡ k → one.cells.items ≡ at_rows
      → IsPicked cells rows column one
  is_picked column k items read at_rows one exists is there same made number kind_is cells_is = record {
    exists = exists;
    number = number;
    kind = kind_is ∙ sym (get_or_from_slice_get cells.kinds column k kind.Int is);
    cells_are = cells_is ∙ made ∙ ap (picked rows) (same ∙ sym (get_or_from_slice_get cells.columns column items [] there));
  }

  module _ (one : PickedColumn) (is : IsPicked cells rows one.column one) (read : List ℕ) (read_is_cells : read ≡ one.cells.items) where
    read_is : read ≡ picked rows (cells_in cells one.column)
    read_is = read_is_cells ∙ is.cells_are

    pub read_count : length read ≡ length rows
    read_count = ap (λ (s : List ℕ). length s) read_is ∙ length-map rows (λ (row : ℕ). get_or (cells_in cells one.column) row 0)

    pub read_cells : All (IsCell texts one.kind) read
    read_cells =
        let whole : IsColumn texts cells.rows (kind_in cells one.column) (cells_in cells one.column) = whole_column one.column is.exists in
        subst (λ (s : List ℕ). All (IsCell texts one.kind) s) (sym read_is)
        (subst (λ (k : Kind). All (IsCell texts k) (picked rows (cells_in cells one.column))) (sym is.kind)
        (picked_cells texts (kind_in cells one.column) (cells_in cells one.column) whole.cells rows (subst (λ (n : ℕ). All (λ row. row < n) rows) (sym whole.height) rows_exist)))

    column_is : (k l : Kind) (r s : List ℕ) → k ≡ l → r ≡ s → (let c : CellColumn = record { texts = texts; kind = k; cells = r } in c) ≡ record { texts = texts; kind = l; cells = s }
    column_is k l r s h i = rw (h, i) refl

    pub sorted_is : (sorted : CellColumn) → sorted ≡ record { texts = texts; kind = one.kind; cells = read } → IsColumnIn texts (cells_at rows cells) one.column sorted
    sorted_is sorted made = record {
      exists = is.exists;
      is = made ∙ column_is one.kind (kind_in cells one.column) read (cells_in (cells_at rows cells) one.column) is.kind
          (read_is ∙ sym (get_or-map (picked rows) cells.columns one.column [] []
          (omega (arith, is.exists, columns_long texts cells.rows cells.kinds cells.columns are))));
    }

pub one_more : {X : Type 0} (P : X → Type 0) (old new : List X) (one : X) → All P old → P one → new ≡ old ++ one ∷ [] → All P new
one_more P old new one all here pushed = subst (All P) (sym pushed) (All-push P old one all here)

-- ---- the column of each step is among the picked columns, and then among the sorted columns

pub served_already : (columns read : List PickedColumn) (step : Step) (found : Option ℕ) (column : ℕ) → read ≡ columns → found ≡ compared_column step → found ≡ Some column
    → list_any (λ other. eqb other.column column) read ≡ true → HasColumnFor columns step
served_already columns read step found column same asked is there =
    subst (λ (o : Option ℕ). IfSome o (λ column. list_any (λ other. eqb other.column column) columns ≡ true)) (sym is ∙ asked)
    (ap (λ (s : List PickedColumn). list_any (λ other. eqb other.column column) s) (sym same) ∙ there)

pub serve_more : (old new : List PickedColumn) (steps : List Step) (i : ℕ) (step : Step) → i < length steps → step ≡ get_or steps i step
    → ((other : Step) → HasColumnFor old other → HasColumnFor new other) → HasColumnFor new step → All (HasColumnFor old) (take i steps) → All (HasColumnFor new) (take (i + 1) steps)
serve_more old new steps i step is_below is kept here before =
    one_item_more (HasColumnFor new) steps i step is_below is (All-weaker (HasColumnFor old) (HasColumnFor new) kept (take i steps) before) here

any_mapped : {X : Type 0} (number : X → ℕ) (column : ℕ) (xs : List X) → list_any (λ x. eqb (number x) column) xs ≡ list_any (λ n. eqb n column) (map number xs)
any_mapped number column [] = refl
any_mapped number column (x ∷ xs) = ap (λ (b : Bool). eqb (number x) column || b) (any_mapped number column xs)

if_some_weaken : (o : Option ℕ) (P Q : ℕ → Type 0) → ((column : ℕ) → P column → Q column) → IfSome o P → IfSome o Q
if_some_weaken None P Q more h = h
if_some_weaken (Some column) P Q more h = more column h

pub sorted_serve : (columns : List PickedColumn) (filters : List SortedColumn) → map (λ f. f.column) filters ≡ map (λ one. one.column) columns
    → (step : Step) → HasColumnFor columns step → HasFilterFor filters step
sorted_serve columns filters same step serve =
    if_some_weaken (compared_column step) (λ column. list_any (λ other. eqb other.column column) columns ≡ true) (λ column. list_any (λ f. eqb f.column column) filters ≡ true)
    (λ column there.
    any_mapped (λ (f : SortedColumn). f.column) column filters ∙ ap (λ (s : List ℕ). list_any (λ n. eqb n column) s) same
    ∙ sym (any_mapped (λ (one : PickedColumn). one.column) column columns) ∙ there) serve

pub serve_each : (columns read : List PickedColumn) → read ≡ columns → (filters : List SortedColumn) (steps : List Step) → All (HasColumnFor columns) steps
    → ((step : Step) → HasColumnFor read step → HasFilterFor filters step) → All (HasFilterFor filters) steps
serve_each columns read same filters steps serve each =
    All-weaker (HasColumnFor read) (HasFilterFor filters) each steps (subst (λ (s : List PickedColumn). All (HasColumnFor s) steps) (sym same) serve)

pub one_sorted : (columns : List PickedColumn) (i : ℕ) (one : PickedColumn) (old new : List SortedColumn) (filter : SortedColumn) → i < length columns → one ≡ get_or columns i one
    → map (λ f. f.column) old ≡ map (λ one. one.column) (take i columns) → filter.column ≡ one.column → new ≡ old ++ filter ∷ []
    → map (λ f. f.column) new ≡ map (λ one. one.column) (take (i + 1) columns)
one_sorted columns i one old new filter is_below at before is pushed =
    ap (map (λ (f : SortedColumn). f.column)) pushed ∙ map-append (λ (f : SortedColumn). f.column) old (filter ∷ [])
    ∙ ap (λ (s : List ℕ). s ++ filter.column ∷ []) before
    ∙ ap (λ (n : ℕ). map (λ (one : PickedColumn). one.column) (take i columns) ++ n ∷ []) (is ∙ ap (λ (one : PickedColumn). one.column) at)
    ∙ sym (ap (map (λ (one : PickedColumn). one.column)) (take_more columns i one is_below) ∙ map-append (λ (one : PickedColumn). one.column) (take i columns) (get_or columns i one ∷ []))

-- ---- the steps for one column of the other entry

pub steps_beside : (texts : List (List ℕ)) (cells : Cells) (accuracy : ℕ) (beside : Cells) (rows : List ℕ) (steps : List Step) (gathered : ColumnSteps) (column : ℕ) (items read keys : List ℕ)
    → slice_get beside.columns column ≡ Some items → read ≡ items → keys ≡ picked rows read → gathered.column ≡ column
    → ((lists : ColumnLists) → AreListsOfKeys texts cells accuracy keys lists → gathered.steps ≡ map (with_list lists) steps) → AreStepsOfPaired texts cells accuracy beside rows steps gathered
steps_beside texts cells accuracy beside rows steps gathered column items read keys there same made number each lists have =
    each lists (subst (λ (s : List ℕ). AreListsOfKeys texts cells accuracy s lists) (sym is) have)
  where
    is : keys ≡ picked rows (cells_in beside gathered.column)
    is = made ∙ ap (picked rows) (same ∙ sym (get_or_from_slice_get beside.columns column items [] there)) ∙ ap (λ (n : ℕ). picked rows (cells_in beside n)) (sym number)

pub row_more : (rows : List ℕ) (at : ℕ) → at < length rows → get_or rows at 0 ≡ at → take at rows ≡ range_with_len 0 at → take (at + 1) rows ≡ range_with_len 0 (at + 1)
row_more rows at is_below is before =
    let more : range_with_len 0 (at + 1) ≡ range_with_len 0 at ++ at ∷ [] = simp map-id at (map-range_with_len_more (λ (x : ℕ). x) 0 at at (omega arith)) in
    take_more rows at 0 is_below ∙ ap (λ (s : List ℕ). s ++ get_or rows at 0 ∷ []) before ∙ ap (λ (n : ℕ). range_with_len 0 at ++ n ∷ []) is ∙ sym more

pub all_picked : (rows read : List ℕ) → rows ≡ range_with_len 0 (length read) → read ≡ picked rows read
all_picked rows read all =
    fill_by_all (λ (k : ℕ). get_or read k 0) read (length read) 0 refl (λ k is_below. refl) ∙ ap (λ (s : List ℕ). picked s read) (sym all)

pub column_beside : {E : Type 0} (r : Result ColumnSteps E) (texts : List (List ℕ)) (cells : Cells) (accuracy : ℕ) (beside : Cells) (rows : List ℕ) (steps : List Step) (column : ℕ)
    (items read keys : List ℕ) → slice_get beside.columns column ≡ Some items → read ≡ items → keys ≡ picked rows read → IfOk r (λ gathered. gathered.column ≡ column)
    → IfOk r (λ gathered. (lists : ColumnLists) → AreListsOfKeys texts cells accuracy keys lists → gathered.steps ≡ map (with_list lists) steps)
    → IfOk r (AreStepsOfPaired texts cells accuracy beside rows steps)
column_beside (Ok gathered) texts cells accuracy beside rows steps column items read keys there same made number each =
    steps_beside texts cells accuracy beside rows steps gathered column items read keys there same made number each
column_beside (Err e) texts cells accuracy beside rows steps column items read keys there same made number each = tt

-- ---- the steps for all joined columns of the other entry

pub beside_gathered : (query : Query) (db : Database) (accuracy entry : ℕ) (rows : List ℕ) (other : ℕ) (other_rows : List ℕ) (cells beside : Cells) (es es_read : List Edge)
    (columns columns_read : List ℕ) (steps read : List Step) (stats : EntryStats) → cells ≡ cells_of db entry → beside ≡ cells_of db other → es ≡ equalities_of query → es_read ≡ es
    → columns ≡ joined_columns other es_read → columns_read ≡ columns
    → steps ≡ steps_of entry query.conjuncts → read ≡ steps → map (λ g. g.column) stats.columns ≡ columns_read
    → All (AreStepsOfPaired db.pool (cells_at rows cells) accuracy beside other_rows read) stats.columns → IsGatheredForPaired query db accuracy entry rows other other_rows stats
beside_gathered query db accuracy entry rows other other_rows cells beside es es_read columns columns_read steps read stats is beside_is equalities es_same asked same are same_steps named made = record {
  columns_are = named ∙ same ∙ asked ∙ ap (joined_columns other) (es_same ∙ equalities);
  steps_are = subst (λ (t : Cells). All (AreStepsOfPaired db.pool (cells_at rows t) accuracy (cells_of db other) other_rows (steps_of entry query.conjuncts)) stats.columns) is
      (subst (λ (t : Cells). All (AreStepsOfPaired db.pool (cells_at rows cells) accuracy t other_rows (steps_of entry query.conjuncts)) stats.columns) beside_is
      (subst (λ (s : List Step). All (AreStepsOfPaired db.pool (cells_at rows cells) accuracy beside other_rows s) stats.columns) (same_steps ∙ are) made));
}
