-- Steps of the two loops that gather statistics: entry by entry, and for each entry column by column.
use Rattle.std.proofs.Common.{◌≡◌, ℕ, ◌+◌, ◌<◌, ◌≤◌, ◌^◌, List, [], ◌∷◌, ◌++◌, map, length, take, get_or, Some, slice_get, Result, Ok, Err, IfOk, replicate, ap, sym, ◌∙◌, subst, inl, inr, arith}
use Rattle.std.proofs.lemmas.Bool.{cases_eq}
use Rattle.std.proofs.lemmas.List.{get_or_append_left, get_or_past, get_or_push, length_push, map-append, take_more}
use Rattle.std.specs.List.{All}
use Rattle.std.proofs.lemmas.List.Elements.{All-push}
use Rattle.std.proofs.lemmas.Option.{get_or_from_slice_get}
use Rattle.berge_tree.specs.declared.edges.Edge.{Edge}
use Rattle.schema_types.specs.declared.types.Kind.TheVariants as kind
use Rattle.csv_tables.specs.declared.types.Cells.{Cells}
use Rattle.csv_tables.specs.declared.types.Database.{Database}
use Rattle.join_graph.specs.Conjuncts.{equalities_of}
use Rattle.predicate_bounds.specs.declared.columns.ColumnSteps.{ColumnSteps}
use Rattle.predicate_bounds.specs.declared.columns.EntryStats.{EntryStats}
use Rattle.predicate_bounds.specs.declared.steps.Step.{Step}
use Rattle.filtered_lists.specs.Lists.{ColumnLists}
use Rattle.predicate_bounds.specs.ListRuns.{with_list}
use Rattle.predicate_bounds.specs.Steps.{steps_of}
use Rattle.predicate_bounds.specs.StatsLists.{no_columns}
use Rattle.query_types.specs.declared.types.Query.{Query}
use Rattle.sql_meaning.specs.Databases.{AreCells, IsDatabaseOf}
use Rattle.sql_meaning.specs.Tables.{cells_of, no_cells}
use Rattle.sql_meaning.proofs.ColumnFacts.{column_at}
use Rattle.csv_tables.proofs.TableFacts.{columns_long}
use Rattle.gathered_stats.specs.Columns.{AreListsOfKeys, keys_in}
use Rattle.gathered_stats.specs.Asked.{AreGathered, AreStepsOf, AsksWithin, IsGathered, asked_columns}
use Rattle.gathered_stats.proofs.ColumnsExist.{steps_within}

pub one_column : (columns : List ℕ) (i : ℕ) (old new : List ColumnSteps) (one : ColumnSteps) → i < length columns → one.column ≡ get_or columns i 0
    → map (λ g. g.column) old ≡ take i columns → new ≡ old ++ one ∷ [] → map (λ g. g.column) new ≡ take (i + 1) columns
one_column columns i old new one is_below is before pushed =
    ap (map (λ g. g.column)) pushed ∙ map-append (λ (g : ColumnSteps). g.column) old (one ∷ []) ∙ ap (λ (s : List ℕ). s ++ one.column ∷ []) before
    ∙ ap (λ (c : ℕ). take i columns ++ c ∷ []) is ∙ sym (take_more columns i 0 is_below)

pub one_made : (P : ColumnSteps → Type 0) (old new : List ColumnSteps) (one : ColumnSteps) → All P old → P one → new ≡ old ++ one ∷ [] → All P new
one_made P old new one all here pushed = subst (All P) (sym pushed) (All-push P old one all here)

-- ---- the keys of a column

pub keys_as_long_as_rows : (texts : List (List ℕ)) (cells : Cells) → AreCells texts cells → (column : ℕ) (items read : List ℕ) → column < length cells.columns → slice_get cells.columns column ≡ Some items → read ≡ items
    → length read ≡ cells.rows
keys_as_long_as_rows texts cells are column items read is_below at same =
    ap (λ (s : List ℕ). length s) (same ∙ sym (get_or_from_slice_get cells.columns column items [] at))
    ∙ (column_at texts cells.rows cells.kinds cells.columns are column kind.Int [] (omega (arith, is_below, columns_long texts cells.rows cells.kinds cells.columns are))).height

pub keys_are_cells : (cells : Cells) (column : ℕ) (items read : List ℕ) → slice_get cells.columns column ≡ Some items → read ≡ items → read ≡ keys_in cells column
keys_are_cells cells column items read at same = same ∙ sym (get_or_from_slice_get cells.columns column items (replicate cells.rows 0) at)

pub keys_made : (cells : Cells) (column : ℕ) (keys read : List ℕ) → length cells.columns ≤ column → keys ≡ replicate cells.rows 0 → read ≡ keys → read ≡ keys_in cells column
keys_made cells column keys read past made same = same ∙ made ∙ sym (get_or_past cells.columns column (replicate cells.rows 0) past)

if_both : {X E : Type 0} (r : Result X E) (P Q S : X → Type 0) → ((x : X) → P x → Q x → S x) → IfOk r P → IfOk r Q → IfOk r S
if_both (Ok x) P Q S f h k = f x h k
if_both (Err e) P Q S f h k = h

pub column_made : {E : Type 0} (r : Result ColumnSteps E) (texts : List (List ℕ)) (cells : Cells) (accuracy column : ℕ) (keys : List ℕ) (steps : List Step) → keys ≡ keys_in cells column
    → IfOk r (λ g. g.column ≡ column) → IfOk r (λ g. (lists : ColumnLists) → AreListsOfKeys texts cells accuracy keys lists → g.steps ≡ map (with_list lists) steps) → IfOk r (AreStepsOf texts cells accuracy steps)
column_made r texts cells accuracy column keys steps is h k =
    if_both r (λ g. g.column ≡ column) (λ g. (lists : ColumnLists) → AreListsOfKeys texts cells accuracy keys lists → g.steps ≡ map (with_list lists) steps) (AreStepsOf texts cells accuracy steps)
    (λ g named made lists have. made lists (subst (λ (s : List ℕ). AreListsOfKeys texts cells accuracy s lists) (ap (keys_in cells) named ∙ sym is) have)) h k

-- ---- the loop over entries

module _ (query : Query) (db : Database) (accuracy : ℕ) where
  pub one_gathered : (n : ℕ) (old new : List EntryStats) (one : EntryStats) → AreGathered query db accuracy n old → IsGathered query db accuracy n one → new ≡ old ++ one ∷ []
      → AreGathered query db accuracy (n + 1) new
  one_gathered n old new one before here pushed = record {
    as_many = ap (λ (s : List EntryStats). length s) pushed ∙ length_push old one ∙ omega (arith, before.as_many);
    each = λ entry is_below. subst (λ (s : List EntryStats). IsGathered query db accuracy entry (get_or s entry no_columns)) (sym pushed) (elim (cases_eq entry n) [
      | inl same ↦ subst (λ (e : EntryStats). IsGathered query db accuracy entry e) (sym (get_or_push old one no_columns entry (before.as_many ∙ sym same)))
          (subst (λ (m : ℕ). IsGathered query db accuracy m one) (sym same) here)
      | inr apart ↦ (let earlier : entry < n = omega (arith, is_below, apart) in
          subst (λ (e : EntryStats). IsGathered query db accuracy entry e) (sym (get_or_append_left old (one ∷ []) no_columns entry (omega (arith, earlier, before.as_many)))) (before.each entry earlier))
    ]);
  }

-- ---- the table of an entry, and the steps of its own conjuncts

pub cells_read : (db : Database) (entry slot : ℕ) (cells : Cells) → slice_get db.slots entry ≡ Some slot → slice_get db.cells slot ≡ Some cells → cells ≡ cells_of db entry
cells_read db entry slot cells at there =
    sym (ap (λ (n : ℕ). get_or db.cells n no_cells) (get_or_from_slice_get db.slots entry slot 0 at) ∙ get_or_from_slice_get db.cells slot cells no_cells there)

pub cells_are_valid : (query : Query) (db : Database) → IsDatabaseOf query db → (entry : ℕ) (cells : Cells) → entry < length query.from → cells ≡ cells_of db entry → AreCells db.pool cells
cells_are_valid query db of entry cells is_below is =
    let here : entry < length db.slots = omega (arith, is_below, of.entries) in
    subst (AreCells db.pool) (sym is) (of.tables.cells (get_or db.slots entry 0) no_cells (of.tables.slots entry 0 here))

pub steps_ask_within : (query : Query) (db : Database) → IsDatabaseOf query db → (entry : ℕ) (cells : Cells) (steps read : List Step) → cells ≡ cells_of db entry → steps ≡ steps_of entry query.conjuncts
    → read ≡ steps → All (AsksWithin cells) read
steps_ask_within query db of entry cells steps read is are same =
    subst (λ (s : List Step). All (AsksWithin cells) s) (sym (same ∙ are))
    (subst (λ (t : Cells). All (AsksWithin t) (steps_of entry query.conjuncts)) (sym is) (steps_within db entry query.conjuncts of.conjuncts))

pub entry_gathered : {E : Type 0} (r : Result EntryStats E) (query : Query) (db : Database) (accuracy entry : ℕ) (cells : Cells) (es : List Edge) (columns columns_read : List ℕ) (steps read : List Step)
    → cells ≡ cells_of db entry → cells.rows < 2 ^ 32 → es ≡ equalities_of query → columns ≡ asked_columns entry es → columns_read ≡ columns → steps ≡ steps_of entry query.conjuncts → read ≡ steps
    → IfOk r (λ stats. map (λ g. g.column) stats.columns ≡ columns_read) → IfOk r (λ stats. All (AreStepsOf db.pool cells accuracy read) stats.columns)
    → IfOk r (IsGathered query db accuracy entry)
entry_gathered r query db accuracy entry cells es columns columns_read steps read is small equalities asked same are same_steps h k =
    if_both r (λ stats. map (λ g. g.column) stats.columns ≡ columns_read) (λ stats. All (AreStepsOf db.pool cells accuracy read) stats.columns) (IsGathered query db accuracy entry)
    (λ stats named made. record {
      columns = named ∙ same ∙ asked ∙ ap (asked_columns entry) equalities;
      steps = subst (λ (t : Cells). All (AreStepsOf db.pool t accuracy (steps_of entry query.conjuncts)) stats.columns) is
          (subst (λ (s : List Step). All (AreStepsOf db.pool cells accuracy s) stats.columns) (same_steps ∙ are) made);
      rows = subst (λ (t : Cells). t.rows < 2 ^ 32) is small;
    }) h k

pub own_read : (query : Query) (db : Database) (accuracy entry : ℕ) (stats : EntryStats) (cells : Cells) (steps read : List Step) → IsGathered query db accuracy entry stats
    → cells ≡ cells_of db entry → steps ≡ steps_of entry query.conjuncts → read ≡ steps → All (AreStepsOf db.pool cells accuracy read) stats.columns
own_read query db accuracy entry stats cells steps read own is are same =
    subst (λ (t : Cells). All (AreStepsOf db.pool t accuracy read) stats.columns) (sym is)
    (subst (λ (s : List Step). All (AreStepsOf db.pool (cells_of db entry) accuracy s) stats.columns) (sym (same ∙ are)) own.steps)
