-- The statistics that are gathered for all entries are the statistics of the tables (`statistics_of`).
use Rattle.std.proofs.Common.{◌≡◌, ℕ, zero, suc, ◌<◌, eqb, List, [], ◌∷◌, map, length, get_or, replicate, Some, option_map, slice_get, find, refl, ap, sym, ◌∙◌, subst, inl, inr, arith}
use Rattle.std.specs.List.{All, AllByRecursion, Contains}
use Rattle.std.proofs.lemmas.List.{length-map}
use Rattle.std.proofs.lemmas.Bool.{cases_Bool, cases_lt, eq-eqb, eqb-true, false≢true}
use Rattle.std.proofs.lemmas.List.Elements.{recursion_from_All}
use Rattle.berge_tree.specs.declared.edges.Place.{Place}
use Rattle.berge_tree.specs.Equalities.{places_of}
use Rattle.csv_tables.specs.declared.types.Cells.{Cells}
use Rattle.csv_tables.specs.declared.types.Database.{Database}
use Rattle.entry_sets.proofs.Listing.{in_front, not_in_empty, in_front_or_rest}
use Rattle.filtered_lists.specs.Standing.{SumTo}
use Rattle.join_graph.specs.Conjuncts.{equalities_of}
use Rattle.level_bounds.specs.Keys.{HaveDifferentCharacters}
use Rattle.level_bounds.proofs.Lists.{from_members}
use Rattle.predicate_bounds.specs.declared.columns.ColumnSteps.{ColumnSteps}
use Rattle.predicate_bounds.specs.declared.columns.QueryStats.{QueryStats}
use Rattle.predicate_bounds.specs.Steps.{steps_of}
use Rattle.predicate_bounds.specs.StatsLists.{steps_with_lists, columns_of, no_columns}
use Rattle.query_bounds.specs.Statistics.{HasStatistics, HasColumnLists, HasRowBoundLists}
use Rattle.query_types.specs.declared.types.ColumnRef.{ColumnRef}
use Rattle.query_types.specs.declared.types.Query.{Query}
use Rattle.sql_meaning.specs.Databases.{AreCells, AreTables, IsColumnOf, IsDatabaseOf}
use Rattle.sql_meaning.specs.Tables.{cells_of, no_cells, tables_of}
use Rattle.sql_meaning.proofs.LoopFacts.{rows_are}
use Rattle.table_stats.proofs.DatabaseColumns.{cells_equal, cells_range, cells_whole}
use Rattle.table_stats.specs.Statistics.{column_lists, entry_counts}
use Rattle.csv_tables.proofs.TableFacts.{columns_long}
use Rattle.gathered_stats.specs.Asked.{AreStepsOf, IsGathered, asked_columns}
use Rattle.gathered_stats.specs.Columns.{KeysHaveLists, AreListsOfKeys, cells_in, keys_in}
use Rattle.gathered_stats.specs.Statistics.{statistics_of}
use Rattle.gathered_stats.proofs.Joined.{asked_place, place_asked, place_exists, asked_not_empty}
use Rattle.gathered_stats.proofs.MissingColumns.{missing_lists}

-- ---- looking up the steps that were gathered for a column

pub found_has : (P : ColumnSteps → Type 0) (columns : List ColumnSteps) (x : ℕ) → Contains (map (λ g. g.column) columns) x → All P columns
    → (g : ColumnSteps) × (find (λ g. eqb g.column x) columns ≡ Some g) × (g.column ≡ x) × P g
found_has P columns x k all = by columns k (recursion_from_All P columns all)
  where
    by : (columns : List ColumnSteps) → Contains (map (λ g. g.column) columns) x → AllByRecursion P columns
        → (g : ColumnSteps) × (find (λ g. eqb g.column x) columns ≡ Some g) × (g.column ≡ x) × P g
    by [] k h = absurd (not_in_empty x k)
    by (g ∷ columns) k h = elim (cases_Bool (eqb g.column x)) [
      | inl t ↦ (g, rw t refl, eqb-true g.column x t, h.0)
      | inr n ↦ elim (in_front_or_rest g.column (map (λ g. g.column) columns) x k) [
        | inl later ↦ (let rest = by columns later h.1 in (rest.0, rw n rest.1, rest.2, rest.3))
        | inr is ↦ absurd (false≢true (sym n ∙ eq-eqb g.column x (sym is)))
      ]
    ]

pub first_has : (P : ColumnSteps → Type 0) (columns : List ColumnSteps) → 0 < length columns → All P columns
    → (g : ColumnSteps) × (slice_get columns 0 ≡ Some g) × Contains (map (λ g. g.column) columns) g.column × P g
first_has P [] some all = absurd (omega (arith, some))
first_has P (g ∷ columns) some all = (g, refl, in_front g.column (map (λ g. g.column) columns) g.column refl, all 0 g (omega arith))

-- ---- the lists of each column that is asked for

abbrev pub HaveTheirLists : Database → ℕ → Type 0
HaveTheirLists db accuracy = (joined : ColumnRef) → IsColumnOf db joined
    → AreListsOfKeys db.pool (cells_of db joined.from) accuracy (cells_in (cells_of db joined.from) joined.column) (column_lists (tables_of db) accuracy joined.from joined.column)

pub their_lists : (db : Database) (accuracy : ℕ) → AreTables db → HaveDifferentCharacters db.pool → HaveTheirLists db accuracy
their_lists db accuracy are differ joined is = record {
  whole = cells_whole db joined accuracy are differ is;
  equal = λ column value cell low stands. cells_equal db (record { from = joined.from; column = column }) joined accuracy value cell are differ (record { entry = is.entry; exists = low }) is refl stands;
  range = λ range low. cells_range db (record { from = joined.from; column = range.column }) joined accuracy range.low range.high are differ (record { entry = is.entry; exists = low }) is refl;
}

same_default : {X : Type 0} (xs : List X) (i : ℕ) (a b : X) → i < length xs → get_or xs i a ≡ get_or xs i b
same_default [] i a b low = absurd (omega (arith, low))
same_default (x ∷ xs) zero a b low = refl
same_default (x ∷ xs) (suc i) a b low = same_default xs i a b (omega (arith, low))

module _ (query : Query) (db : Database) (accuracy : ℕ) (of_query : IsDatabaseOf query db) (characters_differ : HaveDifferentCharacters db.pool)
    (laws : HaveTheirLists db accuracy) where
  cells_there : (entry : ℕ) → entry < length query.from → AreCells db.pool (cells_of db entry)
  cells_there entry low =
      let here : entry < length db.slots = omega (arith, low, of_query.entries) in
      of_query.tables.cells (get_or db.slots entry 0) no_cells (of_query.tables.slots entry 0 here)

  of_column : (joined : ColumnRef) → IsColumnOf db joined → AreCells db.pool (cells_of db joined.from)
      → AreListsOfKeys db.pool (cells_of db joined.from) accuracy (keys_in (cells_of db joined.from) joined.column) (column_lists (tables_of db) accuracy joined.from joined.column)
  of_column joined is are =
      let cells : Cells = cells_of db joined.from in
      subst (λ (keys : List ℕ). AreListsOfKeys db.pool cells accuracy keys (column_lists (tables_of db) accuracy joined.from joined.column))
      (same_default cells.columns joined.column [] (replicate cells.rows 0) (omega (arith, is.exists, columns_long db.pool cells.rows cells.kinds cells.columns are)))
      (laws joined is)

  asked_lists_there : (entry column : ℕ) → entry < length query.from → Contains (asked_columns entry (equalities_of query)) column
      → AreListsOfKeys db.pool (cells_of db entry) accuracy (keys_in (cells_of db entry) column) (column_lists (tables_of db) accuracy entry column)
  asked_lists_there entry column low k = elim (asked_place entry (equalities_of query) column k) [
    | inl named ↦ (let p : Place = named.0 in
        let is : IsColumnOf db (record { from = entry; column = column }) =
        subst (λ (ref : ColumnRef). IsColumnOf db ref) (same_ref p.entry p.column entry column named.2 (sym named.3)) (place_exists query db of_query p named.1) in
        of_column (record { from = entry; column = column }) is (cells_there entry low))
    | inr none ↦ elim (cases_lt column (length (cells_of db entry).kinds)) [
      | inl exists ↦ of_column (record { from = entry; column = column }) (record { entry = there; exists = exists }) (cells_there entry low)
      | inr past ↦ missing_lists db of_query.tables characters_differ entry there column past accuracy
    ]
  ]
    where
      there : entry < length db.slots
      there = omega (arith, low, of_query.entries)

      same_ref : (a b c d : ℕ) → a ≡ c → b ≡ d → (let r : ColumnRef = record { from = a; column = b } in r) ≡ record { from = c; column = d }
      same_ref a b c d h k = rw (h, k) refl

  pub columns_have : (entry : ℕ) (cells : Cells) → entry < length query.from → cells ≡ cells_of db entry → (column : ℕ) → column < length cells.kinds → KeysHaveLists db.pool cells accuracy column
  columns_have entry cells low is column exists =
      let named : IsColumnOf db (record { from = entry; column = column }) =
      record { entry = omega (arith, low, of_query.entries); exists = subst (λ (t : Cells). column < length t.kinds) is exists } in
      subst (λ (t : Cells). KeysHaveLists db.pool t accuracy column) (sym is)
      (column_lists (tables_of db) accuracy entry column, of_column (record { from = entry; column = column }) named (cells_there entry low))

  -- ---- the statistics of each entry, and of each joined column

  module _ (sums : (entry column : ℕ) → SumTo (column_lists (tables_of db) accuracy entry column) (entry_counts (tables_of db) entry))
      (stats : QueryStats) (gathered : (entry : ℕ) → entry < length query.from → IsGathered query db accuracy entry (get_or stats.entries entry no_columns)) where
    asked_steps : (entry : ℕ) → entry < length query.from → (g : ColumnSteps) → Contains (asked_columns entry (equalities_of query)) g.column
        → AreStepsOf db.pool (cells_of db entry) accuracy (steps_of entry query.conjuncts) g
        → g.steps ≡ steps_with_lists query entry (column_lists (tables_of db) accuracy entry g.column)
    asked_steps entry low g k are = are (column_lists (tables_of db) accuracy entry g.column) (asked_lists_there entry g.column low k)

    tells_entry : (entry : ℕ) → entry < length query.from → HasRowBoundLists query stats (statistics_of (tables_of db) accuracy) entry
    tells_entry entry low =
        let here : IsGathered query db accuracy entry (get_or stats.entries entry no_columns) = gathered entry low in
        let columns : List ColumnSteps = columns_of stats entry in
        let some : 0 < length columns = omega (arith, asked_not_empty entry (equalities_of query), ap (λ (s : List ℕ). length s) here.columns, length-map columns (λ (g : ColumnSteps). g.column)) in
        let first = first_has (AreStepsOf db.pool (cells_of db entry) accuracy (steps_of entry query.conjuncts)) columns some here.steps in
        record {
          column = first.0.column;
          lists = ap (option_map (λ (g : ColumnSteps). g.steps)) first.1
              ∙ ap Some (asked_steps entry low first.0 (subst (λ (s : List ℕ). Contains s first.0.column) here.columns first.2) first.3);
          sums = sums entry first.0.column;
          small = omega (arith, here.rows, rows_are db entry);
        }

    tells_column : (p : Place) → Contains (places_of (equalities_of query)) p → HasColumnLists query stats (statistics_of (tables_of db) accuracy) p.entry p.column
    tells_column p k =
        let low : p.entry < length query.from = omega (arith, (place_exists query db of_query p k).entry, of_query.entries) in
        let here : IsGathered query db accuracy p.entry (get_or stats.entries p.entry no_columns) = gathered p.entry low in
        let asked : Contains (asked_columns p.entry (equalities_of query)) p.column = place_asked (equalities_of query) p k in
        let one = found_has (AreStepsOf db.pool (cells_of db p.entry) accuracy (steps_of p.entry query.conjuncts)) (columns_of stats p.entry) p.column
        (subst (λ (s : List ℕ). Contains s p.column) (sym here.columns) asked) here.steps in
        record {
          lists = ap (option_map (λ (g : ColumnSteps). g.steps)) one.1
              ∙ ap Some (asked_steps p.entry low one.0 (subst (λ (c : ℕ). Contains (asked_columns p.entry (equalities_of query)) c) (sym one.2) asked) one.3
              ∙ ap (λ (c : ℕ). steps_with_lists query p.entry (column_lists (tables_of db) accuracy p.entry c)) one.2);
          sums = sums p.entry p.column;
        }

    pub has_statistics : length stats.entries ≡ length query.from → HasStatistics query stats (statistics_of (tables_of db) accuracy)
    has_statistics as_many = record {
      one_each = as_many;
      entries = tells_entry;
      columns = from_members (λ (p : Place). HasColumnLists query stats (statistics_of (tables_of db) accuracy) p.entry p.column) (places_of (equalities_of query)) tells_column;
    }
