-- Statistics that are gathered over the widened table's rows have exactly the lists that are carried along the equality.
use Rattle.std.proofs.Common.{◌≡◌, ℕ, ◌+◌, ◌-◌, ◌<◌, ◌≤◌, min, eqb, List, [], ◌∷◌, ◌++◌, length, map, take, get_or, Option, Some, option_map, sum, refl, ap, sym, ◌∙◌, subst, inl, inr, ◌⊎◌, arith}
use Rattle.std.specs.Prelude.{slice_index_or}
use Rattle.std.specs.List.{All, Contains, IsDistinct, filter}
use Rattle.std.proofs.lemmas.List.{get_or-map, length-map, map-append, take_more}
use Rattle.std.proofs.lemmas.List.Elements.{All-contains, All-push, Contains-get_or}
use Rattle.entry_sets.proofs.Listing.{in_front, not_in_empty, in_rest, in_front_or_rest}
use Rattle.berge_tree.specs.declared.edges.Edge.{Edge}
use Rattle.berge_tree.specs.declared.edges.Place.{Place}
use Rattle.berge_tree.specs.Equalities.{places_of}
use Rattle.degree_sequences.proofs.Counting.{IsDistinct-different}
use Rattle.csv_tables.specs.Rows.{Row}
use Rattle.csv_tables.specs.declared.types.Database.{Database}
use Rattle.query_types.specs.declared.types.Query.{Query}
use Rattle.join_graph.specs.Conjuncts.{equalities_of}
use Rattle.schema_types.specs.declared.types.Schema.{Schema}
use Rattle.limits.specs.Profile.{most_rows}
use Rattle.tree_bounds.specs.Columns.{EachNamedColumn}
use Rattle.bound_fold.specs.declared.lists.EntryLists.{EntryLists}
use Rattle.bound_fold.specs.Lists.{list_of, row_bound_of}
use Rattle.sql_meaning.specs.Databases.{IsDatabaseOf}
use Rattle.sql_meaning.specs.Tables.{Tables, cells_of, row_counts, tables_of}
use Rattle.sql_meaning.proofs.LoopFacts.{rows_are}
use Rattle.level_bounds.specs.Keys.{HaveDifferentCharacters}
use Rattle.level_bounds.proofs.Lists.{from_members, from_filter, from_map, in_map}
use Rattle.reduced_scans.proofs.OfQuery.{JoinsKinds, joins_kinds}
use Rattle.filtered_lists.specs.Lists.{ColumnLists}
use Rattle.predicate_bounds.specs.declared.columns.ColumnSteps.{ColumnSteps}
use Rattle.predicate_bounds.specs.declared.columns.EntryStats.{EntryStats}
use Rattle.predicate_bounds.specs.declared.columns.QueryStats.{QueryStats}
use Rattle.predicate_bounds.specs.declared.running.ListStep.{ListStep}
use Rattle.predicate_bounds.specs.ListRuns.{after_list_steps, top_list}
use Rattle.predicate_bounds.specs.StatsLists.{steps_with_lists, columns_of, first_steps, list_on_top, list_in_stats, row_bound_in_stats}
use Rattle.predicate_bounds.proofs.Answering.{lists_answer}
use Rattle.gathered_stats.specs.Asked.{joined_columns}
use Rattle.gathered_stats.specs.PairedRows.{IsGatheredForPaired}
use Rattle.gathered_stats.specs.ShownCells.{AreRowNumbersOf}
use Rattle.gathered_stats.proofs.Joined.{joined_exist, place_exists, place_joined}
use Rattle.gathered_stats.proofs.StatisticsOfTables.{first_has, found_has}
use Rattle.key_carriers.specs.Carriers.{with_exchanged_sides, carrying_equalities, carries, exchanged}
use Rattle.key_carriers.specs.Cells.{AreOfOneKind}
use Rattle.key_carriers.specs.Widened.{referred, referring, tables_at}
use Rattle.key_carriers.proofs.Referring.{as_many, referring_at_most_rows, referred_rows_exist, referring_rows_exist}
use Rattle.key_stats.specs.declared.carried.CarriedBounds.{CarriedBounds}
use Rattle.key_stats.specs.Carrying.{HaveCarriedBounds, HasCarriedBounds}
use Rattle.key_stats.specs.Lists.{carried_list, carried_lists, carried_rows}
use Rattle.key_stats.proofs.CarriedLists.{carried_sum}
use Rattle.key_bounds.specs.Carrying.{ListsSumToRows, IsEqualityEitherWay}
use Rattle.key_bounds.proofs.CellsBeside.{lists_beside}

-- ---- an equality of the query, perhaps with its sides exchanged

from_both_ways : (es : List Edge) (e : Edge) → Contains (with_exchanged_sides es) e → ((f : Edge) × Contains es f × (e ≡ f)) ⊎ ((f : Edge) × Contains es f × (e ≡ exchanged f))
from_both_ways [] e has = absurd (not_in_empty e has)
from_both_ways (f ∷ es) e has = elim (in_front_or_rest f (exchanged f ∷ with_exchanged_sides es) e has) [
  | inr is ↦ inl (f, in_front f es f refl, is)
  | inl later ↦ elim (in_front_or_rest (exchanged f) (with_exchanged_sides es) e later) [
    | inr is ↦ inr (f, in_front f es f refl, is)
    | inl rest ↦ elim (from_both_ways es e rest) [
      | inl at ↦ inl (at.0, in_rest f es at.0 at.1, at.2)
      | inr at ↦ inr (at.0, in_rest f es at.0 at.1, at.2)
    ]
  ]
]

of_both_ways : (P : Edge → Type 0) (es : List Edge) (e : Edge) → ((f : Edge) → Contains es f → P f × P (exchanged f)) → Contains (with_exchanged_sides es) e → P e
of_both_ways P es e each has = elim (from_both_ways es e has) [
  | inl at ↦ subst P (sym at.2) (each at.0 at.1).0
  | inr at ↦ subst P (sym at.2) (each at.0 at.1).1
]

edge_places : (es : List Edge) (f : Edge) → Contains es f → Contains (places_of es) f.left × Contains (places_of es) f.right
edge_places [] f has = absurd (not_in_empty f has)
edge_places (e ∷ es) f has = elim (in_front_or_rest e es f has) [
  | inl later ↦ (let rest = edge_places es f later in (
    in_rest e.left (e.right ∷ places_of es) f.left (in_rest e.right (places_of es) f.left rest.0),
    in_rest e.left (e.right ∷ places_of es) f.right (in_rest e.right (places_of es) f.right rest.1),
  ))
  | inr is ↦ (
    in_front e.left (e.right ∷ places_of es) f.left (ap (λ (x : Edge). x.left) is),
    in_rest e.left (e.right ∷ places_of es) f.right (in_front e.right (places_of es) f.right (ap (λ (x : Edge). x.right) is)),
  )
]

min_at_most_right : (x y : ℕ) → min x y ≤ y
min_at_most_right x y = omega arith

module _ (query : Query) (db : Database) (of : IsDatabaseOf query db) (e : Edge) (joined : IsEqualityEitherWay query e) where
  pub of_one_kind : AreOfOneKind db e
  of_one_kind = of_both_ways (AreOfOneKind db) (equalities_of query) e (λ f has.
      let kinds : JoinsKinds db f = joins_kinds query db f of has in
      (record { text = kinds.text; left = kinds.left; right = kinds.right }, record { text = kinds.text; left = kinds.right; right = kinds.left })) joined

  pub left_entry_in_range : e.left.entry < length query.from
  left_entry_in_range = omega (arith, of_one_kind.left.exists.entry, of.entries)

  pub right_entry_in_range : e.right.entry < length query.from
  right_entry_in_range = omega (arith, of_one_kind.right.exists.entry, of.entries)

  pub rows_of_left : AreRowNumbersOf (cells_of db e.left.entry) (referring (tables_of db) e)
  rows_of_left = subst (λ (n : ℕ). All (λ row. row < n) (referring (tables_of db) e)) (rows_are db e.left.entry) (referring_rows_exist (tables_of db) e)

  pub rows_of_right : AreRowNumbersOf (cells_of db e.right.entry) (referred (tables_of db) e)
  rows_of_right = subst (λ (n : ℕ). All (λ row. row < n) (referred (tables_of db) e)) (rows_are db e.right.entry) (referred_rows_exist (tables_of db) e)

  left_joined : Contains (joined_columns e.left.entry (equalities_of query)) e.left.column
  left_joined = of_both_ways (λ f. Contains (joined_columns f.left.entry (equalities_of query)) f.left.column) (equalities_of query) e (λ f has.
      let places = edge_places (equalities_of query) f has in
      (place_joined (equalities_of query) f.left places.0, place_joined (equalities_of query) f.right places.1)) joined

  -- ---- statistics that were gathered for the rows of the widened table

  module _ (differ : HaveDifferentCharacters db.pool) (rows_within_limit : row_counts (tables_of db) e.left.entry ≤ most_rows) (accuracy : ℕ) (gathered : EntryStats)
      (is : IsGatheredForPaired query db accuracy e.right.entry (referred (tables_of db) e) e.left.entry (referring (tables_of db) e) gathered) where
    abbrev stats : QueryStats
    stats = record { entries = gathered ∷ [] }

    abbrev lists_at : ℕ → ColumnLists
    lists_at column = carried_lists (tables_of db) accuracy e column

    abbrev list_at : ℕ → List ℕ
    list_at column = carried_list query (tables_of db) accuracy e column

    abbrev IsCarried : ColumnSteps → Type 0
    IsCarried g = g.steps ≡ steps_with_lists query e.right.entry (lists_at g.column)

    abbrev numbers : List ℕ
    numbers = map (λ g. g.column) gathered.columns

    column_exists : (k : ℕ) (d : ColumnSteps) → k < length gathered.columns → (get_or gathered.columns k d).column < length (cells_of db e.left.entry).kinds
    column_exists k d k_in_range =
        let same : (get_or gathered.columns k d).column ≡ get_or (joined_columns e.left.entry (equalities_of query)) k 0 =
        sym (get_or-map (λ (g : ColumnSteps). g.column) gathered.columns k d 0 k_in_range) ∙ ap (λ (s : List ℕ). get_or s k 0) is.columns_are in
        let within : k < length (joined_columns e.left.entry (equalities_of query)) =
        omega (arith, k_in_range, ap (λ (s : List ℕ). length s) is.columns_are, length-map gathered.columns (λ (g : ColumnSteps). g.column)) in
        omega (arith, same, joined_exist query db of e.left.entry k 0 within)

    all_carried : All IsCarried gathered.columns
    all_carried k d k_in_range =
        is.steps_are k d k_in_range (lists_at (get_or gathered.columns k d).column)
        (lists_beside db of.tables differ e.right.entry e.left.entry of_one_kind.right.exists.entry of_one_kind.left.exists.entry (referred (tables_of db) e) (referring (tables_of db) e)
        rows_of_right rows_of_left (as_many (tables_of db) e) accuracy (get_or gathered.columns k d).column (column_exists k d k_in_range))

    left_of : (steps : List ListStep) (column : ℕ) → steps ≡ steps_with_lists query e.right.entry (lists_at column) → top_list (after_list_steps steps []) ≡ list_at column
    left_of steps column are =
        ap (λ (s : List ListStep). top_list (after_list_steps s [])) are ∙ ap top_list (lists_answer (lists_at column) e.right.entry query.conjuncts)

    list_is : (column : ℕ) → Contains numbers column → list_in_stats stats 0 column ≡ list_at column
    list_is column has =
        let one = found_has IsCarried gathered.columns column has all_carried in
        ap (λ (o : Option ColumnSteps). list_on_top (option_map (λ (g : ColumnSteps). g.steps) o)) one.1
        ∙ left_of one.0.steps column (one.3 ∙ ap (λ (c : ℕ). steps_with_lists query e.right.entry (lists_at c)) one.2)

    some : 0 < length gathered.columns
    some = omega (arith, left_joined.1, ap (λ (s : List ℕ). length s) is.columns_are, length-map gathered.columns (λ (g : ColumnSteps). g.column))

    few : carried_rows query (tables_of db) e ≤ most_rows
    few =
        let row_of : ℕ → Row = λ row. slice_index_or (tables_of db e.right.entry) row [] in
        let least : carried_rows query (tables_of db) e ≤ row_counts (tables_at (tables_of db) (referred (tables_of db) e)) e.right.entry =
        min_at_most_right _ (row_counts (tables_at (tables_of db) (referred (tables_of db) e)) e.right.entry) in
        omega (arith, least, length-map (referred (tables_of db) e) row_of, as_many (tables_of db) e, referring_at_most_rows (tables_of db) e, rows_within_limit)

    rows_is : row_bound_in_stats stats 0 ≡ carried_rows query (tables_of db) e
    rows_is =
        let first = first_has IsCarried gathered.columns some all_carried in
        let list : list_on_top (first_steps stats 0) ≡ list_at first.0.column =
        ap (λ (o : Option ColumnSteps). list_on_top (option_map (λ (g : ColumnSteps). g.steps) o)) first.1 ∙ left_of first.0.steps first.0.column first.3 in
        let all : sum (list_on_top (first_steps stats 0)) ≡ carried_rows query (tables_of db) e = ap sum list ∙ carried_sum query (tables_of db) e accuracy first.0.column in
        omega (arith, all, few)

    pub lists_sum_to_rows : ListsSumToRows stats
    lists_sum_to_rows = record {
      there = omega arith;
      some = some;
      apart = subst (IsDistinct eqb) (sym is.columns_are) (IsDistinct-different (map (λ (p : Place). p.column) (filter (λ (p : Place). eqb p.entry e.left.entry) (places_of (equalities_of query)))));
      sums = λ k d k_in_range.
          let g : ColumnSteps = get_or gathered.columns k d in
          ap sum (list_is g.column (in_map (λ (g : ColumnSteps). g.column) gathered.columns g (Contains-get_or gathered.columns k d k_in_range)))
          ∙ carried_sum query (tables_of db) e accuracy g.column ∙ sym rows_is;
    }

    pub told : (made : EntryLists) → row_bound_of made e.left.entry ≡ Some (row_bound_in_stats stats 0)
        → All (λ g. list_of made e.left.entry g.column ≡ Some (list_in_stats stats 0 g.column)) gathered.columns
        → HasCarriedBounds query (tables_of db) accuracy (record { edge = e; lists = made })
    told made rows lists = record {
      rows = rows ∙ ap Some rows_is;
      lists = from_members (λ (p : Place). p.entry ≡ e.left.entry → list_of made p.entry p.column ≡ Some (list_at p.column)) (places_of (equalities_of query)) (λ p has same.
          let there : Contains numbers p.column = subst (λ (s : List ℕ). Contains s p.column) (sym is.columns_are)
          (subst (λ (n : ℕ). Contains (joined_columns n (equalities_of query)) p.column) same (place_joined (equalities_of query) p has)) in
          let at = from_map (λ (g : ColumnSteps). g.column) gathered.columns p.column there in
          ap (λ (n : ℕ). list_of made n p.column) same ∙ ap (list_of made e.left.entry) at.2
          ∙ All-contains (λ (g : ColumnSteps). list_of made e.left.entry g.column ≡ Some (list_in_stats stats 0 g.column)) gathered.columns at.0 lists at.1
          ∙ ap (λ (c : ℕ). Some (list_in_stats stats 0 c)) (sym at.2) ∙ ap Some (list_is p.column there));
    }

    module _ (entries : List EntryStats) (only : entries ≡ gathered ∷ []) where
      abbrev of_entries : List EntryStats → QueryStats
      of_entries s = record { entries = s }

      pub entries_add_up : ListsSumToRows (of_entries entries)
      entries_add_up = subst (λ (s : List EntryStats). ListsSumToRows (of_entries s)) (sym only) lists_sum_to_rows

      pub entries_told : (made : EntryLists) → row_bound_of made e.left.entry ≡ Some (row_bound_in_stats (of_entries entries) 0)
          → All (λ g. list_of made e.left.entry g.column ≡ Some (list_in_stats (of_entries entries) 0 g.column)) (columns_of (of_entries entries) 0)
          → HasCarriedBounds query (tables_of db) accuracy (record { edge = e; lists = made })
      entries_told made rows lists =
          told made (rows ∙ ap (λ (s : List EntryStats). Some (row_bound_in_stats (of_entries s) 0)) only)
          (subst (λ (s : List EntryStats). All (λ g. list_of made e.left.entry g.column ≡ Some (list_in_stats (of_entries s) 0 g.column)) (columns_of (of_entries s) 0)) only lists)

pub as_widened : (query : Query) (db : Database) (accuracy : ℕ) (e : Edge) (others rows : List ℕ) (gathered : EntryStats) → others ≡ referred (tables_of db) e → rows ≡ referring (tables_of db) e
    → IsGatheredForPaired query db accuracy e.right.entry others e.left.entry rows gathered
    → IsGatheredForPaired query db accuracy e.right.entry (referred (tables_of db) e) e.left.entry (referring (tables_of db) e) gathered
as_widened query db accuracy e others rows gathered is same made =
    subst (λ (s : List ℕ). IsGatheredForPaired query db accuracy e.right.entry s e.left.entry (referring (tables_of db) e) gathered) is
    (subst (λ (s : List ℕ). IsGatheredForPaired query db accuracy e.right.entry others e.left.entry s gathered) same made)

-- ---- the equalities of a query

pub entries_named : (query : Query) (db : Database) → IsDatabaseOf query db → EachNamedColumn (λ entry column. entry < length query.from) (equalities_of query)
entries_named query db of =
    from_members (λ (p : Place). p.entry < length query.from) (places_of (equalities_of query)) (λ p has. omega (arith, (place_exists query db of p has).entry, of.entries))

pub carriers_joined : (schema : Schema) (query : Query) (es read : List Edge) → es ≡ carrying_equalities schema query → read ≡ es → All (IsEqualityEitherWay query) read
carriers_joined schema query es read are same =
    subst (All (IsEqualityEitherWay query)) (sym (same ∙ are)) (λ k d k_in_range.
    (from_filter (carries schema query) (with_exchanged_sides (equalities_of query)) (get_or (carrying_equalities schema query) k d) (Contains-get_or (carrying_equalities schema query) k d k_in_range)).0)

-- ---- the loop over the equalities

pub tell_along_after_step : (query : Query) (tables : Tables) (accuracy : ℕ) (es : List Edge) (i : ℕ) (d : Edge) (old new : List CarriedBounds) (one : CarriedBounds) → i < length es → one.edge ≡ get_or es i d
    → HasCarriedBounds query tables accuracy one → HaveCarriedBounds query tables accuracy (take i es) old → new ≡ old ++ one ∷ [] → HaveCarriedBounds query tables accuracy (take (i + 1) es) new
tell_along_after_step query tables accuracy es i d old new one i_in_range at here before pushed = record {
  edges = ap (map (λ (c : CarriedBounds). c.edge)) pushed ∙ map-append (λ (c : CarriedBounds). c.edge) old (one ∷ []) ∙ ap (λ (s : List Edge). s ++ one.edge ∷ []) before.edges
      ∙ ap (λ (x : Edge). take i es ++ x ∷ []) at ∙ sym (take_more es i d i_in_range);
  tell = subst (All (HasCarriedBounds query tables accuracy)) (sym pushed) (All-push (HasCarriedBounds query tables accuracy) old one before.tell here);
}
