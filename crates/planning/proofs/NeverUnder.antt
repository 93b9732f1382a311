-- No scan has more rows than its bound, and no level has more rows than the bound of its set. The reason is that bounds from statistics of the tables
-- stand for the scans.
use Rattle.std.proofs.Common.{◌≡◌, ◌⊎◌, ℕ, ◌<◌, ◌≤◌, ◌^◌, List, length, get_or, refl, sym, subst, arith}
use Rattle.std.specs.List.{Contains}
use Rattle.std.proofs.lemmas.List.{take_all}
use Rattle.std.proofs.lemmas.List.FromFn.{length-map-range_with_len}
use Rattle.limits.specs.Profile.{top_bound}
use Rattle.entry_sets.specs.Sets.{entries_of_set}
use Rattle.entry_sets.proofs.Listing.{set_entries, entry_below}
use Rattle.query_types.specs.declared.types.Query.{Query}
use Rattle.join_graph.specs.Conjuncts.{equalities_of}
use Rattle.tree_bounds.specs.TreeBounds.{EntryBounds}
use Rattle.set_bounds.specs.AllSets.{in_every_set}
use Rattle.sql_meaning.specs.Answers.{conjuncts_of}
use Rattle.sql_meaning.specs.Levels.{level_over}
use Rattle.sql_meaning.specs.Tables.{Tables, row_counts}
use Rattle.join_steps.specs.Lists.{list_at, scans_of}
use Rattle.join_steps.proofs.WholeScans.{levels_of_scans, scans_of_at, scans_are_of_scans}
use Rattle.level_bounds.specs.Keys.{Keys}
use Rattle.level_bounds.specs.Orders.{IsOrderOfSet}
use Rattle.level_bounds.specs.Scans.{level_over_entries, query_scan}
use Rattle.level_bounds.proofs.Lists.{from_members, at_member}
use Rattle.filtered_lists.specs.Standing.{ListsDescend, SumTo}
use Rattle.filtered_lists.proofs.Lists.{rows_within}
use Rattle.query_bounds.specs.Bounds.{entry_bounds, scan_bounds, scan_row_bound}
use Rattle.query_bounds.specs.Statistics.{StandFor, Statistics}
use Rattle.query_bounds.proofs.Levels.{scan_within}
use Rattle.query_bounds.proofs.Sets as sets
use Rattle.table_stats.specs.Statistics.{column_lists, entry_counts}
use Rattle.gathered_stats.specs.Statistics.{statistics_of}
use Rattle.planning.specs.Bounds.{scan_bounds_of, set_bounds_of}
use Rattle.planning.specs.Standing.{BoundLevels, BoundLists, EntriesStand}
use Rattle.planning.proofs.Facts.{Facts, each_column, facts, stand_for}
use Rattle.planning.proofs.FromLists.{levels_bound, stand_in_every_set}
use Rattle.planning.proofs.ScanBounds.{have_lists, stand_for_scans}

pub one_scan_each : (query : Query) (tables : Tables) (accuracy : ℕ) → length (scan_bounds_of query tables accuracy) ≡ length query.from
one_scan_each query tables accuracy = length-map-range_with_len (scan_row_bound query (statistics_of tables accuracy)) 0 (length query.from)

module _ (query : Query) (known : Statistics) (tables : Tables) (key : Keys) (stands : StandFor query known tables key) where
  scan_fits : (entry : ℕ) → entry < length query.from → length (query_scan query tables entry) ≤ get_or (scan_bounds query known) entry 0
  scan_fits entry entry_in_range = scan_within query known tables key entry (scan_bounds query known) refl stands entry_in_range

  pub scans_bound : ((entry : ℕ) → entry < length query.from → (known.counts entry).whole ≤ row_counts tables entry)
      → BoundLists query tables (scans_of query tables) (scan_bounds query known)
  scans_bound whole_within_table = record {
    one_each = length-map-range_with_len (scan_row_bound query known) 0 (length query.from);
    fit = λ entry entry_in_range.
        subst (λ (s : List ℕ). length s ≤ get_or (scan_bounds query known) entry 0) (sym (scans_of_at query tables entry entry_in_range)) (scan_fits entry entry_in_range);
    within = λ entry entry_in_range.
        omega (
          arith,
          sets.scan_at query known (length query.from) entry (scan_bounds query known) refl entry_in_range,
          rows_within (known.counts entry) entry query.conjuncts,
          whole_within_table entry entry_in_range,
        );
  }

module _ (query : Query) (tables : Tables) (accuracy : ℕ) where
  abbrev bounds : EntryBounds
  bounds = entry_bounds query (statistics_of tables accuracy)

  pub entries_stand : EntriesStand query tables (scans_of query tables) (facts tables accuracy).key (entry_bounds query (statistics_of tables accuracy))
  entries_stand =
      let f : Facts tables accuracy = facts tables accuracy in
      stand_for_scans query (statistics_of tables accuracy) tables f.key (stand_for query tables accuracy f)
      (have_lists query (statistics_of tables accuracy)
      (each_column (λ entry column. ListsDescend (column_lists tables accuracy entry column) × SumTo (column_lists tables accuracy entry column) (entry_counts tables entry))
      (equalities_of query) (λ entry column. (f.descends entry column, f.sums entry column))))
      (f.joins (equalities_of query))

  pub scan_never_under : (entry : ℕ) → entry < length query.from
      → length (query_scan query tables entry) ≤ get_or (scan_bounds_of query tables accuracy) entry 0
  scan_never_under entry entry_in_range =
      let f : Facts tables accuracy = facts tables accuracy in
      scan_fits query (statistics_of tables accuracy) tables f.key (stand_for query tables accuracy f) entry entry_in_range

  pub scans_are_bounded : BoundLists query tables (scans_of query tables) (scan_bounds_of query tables accuracy)
  scans_are_bounded =
      let f : Facts tables accuracy = facts tables accuracy in
      scans_bound query (statistics_of tables accuracy) tables f.key (stand_for query tables accuracy f) (λ entry entry_in_range. omega arith)

  pub scan_bound_within_table : (entry : ℕ) → entry < length query.from
      → get_or (scan_bounds_of query tables accuracy) entry 0 ≤ row_counts tables entry
  scan_bound_within_table = scans_are_bounded.within

  pub levels_are_bounded : BoundLevels query tables (scans_of query tables) (set_bounds_of query tables accuracy)
  levels_are_bounded =
      let key : Keys = (facts tables accuracy).key in
      levels_bound query tables (scans_of query tables) key (in_every_set bounds)
      (stand_in_every_set query tables (scans_of query tables) key bounds (scans_are_of_scans query tables) entries_stand)

  level_is : (subset : ℕ) (order : List ℕ) → subset < 2 ^ length query.from → IsOrderOfSet (entries_of_set subset) order
      → level_over (conjuncts_of query tables) (list_at (scans_of query tables)) order ≡ level_over_entries query tables order
  level_is subset order fits o =
      subst (λ (s : List ℕ). level_over (conjuncts_of query tables) (list_at (scans_of query tables)) s ≡ level_over_entries query tables s)
      (take_all (length order) order (omega arith))
      (levels_of_scans query tables order (length order) (from_members (λ entry. entry < length query.from) order entries_in_range) o.once)
    where
      entries_in_range : (entry : ℕ) → Contains order entry → entry < length query.from
      entries_in_range entry here = entry_below (length query.from) subset entry fits (set_entries subset entry (at_member (Contains (entries_of_set subset)) order o.within entry here))

  pub level_never_under : (subset : ℕ) (order : List ℕ) → subset < 2 ^ length query.from → IsOrderOfSet (entries_of_set subset) order
      → (length (level_over_entries query tables order) ≤ get_or (set_bounds_of query tables accuracy) subset 0)
      ⊎ (get_or (set_bounds_of query tables accuracy) subset 0 ≡ top_bound)
  level_never_under subset order fits o =
      subst (λ (level : List (List ℕ)). (length level ≤ get_or (set_bounds_of query tables accuracy) subset 0) ⊎ (get_or (set_bounds_of query tables accuracy) subset 0 ≡ top_bound))
      (level_is subset order fits o)
      (levels_are_bounded subset order fits o)
