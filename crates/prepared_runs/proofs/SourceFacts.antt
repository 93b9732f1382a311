-- The lists of each source lose no row of the answer, and no bound of a source is too low.
use Rattle.std.proofs.Common.{◌≡◌, ℕ, ◌^◌, List, length, None, ap, sym, ◌∙◌}
use Rattle.std.proofs.lemmas.List.FromFn.{length-map-range_with_len}
use Rattle.std.proofs.Math.Seq.{take-length}
use Rattle.schema_types.specs.declared.types.Schema.{Schema}
use Rattle.query_types.specs.Named.{NamesItsEntries}
use Rattle.query_types.specs.declared.types.Query.{Query}
use Rattle.join_graph.specs.Conjuncts.{equalities_of}
use Rattle.sql_meaning.specs.Answers.{conjuncts_of}
use Rattle.sql_meaning.specs.Levels.{level_of, level_over}
use Rattle.sql_meaning.specs.Tables.{Tables, row_counts}
use Rattle.join_steps.specs.Lists.{list_at, scans_of}
use Rattle.join_steps.proofs.WholeScans.{scans_are_of_scans}
use Rattle.tree_bounds.specs.TreeBounds.{EntryBounds}
use Rattle.set_bounds.specs.AllSets.{bound_in_128_bits, bounds_in_sets, in_every_set}
use Rattle.query_bounds.specs.Bounds.{entry_bounds}
use Rattle.gathered_stats.specs.Statistics.{statistics_of}
use Rattle.reduced_scans.specs.Rounds.{reduced_of}
use Rattle.reduced_scans.proofs.ByRounds.{reduced_scans_by_rounds}
use Rattle.reduced_scans.proofs.SameLevel.{same_level}
use Rattle.planning.specs.ListedBounds.{entry_bounds_over}
use Rattle.planning.proofs.ListBounds.{sizes_bound}
use Rattle.planning.proofs.ListedPlans.{level_never_under_over}
use Rattle.planning.proofs.NeverUnder.{scans_are_bounded, levels_are_bounded}
use Rattle.planning.proofs.ReducedPlans.{levels_of_scans, reduced_of_scans}
use Rattle.planning.specs.Standing.{BoundLevels, BoundLists}
use Rattle.key_bounds.specs.Bounds.{bounds_by_keys}
use Rattle.key_bounds.proofs.Plans.{levels_by_keys}
use Rattle.counted_bounds.specs.Bounds.{counted_bound}
use Rattle.counted_factors.specs.Limits.{counts_made}
use Rattle.counted_planning.specs.Bounds.{set_bounds_by_counts}
use Rattle.counted_planning.proofs.InSets.{bound_levels}
use Rattle.stats_file.specs.declared.types.StatsFile.{StatsFile}
use Rattle.stats_file_of_query.specs.Standing.{StandsFor}
use Rattle.stats_file_bounds.specs.Entries.{KeepsRulesOfSome}
use Rattle.stats_file_bounds.specs.FileStatistics.{stats_file_statistics}
use Rattle.stats_file_bounds.specs.Found.{first_missing}
use Rattle.stats_file_bounds.proofs.FromFiles.{all_sets as file_sets, levels_fit, scans_fit}
use Rattle.prepared_runs.specs.Sources.{SourceNeeds, sets_by, lists_by, scans_by, bounds_and_lists_by, sourced_of_file}
use Rattle.prepared_runs.specs.Standing.{BoundSingles, IsSource, LoseNoRow}
use Rattle.prepared_runs.proofs.Singles.{counted_singles, keyed_singles, listed_singles, statistics_singles}
use Rattle.safebound_words.specs.declared.command.ListSource.{ListSource}
use Rattle.safebound_words.specs.declared.command.ListSource.TheVariants as sources

-- ---- the facts for each source

module _ (query : Query) (tables : Tables) where
  whole_rows : LoseNoRow query tables (scans_of query tables)
  whole_rows = record { scanned = scans_are_of_scans query tables; last = λ own order is. levels_of_scans query tables order (length order) is }

  reduced_rows : LoseNoRow query tables (reduced_of query tables)
  reduced_rows = record {
    scanned = reduced_of_scans query tables;
    last = λ own order is.
        ap (λ (placed : List ℕ). level_over (conjuncts_of query tables) (list_at (reduced_of query tables)) placed) (take-length order)
        ∙ same_level query tables (reduced_of query tables) (reduced_scans_by_rounds query tables) own order is
        ∙ sym (ap (λ (placed : List ℕ). level_of (conjuncts_of query tables) (row_counts tables) placed) (take-length order));
  }

  pub rows_kept : (source : ListSource) → LoseNoRow query tables (lists_by source query tables)
  unfolding lists_by
  rows_kept sources.Columns = whole_rows
  rows_kept sources.Keyed = whole_rows
  rows_kept sources.Reduced = reduced_rows
  rows_kept sources.Counted = reduced_rows

  pub scans_bound : (source : ListSource) (accuracy : ℕ) → BoundLists query tables (lists_by source query tables) (scans_by source query tables accuracy)
  unfolding lists_by scans_by
  scans_bound sources.Columns accuracy = scans_are_bounded query tables accuracy
  scans_bound sources.Keyed accuracy = scans_are_bounded query tables accuracy
  scans_bound sources.Reduced accuracy = sizes_bound query tables (reduced_of query tables) (reduced_of_scans query tables)
  scans_bound sources.Counted accuracy = sizes_bound query tables (reduced_of query tables) (reduced_of_scans query tables)

  many : (bounds : ℕ → EntryBounds) → length (bounds_in_sets bounds (equalities_of query) (length query.from)) ≡ 2 ^ length query.from
  many bounds = length-map-range_with_len (λ subset. bound_in_128_bits (bounds subset) (equalities_of query) subset) 0 (2 ^ length query.from)

  counted_levels : BoundLevels query tables (reduced_of query tables) (set_bounds_by_counts query tables (reduced_of query tables))
  unfolding set_bounds_by_counts
  counted_levels = bound_levels (counts_made query tables (reduced_of query tables)) query tables (reduced_of query tables)

  counted_sets : length (set_bounds_by_counts query tables (reduced_of query tables)) ≡ 2 ^ length query.from
  unfolding set_bounds_by_counts
  counted_sets =
      length-map-range_with_len (counted_bound (counts_made query tables (reduced_of query tables)) query tables (reduced_of query tables)) 0 (2 ^ length query.from)

  module _ (schema : Schema) where
    levels_bound : (source : ListSource) → SourceNeeds source schema query tables → (accuracy : ℕ)
        → BoundLevels query tables (lists_by source query tables) (sets_by source schema query tables accuracy)
    unfolding sets_by lists_by
    levels_bound sources.Columns needs accuracy = levels_are_bounded query tables accuracy
    levels_bound sources.Keyed needs accuracy = levels_by_keys schema query tables accuracy needs
    levels_bound sources.Reduced needs accuracy =
        λ subset order fits o. level_never_under_over query tables (reduced_of query tables) accuracy subset order (reduced_of_scans query tables) fits o
    levels_bound sources.Counted needs accuracy = counted_levels

    pub all_sets : (source : ListSource) (accuracy : ℕ) → length (sets_by source schema query tables accuracy) ≡ 2 ^ length query.from
    unfolding sets_by
    all_sets sources.Columns accuracy = many (in_every_set (entry_bounds query (statistics_of tables accuracy)))
    all_sets sources.Keyed accuracy = many (bounds_by_keys schema query tables accuracy)
    all_sets sources.Reduced accuracy = many (in_every_set (entry_bounds_over tables (reduced_of query tables) accuracy))
    all_sets sources.Counted accuracy = counted_sets

    pub single_bounds : (source : ListSource) (accuracy : ℕ) → BoundSingles (length query.from) (sets_by source schema query tables accuracy) (scans_by source query tables accuracy)
    unfolding sets_by scans_by
    single_bounds sources.Columns accuracy = statistics_singles query (statistics_of tables accuracy)
    single_bounds sources.Keyed accuracy = keyed_singles schema query tables accuracy
    single_bounds sources.Reduced accuracy = listed_singles query tables (reduced_of query tables) accuracy
    single_bounds sources.Counted accuracy = counted_singles query tables (reduced_of query tables) (reduced_of_scans query tables)

    pub stand : (source : ListSource) → SourceNeeds source schema query tables → IsSource query tables (bounds_and_lists_by source schema query tables)
    stand source needs = record {
      rows = rows_kept source;
      of_scans = scans_bound source;
      of_sets = levels_bound source needs;
      of_all_sets = all_sets source;
      of_single = single_bounds source;
    }

-- ---- what a statistics file gives, for tables for which it stands

pub file_is_source : (query : Query) (file : StatsFile) → NamesItsEntries query → KeepsRulesOfSome file → first_missing query file ≡ None → (tables : Tables) → StandsFor query file tables
    → IsSource query tables (sourced_of_file query file tables)
file_is_source query file own is none tables stands = record {
  rows = whole_rows query tables;
  of_scans = λ accuracy. scans_fit query file own is none tables stands;
  of_sets = λ accuracy. levels_fit query file own is none tables stands;
  of_all_sets = λ accuracy. file_sets query file;
  of_single = λ accuracy. statistics_singles query (stats_file_statistics query file);
}
