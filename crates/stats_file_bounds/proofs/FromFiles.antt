-- If a file stands for tables, no bound from the file is too low for them. There is a bound for each set and a bound for each scan.
use Rattle.std.proofs.Common.{◌≡◌, ℕ, ◌^◌, ◌<◌, ◌≤◌, length, get_or, None, ap, ◌∙◌, arith}
use Rattle.std.proofs.lemmas.List.FromFn.{length-map-range_with_len}
use Rattle.std.specs.List.{Contains}
use Rattle.berge_tree.specs.declared.edges.Place.{Place}
use Rattle.berge_tree.specs.Equalities.{places_of}
use Rattle.stats_file_bounds.specs.Entries.{KeepsRulesOfSome, IsSectionOfSome}
use Rattle.stats_file_bounds.specs.FileStatistics.{stats_file_counts, stats_file_lists, stats_file_statistics}
use Rattle.stats_file_bounds.specs.Found.{first_missing, is_missing, section_for}
use Rattle.stats_file_bounds.proofs.Finding.{none_passes}
use Rattle.stats_file_bounds.proofs.Small.{whole_within}
use Rattle.stats_file_bounds.proofs.Sums.{contained, sums_are}
use Rattle.stats_file_bounds.proofs.Telling.{IsThere, is_there, section_from_file, its_pairs, place_entry_in_range, section_is}
use Rattle.stats_file_bounds.proofs.NeverUnder.{joined_has, known_stands}
use Rattle.stats_file_bounds.specs.Bounds.{scan_bounds_of_file, set_bounds_of_file}
use Rattle.stats_file_bounds.proofs.Descending.{file_lists_descend}
use Rattle.stats_file_of_query.specs.Standing.{StandsFor}
use Rattle.filtered_lists.specs.Standing.{ListsDescend, SumTo}
use Rattle.join_graph.specs.Conjuncts.{equalities_of}
use Rattle.join_steps.specs.Lists.{scans_of}
use Rattle.join_steps.proofs.WholeScans.{scans_are_of_scans}
use Rattle.level_bounds.specs.Keys.{Keys}
use Rattle.level_bounds.proofs.Lists.{from_members}
use Rattle.stats_file_of_query.specs.Needs.{needs_of}
use Rattle.planning.specs.Standing.{BoundLevels, BoundLists, EntriesStand, JoinedHaveLists}
use Rattle.planning.proofs.FromLists.{levels_bound, stand_in_every_set}
use Rattle.planning.proofs.NeverUnder.{scans_bound}
use Rattle.planning.proofs.ScanBounds.{have_lists, stand_for_scans}
use Rattle.query_bounds.specs.Bounds.{entry_bounds, scan_row_bound}
use Rattle.query_bounds.specs.Statistics.{StandFor, Statistics}
use Rattle.query_types.specs.Named.{NamesItsEntries}
use Rattle.query_types.specs.declared.types.Query.{Query}
use Rattle.set_bounds.specs.AllSets.{bound_in_128_bits, in_every_set}
use Rattle.sql_meaning.specs.Tables.{Tables, row_counts}
use Rattle.stats_file.specs.declared.types.StatsFile.{StatsFile}
use Rattle.stats_file.specs.declared.types.TableStats.{TableStats}
use Rattle.table_stats.proofs.ValueNumbers.{have_keys}

module _ (query : Query) (file : StatsFile) (own : NamesItsEntries query) (is : KeepsRulesOfSome file) (none_missing : first_missing query file ≡ None) where
  abbrev known : Statistics
  known = stats_file_statistics query file

  there : (entry : ℕ) → entry < length query.from → IsThere query file entry
  there entry entry_in_range = is_there query file entry (none_passes (is_missing query file) 0 (length query.from) none_missing entry (omega arith) (omega (arith, entry_in_range)))

  from_stats_file : (entry : ℕ) → entry < length query.from → IsSectionOfSome (section_for query file entry)
  from_stats_file entry entry_in_range = section_from_file query file is entry (there entry entry_in_range)

  joined_lists_descend_and_sum : (p : Place) → Contains (places_of (equalities_of query)) p
      → ListsDescend (stats_file_lists (section_for query file p.entry) (needs_of query p.entry) p.column)
      × SumTo (stats_file_lists (section_for query file p.entry) (needs_of query p.entry) p.column) (stats_file_counts (section_for query file p.entry) (needs_of query p.entry))
  joined_lists_descend_and_sum p has =
      let in_range : p.entry < length query.from = place_entry_in_range query own p has in (
        file_lists_descend (section_for query file p.entry) (from_stats_file p.entry in_range) (needs_of query p.entry) p.column,
        sums_are (section_for query file p.entry) (from_stats_file p.entry in_range) (needs_of query p.entry) (its_pairs query file is p.entry (there p.entry in_range)) p.column
            (contained (needs_of query p.entry) p.column (joined_has (equalities_of query) p has)),
      )

  joined_lists : JoinedHaveLists query (entry_bounds query (stats_file_statistics query file))
  joined_lists =
      have_lists query (stats_file_statistics query file)
      (from_members (λ (p : Place). ListsDescend (stats_file_lists (section_for query file p.entry) (needs_of query p.entry) p.column)
      × SumTo (stats_file_lists (section_for query file p.entry) (needs_of query p.entry) p.column) (stats_file_counts (section_for query file p.entry) (needs_of query p.entry)))
      (places_of (equalities_of query)) joined_lists_descend_and_sum)

  module _ (tables : Tables) (stands : StandsFor query file tables) where
    abbrev key : Keys
    key = (have_keys tables).0

    its_stands : StandFor query (stats_file_statistics query file) tables (have_keys tables).0
    its_stands = known_stands query file is tables (have_keys tables).0 stands none_missing own (have_keys tables).1

    rows_are : (entry : ℕ) → entry < length query.from → (section_for query file entry).rows ≡ row_counts tables entry
    rows_are entry entry_in_range =
        let t : IsThere query file entry = there entry entry_in_range in ap (λ (section : TableStats). section.rows) (section_is query file entry t) ∙ (stands entry t.section entry_in_range t.is).rows

    pub few_rows : (entry : ℕ) → entry < length query.from → row_counts tables entry ≤ 4000000
    few_rows entry entry_in_range = omega (arith, rows_are entry entry_in_range, (from_stats_file entry entry_in_range).is.rows)

    counted_rows_within_table : (entry : ℕ) → entry < length query.from → (stats_file_counts (section_for query file entry) (needs_of query entry)).whole ≤ row_counts tables entry
    counted_rows_within_table entry entry_in_range =
        omega (
          arith,
          whole_within (section_for query file entry) (from_stats_file entry entry_in_range) (needs_of query entry) (get_or (needs_of query entry).joined 0 0),
          rows_are entry entry_in_range,
        )

    pub levels_fit : BoundLevels query tables (scans_of query tables) (set_bounds_of_file query file)
    levels_fit =
        let entries : EntriesStand query tables (scans_of query tables) key (entry_bounds query known) =
        stand_for_scans query known tables key its_stands joined_lists ((have_keys tables).2 (equalities_of query)) in
        levels_bound query tables (scans_of query tables) key (in_every_set (entry_bounds query known))
        (stand_in_every_set query tables (scans_of query tables) key (entry_bounds query known) (scans_are_of_scans query tables) entries)

    pub scans_fit : BoundLists query tables (scans_of query tables) (scan_bounds_of_file query file)
    scans_fit = scans_bound query known tables key its_stands counted_rows_within_table

-- ---- the number of bounds

pub one_scan_bound_each : (query : Query) (file : StatsFile) → length (scan_bounds_of_file query file) ≡ length query.from
one_scan_bound_each query file = length-map-range_with_len (scan_row_bound query (stats_file_statistics query file)) 0 (length query.from)

pub all_sets : (query : Query) (file : StatsFile) → length (set_bounds_of_file query file) ≡ 2 ^ length query.from
all_sets query file =
    length-map-range_with_len (λ subset. bound_in_128_bits (entry_bounds query (stats_file_statistics query file)) (equalities_of query) subset) 0 (2 ^ length query.from)
