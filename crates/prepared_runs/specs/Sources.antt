-- The sources of bounds. A run has one source, which gives its bounds and the rows that are joined. Each function below has a line for each
-- source. Two more places depend on the source, since they say which sources join reduced scans: `BoundsHold` in AcceptedQuery, and
-- `AreScans` of safebound_top, in the promise.
use Rattle.std.specs.Prelude.{ℕ, List, ⊤}
use Rattle.schema_types.specs.declared.types.Schema.{Schema}
use Rattle.query_types.specs.declared.types.Query.{Query}
use Rattle.sql_meaning.specs.Tables.{Tables}
use Rattle.join_steps.specs.Lists.{list_sizes, scans_of}
use Rattle.reduced_scans.specs.Rounds.{reduced_of}
use Rattle.planning.specs.Bounds.{scan_bounds_of, set_bounds_of}
use Rattle.planning.specs.ListedBounds.{set_bounds_over}
use Rattle.key_carriers.specs.DeclaredKeys.{DeclaredKeysHold}
use Rattle.key_bounds.specs.Bounds.{set_bounds_by_keys}
use Rattle.counted_planning.specs.Bounds.{set_bounds_by_counts}
use Rattle.stats_file.specs.declared.types.StatsFile.{StatsFile}
use Rattle.stats_file_bounds.specs.Bounds.{scan_bounds_of_file, set_bounds_of_file}
use Rattle.safebound_words.specs.declared.command.ListSource.{ListSource}
use Rattle.safebound_words.specs.declared.command.ListSource.TheVariants as sources

-- for each entry the rows that are joined: its scan, or its reduced scan
unfoldable pub lists_by : ListSource → Query → Tables → List (List ℕ)
lists_by sources.Columns query tables = scans_of query tables
lists_by sources.Keyed query tables = scans_of query tables
lists_by sources.Reduced query tables = reduced_of query tables
lists_by sources.Counted query tables = reduced_of query tables

-- for each entry the bound of its scan, at an accuracy: its row bound by the statistics of its table, or the number of rows of its reduced scan
unfoldable pub scans_by : ListSource → Query → Tables → ℕ → List ℕ
scans_by sources.Columns query tables accuracy = scan_bounds_of query tables accuracy
scans_by sources.Keyed query tables accuracy = scan_bounds_of query tables accuracy
scans_by sources.Reduced query tables accuracy = list_sizes query (reduced_of query tables)
scans_by sources.Counted query tables accuracy = list_sizes query (reduced_of query tables)

-- for each set of entries its bound, at an accuracy. Columns: by statistics of whole columns. Keyed: by statistics of whole columns, and of
-- conditions that are carried along declared keys within the set. Reduced: by degree lists of reduced scans. Counted: by counting over
-- reduced scans, without compression
unfoldable pub sets_by : ListSource → Schema → Query → Tables → ℕ → List ℕ
sets_by sources.Columns schema query tables accuracy = set_bounds_of query tables accuracy
sets_by sources.Keyed schema query tables accuracy = set_bounds_by_keys schema query tables accuracy
sets_by sources.Reduced schema query tables accuracy = set_bounds_over query tables (reduced_of query tables) accuracy
sets_by sources.Counted schema query tables accuracy = set_bounds_by_counts query tables (reduced_of query tables)

-- the result of a source for a query over tables: at each accuracy a bound for each set of entries and a bound for each scan, and for each entry the
-- rows that are joined
pub record BoundsAndLists : Type 0 where
  pub sets : ℕ → List ℕ
  pub scans : ℕ → List ℕ
  pub lists : List (List ℕ)

abbrev pub bounds_and_lists_by : ListSource → Schema → Query → Tables → BoundsAndLists
bounds_and_lists_by source schema query tables = record {
  sets = sets_by source schema query tables;
  scans = scans_by source query tables;
  lists = lists_by source query tables;
}

-- the bounds that a statistics file gives for a query, which are the same at each accuracy; as lists, the scans of the given tables
abbrev pub sourced_of_file : Query → StatsFile → Tables → BoundsAndLists
sourced_of_file query file tables = record {
  sets = λ accuracy. set_bounds_of_file query file;
  scans = λ accuracy. scan_bounds_of_file query file;
  lists = scans_of query tables;
}

-- the condition of a source on the tables: the source Keyed carries conditions along declared keys, so the declared keys must hold. They hold in all
-- tables that were read from files
abbrev pub SourceNeeds : ListSource → Schema → Query → Tables → Type 0
SourceNeeds sources.Columns schema query tables = ⊤
SourceNeeds sources.Keyed schema query tables = DeclaredKeysHold schema query tables
SourceNeeds sources.Reduced schema query tables = ⊤
SourceNeeds sources.Counted schema query tables = ⊤
