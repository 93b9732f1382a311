-- One file of statistics, and two queries over the same tables.
use Rattle.std.specs.Prelude.{ℕ, ◌≡◌, ◌<◌, length, Some}
use Rattle.stats_file_of_query.specs.Files.{first_entry}
use Rattle.stats_file_of_query.specs.Needs.{table_of}
use Rattle.stats_file_of_query.specs.Standing.{section_of}
use Rattle.query_types.specs.declared.types.Query.{Query}
use Rattle.sql_meaning.specs.Tables.{Tables}
use Rattle.stats_file.specs.declared.types.StatsFile.{StatsFile}
use Rattle.stats_file.specs.declared.types.TableStats.{TableStats}

-- each section of the file is of a table that the query names
abbrev pub IsOfTables : Query → StatsFile → Type 0
IsOfTables query file = (table : ℕ) (section : TableStats) → section_of file table ≡ Some section → (first : ℕ) × (first_entry query table ≡ Some first)

-- if an entry of one query and an entry of the other query are of the same table, they have the same rows
abbrev pub HaveSameRows : Query → Tables → Query → Tables → Type 0
HaveSameRows query tables other other_tables =
    (entry other_entry : ℕ) → entry < length query.from → other_entry < length other.from → table_of query entry ≡ table_of other other_entry → tables entry ≡ other_tables other_entry
