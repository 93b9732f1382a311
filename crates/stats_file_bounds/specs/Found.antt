-- Tests whether a statistics file has the sections and pairs that a query needs.
use Rattle.std.specs.Prelude.{ℕ, ◌==◌, ◌&&◌, not, Bool, false, List, [], Option, None, Some, find, is_some, length, unwrap_or}
use Rattle.std.specs.List.{list_all, range_with_len}
use Rattle.query_types.specs.declared.types.Query.{Query}
use Rattle.stats_file.specs.declared.types.PairStats.{PairStats}
use Rattle.stats_file.specs.declared.types.StatsFile.{StatsFile}
use Rattle.stats_file.specs.declared.types.TableStats.{TableStats}
use Rattle.stats_file_of_query.specs.declared.column_pairs.ColumnPair.{ColumnPair}
use Rattle.stats_file_of_query.specs.Needs.{needed, table_of}
use Rattle.stats_file_of_query.specs.Standing.{section_of}

-- the pair of two columns in a section, if the section has one
abbrev pub are_columns : ℕ → ℕ → PairStats → Bool
are_columns filter joined pair = pair.filter == filter && pair.joined == joined

abbrev pub pair_in : TableStats → ℕ → ℕ → Option PairStats
pair_in section filter joined = find (are_columns filter joined) section.pairs

abbrev pub has_pair : TableStats → ColumnPair → Bool
has_pair section pair = is_some (pair_in section pair.filter pair.joined)

-- whether a section was found that has all of these pairs
abbrev pub has_each_pair : List ColumnPair → Option TableStats → Bool
has_each_pair pairs None = false
has_each_pair pairs (Some section) = list_all (has_pair section) pairs

-- whether the file lacks a section or a pair that an entry needs
abbrev pub is_missing : Query → StatsFile → ℕ → Bool
is_missing query file entry = not (has_each_pair (needed query entry) (section_of file (table_of query entry)))

-- the first entry for which the file lacks something, if there is one
abbrev pub first_missing : Query → StatsFile → Option ℕ
first_missing query file = find (is_missing query file) (range_with_len 0 (length query.from))

-- ---- the default pair and section

abbrev pub no_pair : PairStats
no_pair = record { filter = 0; joined = 0; whole = []; frequent = []; rest = []; cuts = []; nodes = [] }

abbrev pub no_section : TableStats
no_section = record { table = 0; rows = 0; pairs = [] }

abbrev pub pair_for : TableStats → ℕ → ℕ → PairStats
pair_for section filter joined = unwrap_or (pair_in section filter joined) no_pair

abbrev pub section_for : Query → StatsFile → ℕ → TableStats
section_for query file entry = unwrap_or (section_of file (table_of query entry)) no_section
