-- A statistics file after rows were appended to one of its tables.
use Rattle.std.specs.Prelude.{ℕ, ◌+◌, ◌==◌, if◌then◌else◌, List, length, map}
use Rattle.csv_tables.specs.Rows.{Row}
use Rattle.csv_tables.specs.Values.{Value}
use Rattle.sql_meaning.specs.Tables.{Tables}
use Rattle.stats_file.specs.declared.types.PairStats.{PairStats}
use Rattle.stats_file.specs.declared.types.StatsFile.{StatsFile}
use Rattle.stats_file.specs.declared.types.TableStats.{TableStats}
use Rattle.table_stats.specs.Columns.{column_values, paired, value_of_row}
use Rattle.stats_file_of_query.specs.Pairs.{pair_in_table}
use Rattle.appended_stats.specs.Grown.{grown_pair}

-- tables in which every entry has these rows
abbrev pub tables_of_rows : List Row → Tables
tables_of_rows rows entry = rows

-- the values of these rows in a column
abbrev pub values_in : List Row → ℕ → List Value
values_in rows column = column_values (tables_of_rows rows) 0 column

-- a pair after the append, if its table had `before` rows. If `before` is 0, the pair is made from the new rows alone
abbrev pub pair_after : ℕ → ℕ → List Row → PairStats → PairStats
pair_after accuracy before rows pair =
    if before == 0 then pair_in_table (tables_of_rows rows) accuracy 0 pair.filter pair.joined
    else grown_pair (value_of_row (values_in rows pair.filter)) accuracy (paired (values_in rows pair.filter) (values_in rows pair.joined)) pair

-- the section of the table that gets the rows, after the append
abbrev pub section_after : ℕ → List Row → TableStats → TableStats
section_after accuracy rows section = record {
  table = section.table;
  rows = section.rows + length rows;
  pairs = map (pair_after accuracy section.rows rows) section.pairs;
}

-- the file after the append. The section of this table has grown, and all other sections are unchanged
abbrev pub file_after : StatsFile → ℕ → List Row → StatsFile
file_after file table rows = record {
  accuracy = file.accuracy;
  tables = map (λ (section : TableStats). if section.table == table then section_after file.accuracy rows section else section) file.tables;
}
