-- The statistics file of a query.
use Rattle.std.specs.Prelude.{ℕ, ◌==◌, List, [], length, map, Option, option_map, find, slice_index_or}
use Rattle.std.specs.List.{filter, filter_map, flat_map, list_any, range_with_len}
use Rattle.query_types.specs.declared.types.Query.{Query}
use Rattle.schema_types.specs.declared.types.Schema.{Schema}
use Rattle.schema_types.specs.declared.types.Table.{Table}
use Rattle.sql_meaning.specs.Tables.{Tables, row_counts}
use Rattle.stats_file.specs.declared.types.StatsFile.{StatsFile}
use Rattle.stats_file.specs.declared.types.TableStats.{TableStats}
use Rattle.stats_file_of_query.specs.declared.column_pairs.ColumnPair.{ColumnPair}
use Rattle.stats_file_of_query.specs.Needs.{needed_of_table, table_of}
use Rattle.stats_file_of_query.specs.ColumnPairs.{is_pair}
use Rattle.stats_file_of_query.specs.Pairs.{pair_in_table}

-- ---- the section of a table

-- the columns, among the first `count` columns, with which a filter column makes a needed pair, in ascending order
abbrev pub joined_with : List ColumnPair → ℕ → ℕ → List ℕ
joined_with needed count column = filter (λ joined. list_any (is_pair column joined) needed) (range_with_len 0 count)

-- the results of `make` for all needed pairs, ordered by the filter column and then by the joined column
abbrev pub for_each_pair : {A : Type 0} → (ℕ → ℕ → A) → List ColumnPair → ℕ → List A
for_each_pair make needed count = flat_map (λ column. map (make column) (joined_with needed count column)) (range_with_len 0 count)

-- the default for a table that the schema lacks: a table without columns
abbrev pub no_table : Table
no_table = record { name = []; columns = []; keys = []; references = [] }

abbrev pub table_at : Schema → ℕ → Table
table_at schema table = slice_index_or schema.tables table no_table

abbrev pub column_count : Schema → ℕ → ℕ
column_count schema table = length (table_at schema table).columns

-- the first FROM entry that is this table, if the query names the table
abbrev pub first_entry : Query → ℕ → Option ℕ
first_entry query table = find (λ entry. table_of query entry == table) (range_with_len 0 (length query.from))

-- the section of a table at an accuracy: the number of rows, and all pairs that an entry of the table needs. It is made from the rows of `entry`, an
-- entry of the table
abbrev pub section_of_table : Schema → Query → Tables → ℕ → ℕ → ℕ → TableStats
section_of_table schema query tables accuracy table entry = record {
  table = table;
  rows = row_counts tables entry;
  pairs = for_each_pair (pair_in_table tables accuracy entry) (needed_of_table query table) (column_count schema table);
}

-- ---- the file of a query

-- the results of `make` for each table, among the first `count` tables, that the query names. The second argument of `make` is the table's first
-- entry
abbrev pub for_each_table : {A : Type 0} → (ℕ → ℕ → A) → Query → ℕ → List A
for_each_table make query count = filter_map (λ table. option_map (make table) (first_entry query table)) (range_with_len 0 count)

-- the file of a query over its tables: the sections of the tables that the query names, in the schema's order
abbrev pub file_of_query : Schema → Query → Tables → ℕ → StatsFile
file_of_query schema query tables accuracy = record {
  accuracy = accuracy;
  tables = for_each_table (section_of_table schema query tables accuracy) query (length schema.tables);
}
