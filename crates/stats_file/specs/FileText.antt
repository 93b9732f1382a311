-- The text of a statistics file, line by line.
use Rattle.std.specs.Prelude.{ℕ, List, [], ◌∷◌, ◌++◌, Option, Some, None, map, slice_get, codes}
use Rattle.std.specs.List.{concat, flat_map}
use Rattle.schema_types.specs.declared.types.Column.{Column}
use Rattle.schema_types.specs.declared.types.Schema.{Schema}
use Rattle.schema_types.specs.declared.types.Table.{Table}
use Rattle.stats_file.specs.declared.types.Datum.{Datum}
use Rattle.stats_file.specs.declared.types.PairStats.{PairStats}
use Rattle.stats_file.specs.declared.types.TableStats.{TableStats}
use Rattle.stats_file.specs.declared.types.StatsFile.{StatsFile}
use Rattle.stats_file.specs.Lines.{cut_line, end_line, first_line, frequent_line, list_line, pair_line, table_line}
use Rattle.stats_file.specs.Runs.{runs_of}

abbrev pub column_name : Option Column → List ℕ
column_name None = []
column_name (Some column) = column.name

-- the name of the table's column at this position
abbrev pub name_at : Table → ℕ → List ℕ
name_at table place = column_name (slice_get table.columns place)

-- the line of a frequent value, with its list
abbrev pub value_line : Datum × List ℕ → List ℕ
value_line frequent = frequent_line frequent.0 (runs_of frequent.1)

abbrev pub histogram_node_line : List ℕ → List ℕ
histogram_node_line node = list_line (codes "node") (runs_of node)

unfoldable pub pair_lines : Table → PairStats → List (List ℕ)
pair_lines table pair = pair_line (name_at table pair.filter) (name_at table pair.joined)
    ∷ (list_line (codes "whole") (runs_of pair.whole) ∷ (map value_line pair.frequent
    ++ (list_line (codes "rest") (runs_of pair.rest) ∷ (map cut_line pair.cuts ++ map histogram_node_line pair.nodes))))

-- the lines of a table's section: first a line for the table, then the lines of its pairs. A section has no line if the schema lacks its table
unfoldable pub table_lines : Option Table → TableStats → List (List ℕ)
table_lines None section = []
table_lines (Some table) section = table_line table.name section.rows ∷ flat_map (pair_lines table) section.pairs

abbrev pub section_lines : Schema → TableStats → List (List ℕ)
section_lines schema section = table_lines (slice_get schema.tables section.table) section

-- the lines of a file: the first line, the lines of each section, and the end line. The file's text is all lines joined
unfoldable pub file_lines : Schema → StatsFile → List (List ℕ)
file_lines schema file = first_line file.accuracy ∷ (flat_map (section_lines schema) file.tables ++ (end_line ∷ []))

abbrev pub file_text : Schema → StatsFile → List ℕ
file_text schema file = concat (file_lines schema file)
