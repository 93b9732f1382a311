-- The definitions of Appended.antt for cells in place of values. The code makes the pairs and sections defined here.
use Rattle.std.specs.Prelude.{ℕ, ◌+◌, ◌==◌, if◌then◌else◌, List, map}
use Rattle.csv_tables.specs.Cells.{value_of_cell}
use Rattle.csv_tables.specs.declared.types.Cells.{Cells}
use Rattle.column_stats.specs.Pairs.{kind_of_column, rows_of_pair}
use Rattle.stats_file.specs.declared.types.PairStats.{PairStats}
use Rattle.stats_file.specs.declared.types.TableStats.{TableStats}
use Rattle.stats_file_of_query.specs.Pairs.{pair_in_cells}
use Rattle.appended_stats.specs.Grown.{grown_pair}

abbrev pub grown_by_cells : List (List ℕ) → Cells → ℕ → PairStats → PairStats
grown_by_cells texts cells accuracy pair =
    grown_pair (value_of_cell texts (kind_of_column cells pair.filter)) accuracy (rows_of_pair cells pair.filter pair.joined) pair

abbrev pub pair_by_cells : List (List ℕ) → Cells → ℕ → ℕ → PairStats → PairStats
pair_by_cells texts cells accuracy before pair =
    if before == 0 then pair_in_cells texts cells accuracy pair.filter pair.joined else grown_by_cells texts cells accuracy pair

abbrev pub section_by_cells : List (List ℕ) → Cells → ℕ → TableStats → TableStats
section_by_cells texts cells accuracy section = record {
  table = section.table;
  rows = section.rows + cells.rows;
  pairs = map (pair_by_cells texts cells accuracy section.rows) section.pairs;
}

-- the section after the append: grown if it is this table's section, otherwise unchanged
abbrev pub section_after_by_cells : List (List ℕ) → Cells → ℕ → ℕ → TableStats → TableStats
section_after_by_cells texts cells accuracy table section = if section.table == table then section_by_cells texts cells accuracy section else section
