-- When rows may be appended to a table of a file.
use Rattle.std.specs.Prelude.{ℕ, ◌≡◌, ◌+◌, ◌^◌, ◌<◌, ◌≤◌, ◌==◌, if◌then◌else◌, ◌++◌, All, List, length, sum}
use Rattle.std.specs.Str.{IsUtf8}
use Rattle.limits.specs.Profile.{most_rows}
use Rattle.csv_tables.specs.Cells.{AreCellsOf}
use Rattle.csv_tables.specs.Rows.{Row}
use Rattle.csv_tables.specs.declared.types.Cells.{Cells}
use Rattle.level_bounds.specs.Keys.{HaveDifferentCharacters}
use Rattle.query_types.specs.declared.types.Query.{Query}
use Rattle.schema_types.specs.declared.types.Schema.{Schema}
use Rattle.sql_meaning.specs.Tables.{Tables}
use Rattle.stats_file.specs.declared.types.Datum.{Datum}
use Rattle.stats_file.specs.declared.types.PairStats.{PairStats}
use Rattle.stats_file.specs.declared.types.StatsFile.{StatsFile}
use Rattle.stats_file.specs.declared.types.TableStats.{TableStats}
use Rattle.stats_file.specs.Rules.{KeepsRules}
use Rattle.stats_file_of_query.specs.Needs.{table_of}
use Rattle.stats_file_of_query.specs.Files.{table_at}

-- if the section is this table's section, it has at most `most_rows` rows together with `more` new rows
abbrev pub FitsRowLimit : ℕ → ℕ → TableStats → Type 0
FitsRowLimit table more section = section.table ≡ table → section.rows + more ≤ most_rows

-- rows may be appended: the file keeps the rules, and the cells are cells of this table. The texts are UTF-8, no two texts have the same characters,
-- and no section gets too many rows
pub record MayAppend (schema : Schema) (file : StatsFile) (table : ℕ) (texts : List (List ℕ)) (cells : Cells) : Type 0 where
  pub rules : KeepsRules schema file
  pub cells_are : AreCellsOf (table_at schema table) texts cells
  pub utf8 : All IsUtf8 texts
  pub differ : HaveDifferentCharacters texts
  pub room : All (FitsRowLimit table cells.rows) file.tables

-- a pair may grow: the cells have its two columns and fewer than 2^32 rows. The pair has at most 32 cuts, and the sum of each of its lists is below
-- 2^32. If its table had rows, the pair has 63 nodes
pub record MayGrow (cells : Cells) (before : ℕ) (pair : PairStats) : Type 0 where
  pub filter : pair.filter < length cells.kinds
  pub joined : pair.joined < length cells.kinds
  pub rows : cells.rows < 2 ^ 32
  pub cuts : length pair.cuts ≤ 32
  pub whole : sum pair.whole < 2 ^ 32
  pub rest : sum pair.rest < 2 ^ 32
  pub frequent : All (λ (found : Datum × List ℕ). sum found.1 < 2 ^ 32) pair.frequent
  pub nodes : All (λ (list : List ℕ). sum list < 2 ^ 32) pair.nodes
  pub node_count : 0 < before → length pair.nodes ≡ 63

-- a section may grow: with the new rows it has fewer than 2^32 rows, and each of its pairs may grow
pub record SectionMayGrow (cells : Cells) (section : TableStats) : Type 0 where
  pub room : section.rows + cells.rows < 2 ^ 32
  pub pairs : All (MayGrow cells section.rows) section.pairs

abbrev pub MayGrowWhere : ℕ → Cells → TableStats → Type 0
MayGrowWhere table cells section = section.table ≡ table → SectionMayGrow cells section

-- `after` has the query's tables after `table` got new rows. Each entry of this table has the new rows after its old rows, and every other entry has
-- its old rows
abbrev pub HasNewRows : Query → ℕ → List Row → Tables → Tables → Type 0
HasNewRows query table rows tables after =
    (entry : ℕ) → entry < length query.from → after entry ≡ (if table_of query entry == table then tables entry ++ rows else tables entry)
