-- The databases from which the statistics file of a query can be made.
use Rattle.std.specs.Prelude.{ℕ, ◌<◌, All, List, length}
use Rattle.std.specs.Str.{IsUtf8}
use Rattle.csv_tables.specs.Cells.{AreCellsOf}
use Rattle.csv_tables.specs.declared.types.Database.{Database}
use Rattle.level_bounds.specs.Keys.{HaveDifferentCharacters}
use Rattle.query_types.specs.Validity.{IsQueryOf}
use Rattle.query_types.specs.declared.types.Query.{Query}
use Rattle.schema_types.specs.Validity.{IsValid}
use Rattle.schema_types.specs.declared.types.Schema.{Schema}
use Rattle.sql_meaning.specs.Databases.{IsDatabaseOf}
use Rattle.sql_meaning.specs.Tables.{cells_of}
use Rattle.stats_file.specs.declared.types.TableStats.{TableStats}
use Rattle.stats_file_of_query.specs.Needs.{needed_of_table, table_of}
use Rattle.stats_file_of_query.specs.Files.{for_each_pair, for_each_table, table_at}
use Rattle.stats_file_of_query.specs.Pairs.{pair_in_cells}

-- the query is a query of the schema, and the database fits the query; each entry has the cells of its table
pub record FitsQuery (schema : Schema) (query : Query) (db : Database) : Type 0 where
  pub schema_is : IsValid schema
  pub query_is : IsQueryOf schema query
  pub database : IsDatabaseOf query db
  pub cells : (entry : ℕ) → entry < length query.from → AreCellsOf (table_at schema (table_of query entry)) db.pool (cells_of db entry)

-- `FitsQuery` holds, the pool's texts are UTF-8, and no two texts have the same characters. Each `Pool` of a running program satisfies both
-- conditions on texts
pub record FitsQueryAndTexts (schema : Schema) (query : Query) (db : Database) : Type 0 where
  pub of : FitsQuery schema query db
  pub texts : All IsUtf8 db.pool
  pub differ : HaveDifferentCharacters db.pool

-- the section of a table, made from the cells of a FROM entry of this table
abbrev pub section_of_cells : Query → Database → ℕ → ℕ → ℕ → TableStats
section_of_cells query db accuracy table entry = record {
  table = table;
  rows = (cells_of db entry).rows;
  pairs = for_each_pair (pair_in_cells db.pool (cells_of db entry) accuracy) (needed_of_table query table) (length (cells_of db entry).kinds);
}

abbrev pub sections_of_cells : Query → Database → ℕ → ℕ → List TableStats
sections_of_cells query db accuracy count = for_each_table (section_of_cells query db accuracy) query count
